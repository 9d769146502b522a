use Rattle.std.proofs.Common.{List, ℕ, not, sym, ◌∙◌, rules, tests}
use Rattle.std.proofs.lemmas.Iterator.{YieldsList-from_slice}
use Rattle.std.proofs.lemmas.Iterator.Search.{all_from_yields_List}
use Rattle.std.proofs.lemmas.List.Folds.{list_all-map}
use Rattle.fluent_syntax_grammar.specs.Written.{has_lf}
use Rattle.fluent_syntax_writer.proofs.canonical.comments.are_lines.Goals as goal

pub returns : goal.returns
returns g c =
    let f = g.T.ReadTexts.text in
    let test = λ (line : List ℕ). not (has_lf line) in
    let yields = YieldsList-from_slice c.args.content.now c.iter.ensures.rest in
    all_from_yields_List (λ x. test (f x)) _ _ _ c.all.ensures.ran yields (λ x b q k. search (rules, tests))
    ∙ sym (list_all-map test f c.args.content.now)
