use Rattle.std.proofs.Common.{rules, tests, not, ap, ◌∙◌}
use Rattle.std.specs.List.{list_any}
use Rattle.std.proofs.lemmas.Iterator.{YieldsList-from_slice}
use Rattle.std.proofs.lemmas.Iterator.Search.{any_from_yields_List}
use Rattle.fluent_syntax_grammar.specs.Bytes.{is_space}
use Rattle.fluent_syntax_grammar.proofs.texts.is_nonblank.Goals as goal

pub returns : goal.returns
returns c =
    let found = any_from_yields_List (λ b. not (is_space b)) _ _ c.any.result c.any.ensures.ran
    (YieldsList-from_slice c.without_last_lf.result.now cc)
    (λ x b q k. search
    (rules, tests)) in
    found ∙ ap (list_any (λ b. not (is_space b))) c.without_last_lf.ensures
