use Rattle.std.proofs.Common.{sym, ◌∙◌, nat_eq, rules, tests}
use lib.Pointwise.{pointwise}
use Rattle.std.proofs.lemmas.Iterator.{YieldsList-from_slice}
use Rattle.std.proofs.lemmas.Iterator.Search.{any_from_yields_List}
use Rattle.fluent_syntax_writer.specs.Names.{name_of}
use Rattle.fluent_syntax_writer.proofs.canonical.argument_names.is_used.Goals as goal
use Rattle.fluent_syntax_tree.proofs.Lists.{list_any-map}

pub returns : goal.returns
returns g c =
    let name = name_of g.T.ReadTexts.text in
    let is = pointwise nat_eq c.args.name.now in
    let yields = YieldsList-from_slice c.args.named.now c.iter.ensures.rest in
    any_from_yields_List (λ a. is (name a)) _ _ _ c.any.ensures.ran yields (λ x b q k. search (rules, tests))
    ∙ sym (list_any-map is name c.args.named.now)
