use Rattle.std.proofs.Common.{refl, sym, ap, ◌∙◌}
use Rattle.std.specs.Option.{option_copied}
use Rattle.fluent_syntax_tree.specs.View.{element_view}
use Rattle.fluent_syntax_grammar.specs.Readable.{begins_with_placeable}
use Rattle.fluent_syntax_writer.specs.Places.{is_placeable}
use Rattle.fluent_syntax_writer.proofs.rules.Positions.{first_is_tested, none_is_tested, begins_with_placeable-first}
use Rattle.fluent_syntax_writer.proofs.canonical.elements.begins_with_placeable.Goals as goal

pub returns-in-Some : goal.returns-in-Some
returns-in-Some g c =
    let view = element_view g.T.ReadTexts.text in
    let first = sym c.first.ensures.value ∙ ap option_copied c.in-Some.is in
    let tested = first_is_tested view begins_with_placeable is_placeable begins_with_placeable-first _ _ first in
    rw tested c.is_placeable.ensures

pub returns-in-None : goal.returns-in-None
returns-in-None g c =
    let first = sym c.first.ensures.value ∙ ap option_copied c.in-None.is in
    sym (none_is_tested (element_view g.T.ReadTexts.text) begins_with_placeable refl _ first)
