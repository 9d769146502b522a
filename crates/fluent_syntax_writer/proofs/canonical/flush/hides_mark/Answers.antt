use Rattle.std.proofs.Common.{refl, sym, ap, ◌∙◌}
use Rattle.std.specs.Prelude.{slice_get}
use Rattle.std.specs.Option.{option_copied}
use Rattle.fluent_syntax_tree.specs.View.{element_view}
use Rattle.fluent_syntax_tree.proofs.Views.{view-Pattern}
use Rattle.fluent_syntax_grammar.specs.Canonical.{hides_mark}
use Rattle.fluent_syntax_writer.specs.Places.{element_hides_mark}
use Rattle.fluent_syntax_writer.proofs.rules.Positions.{first_is_tested, none_is_tested, hides_mark-first}
use Rattle.fluent_syntax_writer.proofs.canonical.flush.hides_mark.Goals as goal

pub returns-in-Some : goal.returns-in-Some
returns-in-Some g c =
    let view = element_view g.T.ReadTexts.text in
    let first = sym c.first.ensures.value ∙ ap option_copied c.in-Some.is in
    let is = ap (λ es. slice_get es 0) (sym c.deref.ensures.value) ∙ first in
    let tested = first_is_tested view hides_mark element_hides_mark hides_mark-first _ _ is in
    rw (view-Pattern, tested) c.element_hides_mark.ensures

pub returns-in-None : goal.returns-in-None
returns-in-None g c =
    let first = sym c.first.ensures.value ∙ ap option_copied c.in-None.is in
    let is = ap (λ es. slice_get es 0) (sym c.deref.ensures.value) ∙ first in
    rw view-Pattern (sym (none_is_tested (element_view g.T.ReadTexts.text) hides_mark refl _ is))
