use Rattle.std.proofs.Common.{arith, sym, ◌∙◌}
use Rattle.fluent_syntax_tree.specs.View.{element_view}
use Rattle.fluent_syntax_tree.proofs.Views.{view-Pattern}
use Rattle.fluent_syntax_writer.proofs.rules.Plain.{single_element_decides_plain_pattern, others_are_not_plain}
use Rattle.fluent_syntax_writer.proofs.canonical.plain.is_plain_pattern.Goals as goal

pub returns-in-len1 : goal.returns-in-len1
returns-in-len1 g c =
    rw (view-Pattern, ← c.as_slice.ensures.value)
    (c.is_plain_element.ensures ∙
    sym (single_element_decides_plain_pattern (element_view g.T.ReadTexts.text) c.as_slice.result.now
    c.element-item.result (omega (arith, c.in-len1.len_at_least, c.in-len1.len_below)) c.element-item.is))

pub returns-in_default : goal.returns-in_default
returns-in_default g c =
    rw (view-Pattern, ← c.as_slice.ensures.value)
    (sym (others_are_not_plain (element_view g.T.ReadTexts.text) c.as_slice.result.now
    (λ one. omega (arith, one, c.in_default.len_below))))

pub returns-in_default-2 : goal.returns-in_default-2
returns-in_default-2 g c =
    rw (view-Pattern, ← c.as_slice.ensures.value)
    (sym (others_are_not_plain (element_view g.T.ReadTexts.text) c.as_slice.result.now
    (λ one. omega (arith, one, c.in_default.len_at_least))))
