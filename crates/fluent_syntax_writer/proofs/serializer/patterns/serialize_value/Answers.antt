use Rattle.std.proofs.Common.{ℕ, codes, refl, sym, ◌∙◌, rules}
use Rattle.fluent_syntax_tree.proofs.Views.{view-Pattern}
use Rattle.fluent_syntax_grammar.proofs.MarksWritten.{writing}
use Rattle.fluent_syntax_writer.proofs.Splits.{Writes-split}
use Rattle.fluent_syntax_writer.proofs.serializer.patterns.serialize_value.Goals as goal

pub returns-then-is_multiline : goal.returns-then-is_multiline
returns-then-is_multiline g c = rw (sym c.is_multiline.ensures ∙ c.if-is_multiline.true) (search (rules, writing))

pub returns-else-is_multiline : goal.returns-else-is_multiline
returns-else-is_multiline g c =
    let flat = sym c.is_multiline.ensures ∙ c.if-is_multiline.false in
    let equals_sign : ℕ = 61 in
    let both = Writes-split (codes " ") equals_sign (codes " ") refl (search writing) in
    record { written = rw (flat, view-Pattern, ← c.deref.ensures.value) both }
