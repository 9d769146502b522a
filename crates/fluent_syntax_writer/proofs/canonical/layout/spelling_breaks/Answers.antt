use Rattle.std.proofs.Common.{sym, ◌∙◌}
use Rattle.fluent_syntax_writer.proofs.rules.Plain.{text_keeps_every_spelling_rule}
use Rattle.fluent_syntax_writer.proofs.canonical.layout.spelling_breaks.Goals as goal

pub returns-then-is_text : goal.returns-then-is_text
returns-then-is_text c = λ rule.
    let text = sym c.is_text.ensures ∙ c.if-is_text.true in
    c.none.ensures rule ∙ sym (text_keeps_every_spelling_rule rule c.args.text.now text)
