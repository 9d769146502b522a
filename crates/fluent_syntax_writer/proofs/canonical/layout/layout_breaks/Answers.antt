use Rattle.std.proofs.Common.{sym, ◌∙◌}
use Rattle.fluent_syntax_tree.specs.View.{pattern_view}
use Rattle.fluent_syntax_writer.proofs.rules.Plain.{plain_pattern_keeps}
use Rattle.fluent_syntax_writer.proofs.canonical.layout.layout_breaks.Goals as goal

pub returns-then-is_plain_pattern : goal.returns-then-is_plain_pattern
returns-then-is_plain_pattern g c = λ k.
    let pattern = pattern_view g.T.ReadTexts.text c.args.pattern.now in
    let plain = sym c.is_plain_pattern.ensures ∙ c.if-is_plain_pattern.true in
    c.none.ensures k ∙ sym (plain_pattern_keeps c.args.edition k pattern plain)
