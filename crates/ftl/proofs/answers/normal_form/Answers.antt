use Rattle.std.proofs.Common.{◌∙◌}
use Rattle.ftl.proofs.WroteEntries.{written_entries_are_normal}
use Rattle.ftl.proofs.answers.normal_form.Goals as goal

pub returns-clause-text : goal.returns-clause-text
returns-clause-text c =
    let read = c.in_ok-outcome.ensures.written in
    let has = written_entries_are_normal read.2 c.new-writer.ensures in
    (read.0, read.1, c.in_ok-text.ensures _ _ _ has, read.3, c.all_canonical-is_canonical.ensures ∙ has.canonical)
