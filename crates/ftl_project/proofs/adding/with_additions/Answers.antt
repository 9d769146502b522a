use Rattle.std.proofs.Common.{map}
use Rattle.fluent_syntax_edits.specs.SeveralEdits.{numbered_change}
use Rattle.ftl_project.proofs.adding.with_additions.Goals as goal

pub returns-in-Ok : goal.returns-in-Ok
returns-in-Ok c =
    let made = rw c.deref.ensures.value at c.in-Ok.ensures in
    record {
      changes = map numbered_change c.in_ok-edits.edits.items;
      added = c.in_ok-edits.ensures;
      replacements = made.0;
      made = made.1;
      text = made.2;
    }
