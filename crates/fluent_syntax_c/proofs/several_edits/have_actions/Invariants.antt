use Rattle.std.proofs.Common.{take}
use Rattle.std.specs.List.{All}
use Rattle.fluent_syntax_c.specs.SeveralEdits.{HasAction}
use Rattle.fluent_syntax_c.proofs.several_edits.have_actions.Given as goal

abbrev pub invariant-loop-edit : goal.invariant-loop-edit
invariant-loop-edit l = All HasAction (take l.edit-index l.edits)
