use Rattle.std.proofs.Common.{take}
use Rattle.std.specs.List.{All}
use Rattle.fluent_syntax_c.specs.SeveralEdits.{HasTexts}
use Rattle.fluent_syntax_c.proofs.several_edits.have_texts.Given as goal

abbrev pub invariant-loop-edit : goal.invariant-loop-edit
invariant-loop-edit l = All HasTexts (take l.edit-index l.edits)
