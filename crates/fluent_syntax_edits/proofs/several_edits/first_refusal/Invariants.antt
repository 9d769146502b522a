use Rattle.std.proofs.Common.{◌≡◌, drop, map}
use Rattle.fluent_syntax_edits.specs.SeveralEdits.{first_refusal, numbered_change}
use Rattle.fluent_syntax_edits.proofs.several_edits.first_refusal.Given as goal

abbrev pub invariant-loop-edit : goal.invariant-loop-edit
invariant-loop-edit l = record {
  rest :
      first_refusal l.edition (map numbered_change (drop l.edit-index l.edits))
      ≡ first_refusal l.edition (map numbered_change l.edits);
}
