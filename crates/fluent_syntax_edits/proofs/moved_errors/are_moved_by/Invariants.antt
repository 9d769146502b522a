use Rattle.std.proofs.Common.{◌≡◌, map, take}
use Rattle.std.specs.Prelude.{option_map}
use Rattle.fluent_syntax_parser.specs.Faults.{fault_of}
use Rattle.fluent_syntax_edits.specs.Passed.{MoveFrom}
use Rattle.fluent_syntax_edits.specs.SeveralEdits.{moved_by}
use Rattle.fluent_syntax_edits.proofs.moved_errors.are_moved_by.Given as goal

abbrev pub invariant-loop-index : goal.invariant-loop-index
invariant-loop-index l = record {
  same :
      map fault_of (take l.index l.others)
      ≡ map (option_map (moved_by 0 0 l.replacements)) (map fault_of (take l.index l.errors));
  from : MoveFrom l.replacements l.passed;
}
