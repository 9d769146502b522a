use Rattle.std.proofs.Common.{◌≡◌, map, take}
use Rattle.std.specs.Prelude.{option_map}
use Rattle.fluent_syntax_parser.specs.Faults.{fault_of}
use Rattle.fluent_syntax_edits.specs.Errors.{moved_fault}
use Rattle.fluent_syntax_edits.proofs.reading.are_moved.Given as goal

abbrev pub invariant-loop-index : goal.invariant-loop-index
invariant-loop-index l = record {
  same :
      map fault_of (take l.index l.others)
      ≡ map (option_map (moved_fault l.shift.replaced l.shift.to)) (map fault_of (take l.index l.errors));
}
