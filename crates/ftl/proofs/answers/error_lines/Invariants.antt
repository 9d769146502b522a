use Rattle.std.proofs.Common.{◌≡◌, map, string_bytes, take}
use Rattle.std.specs.List.{flat_map}
use Rattle.ftl.specs.Answer.{error_line, error_fault}
use Rattle.ftl.proofs.answers.error_lines.Given as goal

abbrev pub invariant-loop-error : goal.invariant-loop-error
invariant-loop-error l = record {
  places : l.places ≡ l.text;
  so_far : string_bytes l.out ≡ flat_map (error_line l.text) (map error_fault (take l.error-index l.errors));
}
