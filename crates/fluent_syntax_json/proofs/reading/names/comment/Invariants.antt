use Rattle.std.proofs.Common.{◌≡◌, Some, map, string_bytes}
use Rattle.serde_json.specs.Find.{as_str}
use Rattle.fluent_syntax_json.proofs.Items.{so_far}
use Rattle.fluent_syntax_json.proofs.reading.names.comment.Given as goal

abbrev pub invariant-loop-line : goal.invariant-loop-line
invariant-loop-line l =
    so_far as_str l.line-items l.line-index ≡ Some (map string_bytes l.lines.items)
