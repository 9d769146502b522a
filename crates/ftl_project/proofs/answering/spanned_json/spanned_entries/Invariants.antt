use Rattle.std.proofs.Common.{◌≡◌, ◌-◌, length}
use Rattle.std.specs.Prelude.{string_bytes}
use Rattle.ftl_project.proofs.answering.spanned_json.spanned_entries.Given as goal

abbrev pub invariant-loop-body : goal.invariant-loop-body
invariant-loop-body l = l.entries.source.bytes.now ≡ string_bytes l.text

abbrev pub decreases-loop-body : goal.decreases-loop-body
decreases-loop-body l = length (string_bytes l.text) - l.entries.ptr
