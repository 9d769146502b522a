use Rattle.std.proofs.Common.{◌≡◌, ◌≤◌, ◌<◌, ◌+◌, ◌-◌, length, ℕ, true}
use Rattle.std.specs.Char.{is_ascii_hexdigit}
use Rattle.fluent_syntax_grammar.specs.Places.{has}
use Rattle.fluent_syntax_parser.proofs.source.Source.hex_end.Given as goal

abbrev pub invariant-loop-end : goal.invariant-loop-end
invariant-loop-end l = record {
  forward : l.ptr ≤ l.end;
  most : l.end ≤ l.ptr + l.most;
  within : l.end ≤ length l.self.bytes.now;
  each : (k : ℕ) → l.ptr ≤ k → k < l.end → has l.self.bytes.now is_ascii_hexdigit k ≡ true;
}

abbrev pub decreases-loop-end : goal.decreases-loop-end
decreases-loop-end l = length l.self.bytes.now - l.end
