use Rattle.std.proofs.Common.{◌≡◌, ◌≤◌, ◌<◌, ◌-◌, length, ℕ, true}
use Rattle.fluent_syntax_grammar.specs.Bytes.{is_name_byte}
use Rattle.fluent_syntax_grammar.specs.Places.{has}
use Rattle.fluent_syntax_parser.proofs.source.Source.name_end.Given as goal

abbrev pub invariant-loop-end : goal.invariant-loop-end
invariant-loop-end l = record {
  forward : l.ptr ≤ l.end;
  within : l.end ≤ length l.self.bytes.now;
  each : (k : ℕ) → l.ptr ≤ k → k < l.end → has l.self.bytes.now is_name_byte k ≡ true;
}

abbrev pub decreases-loop-end : goal.decreases-loop-end
decreases-loop-end l = length l.self.bytes.now - l.end

abbrev pub invariant-loop-end-2 : goal.invariant-loop-end-2
invariant-loop-end-2 l = record {
  forward : l.ptr ≤ l.end;
  within : l.end ≤ length l.self.bytes.now;
  each : (k : ℕ) → l.ptr ≤ k → k < l.end → has l.self.bytes.now is_name_byte k ≡ true;
}

abbrev pub decreases-loop-end-2 : goal.decreases-loop-end-2
decreases-loop-end-2 l = length l.self.bytes.now - l.end
