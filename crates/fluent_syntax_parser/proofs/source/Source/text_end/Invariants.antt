use Rattle.std.proofs.Common.{length, ◌-◌, ◌≡◌, ◌<◌, ◌≤◌, ℕ, true}
use Rattle.fluent_syntax_grammar.specs.Places.{has}
use Rattle.fluent_syntax_grammar.specs.Lanes.{is_passed}
use Rattle.fluent_syntax_parser.proofs.source.Source.text_end.Given as goal

abbrev pub invariant-loop-looks : goal.invariant-loop-looks
invariant-loop-looks l = record {
  forward : l.ptr ≤ l.end;
  within : l.end ≤ length l.self.bytes.now;
  each : (k : ℕ) → l.ptr ≤ k → k < l.end → has l.self.bytes.now is_passed k ≡ true;
}

abbrev pub decreases-loop-looks : goal.decreases-loop-looks
decreases-loop-looks l = length l.self.bytes.now - l.end
