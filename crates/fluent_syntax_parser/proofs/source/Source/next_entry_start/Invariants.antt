use Rattle.std.proofs.Common.{length, ◌-◌, ◌≡◌, ◌<◌, ◌≤◌, false, ℕ}
use Rattle.fluent_syntax_grammar.specs.Tiling.{starts_entry}
use Rattle.fluent_syntax_parser.proofs.source.Source.next_entry_start.Given as goal

abbrev pub invariant-loop-place : goal.invariant-loop-place
invariant-loop-place l = record {
  forward : l.ptr ≤ l.place;
  within : l.place ≤ length l.self.bytes.now;
  nearest : (k : ℕ) → l.ptr ≤ k → k < l.place → starts_entry l.self.bytes.now k ≡ false;
}

abbrev pub decreases-loop-place : goal.decreases-loop-place
decreases-loop-place l = length l.self.bytes.now - l.place
