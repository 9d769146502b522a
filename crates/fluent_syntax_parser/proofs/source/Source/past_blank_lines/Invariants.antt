use Rattle.std.proofs.Common.{◌≤◌, ◌-◌, length, ℕ}
use Rattle.fluent_syntax_grammar.specs.Places.{BlankBlock}
use Rattle.fluent_syntax_parser.proofs.source.Source.past_blank_lines.Given as goal

-- what is a blank block from here on, is one from the start on
abbrev pub invariant-loop-next : goal.invariant-loop-next
invariant-loop-next l = record {
  forward : l.ptr ≤ l.start;
  within : l.start ≤ length l.self.bytes.now;
  block : (j : ℕ) → BlankBlock l.self.bytes.now l.start j → BlankBlock l.self.bytes.now l.ptr j;
}

abbrev pub decreases-loop-next : goal.decreases-loop-next
decreases-loop-next l = length l.self.bytes.now - l.start
