use Rattle.std.proofs.Common.{◌≡◌, ◌≢◌, ◌-◌, ◌+◌, ◌≤◌, ◌<◌, ℕ, get_or}
use Rattle.fluent_syntax.specs.Lines.{line_at}
use Rattle.fluent_syntax.proofs.lines.Lines.line_column.Given as goal

abbrev pub invariant-loop-at : goal.invariant-loop-at
invariant-loop-at l = record {
  counted : l.line ≡ line_at l.self-inside.text.now l.at;
  few : l.line ≤ l.at + 1;
  before : l.start ≤ l.at;
  starts : 0 < l.start → get_or l.self-inside.text.now (l.start - 1) 0 ≡ 10;
  same_line : (k : ℕ) → l.start ≤ k → k < l.at → get_or l.self-inside.text.now k 0 ≢ 10;
}
