use Rattle.std.proofs.Common.{◌≡◌, ℕ, ◌<◌, true, get_or}
use Rattle.fluent_syntax.specs.Flat.{starts_line, may_occur}
use Rattle.fluent_syntax.proofs.flat.is_flat.Given as goal

abbrev pub invariant-loop-byte : goal.invariant-loop-byte
invariant-loop-byte l = record {
  bytes : l.byte-items ≡ l.text;
  start : l.starts_line ≡ starts_line l.text l.byte-index;
  each : (k : ℕ) → k < l.byte-index → may_occur (starts_line l.text k) (get_or l.text k 0) ≡ true;
}
