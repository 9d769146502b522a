use Rattle.std.proofs.Common.{◌≡◌, ◌≤◌, length}
use Rattle.fluent_syntax_tree.specs.Text.{trimmed_len, trimmed_len_below}
use Rattle.fluent_syntax_tree.proofs.trimming.trimmed_len.Given as goal

abbrev pub invariant-loop-len : goal.invariant-loop-len
invariant-loop-len l = record {
  within : l.len ≤ length l.bytes;
  same : trimmed_len_below l.bytes l.len ≡ trimmed_len l.bytes;
}

abbrev pub decreases-loop-len : goal.decreases-loop-len
decreases-loop-len l = l.len
