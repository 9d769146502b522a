use Rattle.std.proofs.Common.{◌≡◌, ◌+◌, drop}
use Rattle.std.specs.List.{prefix_len}
use Rattle.fluent_syntax_grammar.specs.Lanes.{is_passed}
use Rattle.fluent_syntax_grammar.proofs.lanes.short_text_len.Given as goal

abbrev pub invariant-loop-index : goal.invariant-loop-index
invariant-loop-index l = record {
  rest : prefix_len is_passed (drop l.index l.bytes) + l.index ≡ prefix_len is_passed l.bytes;
}
