use Rattle.std.proofs.Common.{◌≡◌, ◌+◌, drop}
use Rattle.fluent_syntax_grammar.specs.PatternTexts.{leading_spaces}
use Rattle.fluent_syntax_writer.proofs.canonical.texts.leading_spaces.Given as goal

abbrev pub invariant-loop-index : goal.invariant-loop-index
invariant-loop-index l = record {
  rest : leading_spaces (drop l.index l.bytes) + l.index ≡ leading_spaces l.bytes;
}
