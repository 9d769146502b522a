use Rattle.std.proofs.Common.{◌≡◌, drop}
use Rattle.fluent_syntax_grammar.specs.PatternTexts.{has_crlf}
use Rattle.fluent_syntax_writer.proofs.rules.Bytes.{has_crlf_after}
use Rattle.fluent_syntax_writer.proofs.canonical.texts.has_crlf.Given as goal

abbrev pub invariant-loop-byte : goal.invariant-loop-byte
invariant-loop-byte l = record {
  rest : has_crlf_after l.after_cr (drop l.byte-index l.bytes) ≡ has_crlf l.bytes;
}
