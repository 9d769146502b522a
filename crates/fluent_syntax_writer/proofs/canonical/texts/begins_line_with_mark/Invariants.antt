use Rattle.std.proofs.Common.{◌≡◌, drop}
use Rattle.fluent_syntax_grammar.specs.PatternTexts.{after_spaces}
use Rattle.fluent_syntax_writer.proofs.canonical.texts.begins_line_with_mark.Given as goal

abbrev pub invariant-loop-byte : goal.invariant-loop-byte
invariant-loop-byte l = record { rest : after_spaces (drop l.byte-index l.byte-items) ≡ after_spaces l.text }
