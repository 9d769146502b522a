use Rattle.std.proofs.Common.{◌≡◌, drop}
use Rattle.fluent_syntax_grammar.specs.Spellings.{is_string}
use Rattle.fluent_syntax_writer.specs.Strings.{may_follow}
use Rattle.fluent_syntax_writer.proofs.canonical.spellings.is_string.Given as goal

abbrev pub invariant-loop-byte : goal.invariant-loop-byte
invariant-loop-byte l = record { rest : may_follow l.next (drop l.byte-index l.byte-items) ≡ is_string l.text }
