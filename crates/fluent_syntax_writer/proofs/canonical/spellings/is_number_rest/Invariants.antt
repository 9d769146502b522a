use Rattle.std.proofs.Common.{◌≡◌, drop}
use Rattle.fluent_syntax_grammar.specs.Spellings.{is_number_rest}
use Rattle.fluent_syntax_writer.proofs.canonical.spellings.is_number_rest.Given as goal

abbrev pub invariant-loop-index : goal.invariant-loop-index
invariant-loop-index l = record { rest : is_number_rest (drop l.index l.bytes) ≡ is_number_rest l.bytes }
