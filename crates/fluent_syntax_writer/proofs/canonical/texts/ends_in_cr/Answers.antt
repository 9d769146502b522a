use Rattle.std.proofs.Common.{◌-◌, length, None, arith}
use Rattle.fluent_syntax_grammar.proofs.TextEnds.{last_of_bytes_is_last_byte}
use Rattle.fluent_syntax_writer.proofs.canonical.texts.ends_in_cr.Goals as goal

pub returns-in-len1-up : goal.returns-in-len1-up
returns-in-len1-up c = rw (last_of_bytes_is_last_byte None c.args.bytes.now (length c.args.bytes.now - 1) (omega arith))
