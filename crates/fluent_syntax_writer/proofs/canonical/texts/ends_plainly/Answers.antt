use Rattle.std.proofs.Common.{◌-◌, length, None, arith}
use Rattle.fluent_syntax_grammar.proofs.TextEnds.{last_of_bytes_is_last_byte}
use Rattle.fluent_syntax_writer.proofs.canonical.texts.ends_plainly.Goals as goal

pub returns-in-len1-up : goal.returns-in-len1-up
returns-in-len1-up c =
    let last = last_of_bytes_is_last_byte None c.args.text.now (length c.args.text.now - 1) (omega arith) in
    rw (c.is_trimmed.ensures, c.as_bytes.ensures.value, last)
