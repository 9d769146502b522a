use Rattle.fluent_syntax_writer.proofs.canonical.texts.is_nonblank.Goals as goal

pub returns : goal.returns
returns c = rw (c.is_nonblank.ensures, c.as_bytes.ensures.value)
