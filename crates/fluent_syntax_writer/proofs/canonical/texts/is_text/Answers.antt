use Rattle.std.proofs.Common.{refl}
use Rattle.fluent_syntax_writer.proofs.rules.Bytes.{is_empty-length, is_text-line}
use Rattle.fluent_syntax_writer.proofs.canonical.texts.is_text.Goals as goal

pub returns-then-is_empty : goal.returns-then-is_empty
returns-then-is_empty c =
    let v = c.args.text.now in
    rw (
      ← is_text-line v,
      is_empty-length v,
      ← c.as_bytes-bytes.ensures.value,
      ← c.is_empty.ensures,
      c.if-is_empty.true,
    ) refl

pub returns-then-is_text_line : goal.returns-then-is_text_line
returns-then-is_text_line c =
    let v = c.args.text.now in
    rw (
      ← is_text-line v,
      ← c.ends_in_crlf.ensures,
      is_empty-length v,
      ← c.as_bytes-bytes.ensures.value,
      ← c.is_empty.ensures,
      c.if-is_empty.false,
      ← c.without_last_lf.ensures,
      ← c.is_text_line.ensures,
      c.if-is_text_line.true,
    ) refl

pub returns-else-is_text_line : goal.returns-else-is_text_line
returns-else-is_text_line c =
    let v = c.args.text.now in
    rw (
      ← is_text-line v,
      is_empty-length v,
      ← c.as_bytes-bytes.ensures.value,
      ← c.is_empty.ensures,
      c.if-is_empty.false,
      ← c.without_last_lf.ensures,
      ← c.is_text_line.ensures,
      c.if-is_text_line.false,
    ) refl
