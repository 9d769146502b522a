use Rattle.json.specs.Print.{escape_byte}
use Rattle.fluent_syntax_grammar.proofs.Bytes.{Appends-append}
use Rattle.fluent_syntax_json.proofs.writing.entries.write_term.Goals as goal

pub returns : goal.returns
unfolding escape_byte
returns g c =
    let closed =
    Appends-append c.write_piece-4.ensures.written
    (Appends-append c.write_pattern.ensures.written
    c.write_piece-5.ensures.written) in
    let rest = Appends-append c.write_piece-3.ensures.written (Appends-append c.write_name.ensures.written closed) in
    let left = Appends-append c.write_piece-2.ensures.written (Appends-append c.write_attached.ensures.written rest) in
    record {
      written = rw (← c.deref.ensures.value)
          (Appends-append c.write_piece.ensures.written
          (Appends-append c.write_attributes.ensures.written
          left));
    }
