use Rattle.json.specs.Print.{escape_byte}
use Rattle.fluent_syntax_grammar.proofs.Bytes.{Appends-append}
use Rattle.fluent_syntax_json.proofs.writing.entries.write_attribute.Goals as goal

pub returns : goal.returns
unfolding escape_byte
returns g c =
    let closed =
    Appends-append c.write_piece-2.ensures.written
    (Appends-append c.write_pattern.ensures.written
    c.write_piece-3.ensures.written) in
    record {
      written = Appends-append c.write_piece.ensures.written
          (Appends-append c.write_name.ensures.written
          closed);
    }
