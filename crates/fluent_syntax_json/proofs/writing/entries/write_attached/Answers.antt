use Rattle.json.specs.Print.{escape_byte}
use Rattle.fluent_syntax_grammar.proofs.Bytes.{Appends-append}
use Rattle.fluent_syntax_json.proofs.writing.entries.write_attached.Goals as goal

pub returns-in-Some : goal.returns-in-Some
unfolding escape_byte
returns-in-Some g c =
    record {
      written = rw c.in-Some.is
          (Appends-append c.write_piece-in-Some.ensures.written
          (Appends-append c.write_lines.ensures.written
          c.write_piece-in-Some-2.ensures.written));
    }
