use Rattle.json.specs.Print.{escape_byte}
use Rattle.fluent_syntax_grammar.proofs.Bytes.{Appends-append}
use Rattle.fluent_syntax_json.proofs.writing.names.write_key.Goals as goal

pub returns-in-Identifier : goal.returns-in-Identifier
unfolding escape_byte
returns-in-Identifier g c =
    record {
      written = rw c.in-Identifier.is
          (Appends-append c.write_piece.ensures.written
          (Appends-append c.write_text.ensures.written
          c.write_piece-in-Identifier.ensures.written));
    }

pub returns-in-NumberLiteral : goal.returns-in-NumberLiteral
unfolding escape_byte
returns-in-NumberLiteral g c =
    record {
      written = rw c.in-NumberLiteral.is
          (Appends-append c.write_piece-in-NumberLiteral.ensures.written
          (Appends-append c.write_text-in-NumberLiteral.ensures.written
          c.write_piece-in-NumberLiteral-2.ensures.written));
    }
