use Rattle.json.specs.Print.{escape_byte}
use Rattle.fluent_syntax_grammar.proofs.Bytes.{Appends-append}
use Rattle.fluent_syntax_json.proofs.writing.entries.write_entry.Goals as goal

pub returns-in-Comment : goal.returns-in-Comment
unfolding escape_byte
returns-in-Comment g c =
    record {
      written = rw c.in-Comment.is
          (Appends-append c.write_piece.ensures.written
          (Appends-append c.write_lines.ensures.written
          c.write_piece-in-Comment.ensures.written));
    }

pub returns-in-GroupComment : goal.returns-in-GroupComment
unfolding escape_byte
returns-in-GroupComment g c =
    record {
      written = rw c.in-GroupComment.is
          (Appends-append c.write_piece-in-GroupComment.ensures.written
          (Appends-append c.write_lines-in-GroupComment.ensures.written
          c.write_piece-in-GroupComment-2.ensures.written));
    }

pub returns-in-ResourceComment : goal.returns-in-ResourceComment
unfolding escape_byte
returns-in-ResourceComment g c =
    record {
      written = rw c.in-ResourceComment.is
          (Appends-append c.write_piece-in-ResourceComment.ensures.written
          (Appends-append c.write_lines-in-ResourceComment.ensures.written
          c.write_piece-in-ResourceComment-2.ensures.written));
    }

pub returns-in-Junk : goal.returns-in-Junk
unfolding escape_byte
returns-in-Junk g c =
    record {
      written = rw c.in-Junk.is
          (Appends-append c.write_piece-in-Junk.ensures.written
          (Appends-append c.write_text.ensures.written
          c.write_piece-in-Junk-2.ensures.written));
    }
