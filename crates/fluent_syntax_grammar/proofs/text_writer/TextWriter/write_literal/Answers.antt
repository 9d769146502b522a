use Rattle.fluent_syntax_grammar.proofs.MarksWritten.{Writes-one, unindented_literal_is_its_bytes}
use Rattle.fluent_syntax_grammar.proofs.text_writer.TextWriter.write_literal.Goals as goal

pub returns-in-Top : goal.returns-in-Top
returns-in-Top g c =
    let plain = unindented_literal_is_its_bytes c.args.self.now.last c.args.text.now in
    record { written = rw c.in-Top.is (Writes-one plain c.write_piece.ensures.written) }
