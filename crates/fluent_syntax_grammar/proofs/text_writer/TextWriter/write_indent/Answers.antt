use Rattle.fluent_syntax_grammar.proofs.Indents.{IsIndented-more}
use Rattle.fluent_syntax_grammar.proofs.text_writer.TextWriter.write_indent.Goals as goal

pub loop-frame-preserved : goal.loop-frame-preserved
loop-frame-preserved g c =
    let indented = rw c.in-Deeper.is at c.loop-frame.invariant.indented in
    record { indented = IsIndented-more _ _ _ indented c.write_piece.ensures.written }
