use Rattle.fluent_syntax_grammar.specs.Writing.{depth}
use Rattle.fluent_syntax_grammar.proofs.Indents.{IsIndented}
use Rattle.fluent_syntax_grammar.proofs.text_writer.TextWriter.write_indent.Given as goal

abbrev pub invariant-loop-frame : goal.invariant-loop-frame
invariant-loop-frame g l = record {
  indented : IsIndented g.W.TextSink.text g.W.TextSink.room l.initial.self l.self (depth l.level) (depth l.frame);
}
