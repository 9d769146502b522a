use Rattle.std.proofs.Common.{map, drop}
use Rattle.fluent_syntax_grammar.specs.Written.{comment_marks}
use Rattle.fluent_syntax_grammar.proofs.Remaining.{RemainingMarks}
use Rattle.fluent_syntax_writer.proofs.serializer.entries.serialize_comment.Given as goal

abbrev pub invariant-loop-line : goal.invariant-loop-line
invariant-loop-line g l = record {
  rest : RemainingMarks g.W.TextSink.text g.W.TextSink.room l.initial.writer l.writer
      (comment_marks l.hashes (map g.T.ReadTexts.text (drop l.line-index l.line-items)))
      (comment_marks l.hashes (map g.T.ReadTexts.text (l.line-items)));
}
