use Rattle.std.proofs.Common.{map, drop, false}
use Rattle.fluent_syntax_tree.specs.View.{entry_view}
use Rattle.fluent_syntax_grammar.specs.Written.{body_marks}
use Rattle.fluent_syntax_grammar.proofs.Remaining.{RemainingMarks}
use Rattle.fluent_syntax_writer.proofs.serializer.entries.serialize_entries.Given as goal

abbrev pub invariant-loop-entry : goal.invariant-loop-entry
invariant-loop-entry g l = record {
  rest : RemainingMarks g.W.TextSink.text g.W.TextSink.room l.initial.writer l.writer
      (body_marks l.with_junk l.follows (map (entry_view g.T.ReadTexts.text) (drop l.entry-index l.entries)))
      (body_marks l.with_junk false (map (entry_view g.T.ReadTexts.text) (l.entries)));
}
