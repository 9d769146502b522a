use Rattle.std.proofs.Common.{map, drop}
use Rattle.fluent_syntax_tree.specs.View.{attribute_view}
use Rattle.fluent_syntax_grammar.specs.Written.{attributes_marks}
use Rattle.fluent_syntax_grammar.proofs.Remaining.{RemainingMarks}
use Rattle.fluent_syntax_writer.proofs.serializer.entries.serialize_attributes.Given as goal

abbrev pub invariant-loop-attribute : goal.invariant-loop-attribute
invariant-loop-attribute g l = record {
  rest : RemainingMarks g.W.TextSink.text g.W.TextSink.room l.initial.writer l.writer
      (attributes_marks (map (attribute_view g.T.ReadTexts.text) (drop l.attribute-index l.attributes)))
      (attributes_marks (map (attribute_view g.T.ReadTexts.text) (l.attributes)));
}
