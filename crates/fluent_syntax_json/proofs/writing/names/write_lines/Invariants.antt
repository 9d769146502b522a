use Rattle.std.proofs.Common.{map, drop, false}
use Rattle.serde_json.specs.Data.{string}
use Rattle.serde_json.specs.View.{items_of}
use Rattle.serde_json.specs.Written.{items_text}
use Rattle.fluent_syntax_grammar.proofs.Remaining.{RemainingBytes}
use Rattle.fluent_syntax_json.proofs.writing.names.write_lines.Given as goal

abbrev pub invariant-loop-line : goal.invariant-loop-line
invariant-loop-line g l = record {
  rest : RemainingBytes g.W.TextSink.text g.W.TextSink.room l.initial.writer l.writer
      (items_text l.later (items_of (map string (map g.T.ReadTexts.text (drop l.line-index l.line-items)))))
      (items_text false (items_of (map string (map g.T.ReadTexts.text l.line-items))));
}
