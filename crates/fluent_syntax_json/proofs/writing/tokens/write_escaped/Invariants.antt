use Rattle.std.proofs.Common.{length}
use denote.Text.{Utf8}
use denote.Shadow.{shadow}
use Rattle.json.specs.Print.{escape}
use Rattle.fluent_syntax_grammar.proofs.Remaining.{RemainingBytes}
use Rattle.fluent_syntax_json.proofs.writing.tokens.write_escaped.Given as goal

abbrev pub invariant-loop-plain : goal.invariant-loop-plain
invariant-loop-plain g l = record {
  is_text : shadow (Utf8 l.rest);
  rest : RemainingBytes g.W.TextSink.text g.W.TextSink.room l.initial.writer l.writer (escape l.rest) (escape l.text);
}

abbrev pub decreases-loop-plain : goal.decreases-loop-plain
decreases-loop-plain g l = length l.rest
