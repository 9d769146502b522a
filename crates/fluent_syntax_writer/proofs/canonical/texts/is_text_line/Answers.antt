use Rattle.fluent_syntax_grammar.specs.Lanes.{is_passed}
use Rattle.fluent_syntax_grammar.proofs.LaneRuns.{prefix_is_whole_when_all_pass}
use Rattle.fluent_syntax_writer.proofs.canonical.texts.is_text_line.Goals as goal

pub returns : goal.returns
returns c = rw c.text_len.ensures (prefix_is_whole_when_all_pass is_passed c.args.bytes.now)
