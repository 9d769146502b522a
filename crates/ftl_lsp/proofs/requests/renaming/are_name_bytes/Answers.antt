use Rattle.fluent_syntax_grammar.specs.Bytes.{is_name_byte}
use Rattle.fluent_syntax_grammar.proofs.LaneRuns.{prefix_is_whole_when_all_pass}
use Rattle.ftl_lsp.proofs.requests.renaming.are_name_bytes.Goals as goal

pub returns : goal.returns
returns c = rw c.name_len.ensures (prefix_is_whole_when_all_pass is_name_byte c.args.bytes.now)
