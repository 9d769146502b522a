use Rattle.fluent_syntax.proofs.RoundTripLemmas.{answer_of_text_is_readable}
use Rattle.fluent_syntax.proofs.parser.parse.Goals as goal

pub returns-clause-readable : goal.returns-clause-readable
returns-clause-readable g c =
    answer_of_text_is_readable g.S.Slice.text (g.S.Slice.text c.args.input) c.parse_at_any_depth.result
    c.parse_at_any_depth.ensures.tiling
