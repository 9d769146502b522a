-- What was formatted is formatted again.
use Rattle.fluent_syntax_grammar.proofs.marks.Again.{text_is_written_again}
use Rattle.fluent_syntax_grammar.proofs.round_trip.formatting_is_idempotent.Goals as goal

pub returns : goal.returns
returns c = text_is_written_again c.args.text.now
