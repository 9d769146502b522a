-- Each clause is a law of the grammar.
use Rattle.fluent_syntax_grammar.proofs.backward.Bodies.{joined_is_canonical, joined_is_readable, joined_is_same}
use Rattle.fluent_syntax_grammar.proofs.round_trip.parse_is_readable.Goals as goal

pub returns-clause-readable : goal.returns-clause-readable
returns-clause-readable c = joined_is_readable c.args.text.now

pub returns-clause-same : goal.returns-clause-same
returns-clause-same c = joined_is_same c.args.text.now

pub returns-clause-canonical : goal.returns-clause-canonical
returns-clause-canonical c = joined_is_canonical c.args.text.now
