-- Canonical trees are written apart.
use Rattle.fluent_syntax_grammar.proofs.marks.Again.{serialize_is_injective}
use Rattle.fluent_syntax_grammar.proofs.round_trip.serialize_is_injective.Goals as goal

pub returns : goal.returns
returns g c = λ edition. serialize_is_injective edition _ _
