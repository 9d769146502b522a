-- What a reader answers by its last part's answer: what the part gives, the whole gives.
use Rattle.std.proofs.Common.{ℕ, List}
use Rattle.std.specs.Prelude.{Result, Ok, Err}
use Rattle.fluent_syntax_grammar.specs.Construct.{Outcome, Construct, Read, Refused}
use Rattle.fluent_syntax_parser.specs.declared.fault.Refusal.{Refusal}
use Rattle.fluent_syntax_parser.specs.Outcomes.{ParsesEnd}

pub ParsesEnd-same_outcomes : (t : List ℕ) (c d : Construct (Unit {0})) (i i' : ℕ) (r : Result ℕ Refusal) →
    ((o : Outcome (Unit {0})) → c i o → d i' o) → ParsesEnd t c i r → ParsesEnd t d i' r
ParsesEnd-same_outcomes t c d i i' (Ok j) f h = f (Read tt j) h
ParsesEnd-same_outcomes t c d i i' (Err e) f h = λ k from to s. f (Refused k from to) (h k from to s)
