-- Line ends that were passed over.
use Rattle.std.proofs.Common.{ℕ, List, Option, Some, None, refl}
use Rattle.std.specs.Prelude.{unwrap_or}
use Rattle.fluent_syntax_grammar.specs.Construct.{Read, goes_on, given, at_place, passed}
use Rattle.fluent_syntax_grammar.specs.Places.{is_line_place, LongestRun}
use Rattle.fluent_syntax_grammar.specs.Tokens.{past_eol, rest_of_line}

pub past_eol_is_read : (o : Option ℕ) (i : ℕ) → past_eol o i (Read tt (unwrap_or o i))
past_eol_is_read None i = given
past_eol_is_read (Some k) i = passed (record { there = refl })

pub rest_of_line_is_read : (t : List ℕ) (i j : ℕ) → LongestRun (is_line_place t) i j →
    rest_of_line t i (Read (record { start = i; end = j }) j)
rest_of_line_is_read t i j line = goes_on at_place (goes_on (passed line) (goes_on at_place given))
