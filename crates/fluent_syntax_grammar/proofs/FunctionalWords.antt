-- Marks, blanks, identifiers, numbers and string literals have at most one outcome.
use Rattle.std.proofs.Common.{◌≡◌, ℕ, List, Option, Some, None, true, refl, sym, subst, arith}
use Rattle.std.specs.Char.{is_ascii_hexdigit}
use Rattle.std.specs.Prelude.{slice_get}
use Rattle.fluent_syntax_grammar.specs.Places.{has}
use Rattle.fluent_syntax_grammar.specs.Construct.{Outcome}
use Rattle.fluent_syntax_grammar.specs.Tokens.{optional, token, inline_blank, blank, blank_block, past_eol}
use Rattle.fluent_syntax_grammar.specs.Tokens.{optional_eol, rest_of_line, identifier, number}
use Rattle.fluent_syntax_grammar.specs.Strings.{hex_digits, all_there, too_few, escaped, string_unit, string_units}
use Rattle.fluent_syntax_grammar.specs.Strings.{before_quote, unit_and_more, bad_unit, string_literal}
use Rattle.fluent_syntax_grammar.specs.UniqueReading.{IsFunctional}
use Rattle.fluent_syntax_grammar.proofs.Functional.{functional}

module _ (t : List ℕ) where
  hex_digits_outcome_is_unique : (w i : ℕ) (o p : Outcome (Unit {0})) → hex_digits t w i o → hex_digits t w i p → o ≡ p
  hex_digits_outcome_is_unique w i o p (all_there a e) (all_there b f) = cc
  hex_digits_outcome_is_unique w i o p (all_there {j = j} a e) (too_few {k = k} b f g) =
      let yes : has t is_ascii_hexdigit k ≡ true = a.each k b.forward (omega arith) in let no = b.longest f in cc
  hex_digits_outcome_is_unique w i o p (too_few {k = k} a f g) (all_there {j = j} b e) =
      let yes : has t is_ascii_hexdigit k ≡ true = b.each k a.forward (omega arith) in let no = a.longest f in cc
  hex_digits_outcome_is_unique w i o p (too_few {k = j} a e f) (too_few {k = k} b g h) =
      let same : j ≡ k = grind (arith, a.each k b.forward, b.each j a.forward, a.longest e, b.longest g) in cc

  pub hex_is_functional : {w : ℕ} → IsFunctional (hex_digits t w)
  hex_is_functional {w = w} = record { same = hex_digits_outcome_is_unique w }

  pub optional_is_functional : (b : ℕ) → IsFunctional (optional t b)
  optional_is_functional b = search functional depth 30

  pub past_eol_is_functional : (o : Option ℕ) → IsFunctional (past_eol o)
  past_eol_is_functional None = search functional depth 30
  past_eol_is_functional (Some k) = search functional depth 30

  pub optional_eol_is_functional : IsFunctional (optional_eol t)
  optional_eol_is_functional = search (functional, past_eol_is_functional) depth 30

  pub rest_of_line_is_functional : IsFunctional (rest_of_line t)
  rest_of_line_is_functional = search functional depth 30

  pub inline_blank_is_functional : IsFunctional (inline_blank t)
  inline_blank_is_functional = search functional depth 30

  pub blank_is_functional : IsFunctional (blank t)
  blank_is_functional = search functional depth 30

  pub blank_block_is_functional : IsFunctional (blank_block t)
  blank_block_is_functional = search functional depth 30

  pub token_is_functional : (b : ℕ) → IsFunctional (token t b)
  token_is_functional b = search functional depth 30

  pub identifier_is_functional : IsFunctional (identifier t)
  identifier_is_functional = search functional depth 30

  pub number_is_functional : IsFunctional (number t)
  number_is_functional = search functional depth 30

  pub escaped_is_functional : (b : Option ℕ) → IsFunctional (escaped t b)
  escaped_is_functional None = search functional depth 30
  escaped_is_functional (Some b) = search (functional, hex_is_functional) depth 30

  pub string_unit_is_functional : (b : Option ℕ) → IsFunctional (string_unit t b)
  string_unit_is_functional None = search functional depth 30
  string_unit_is_functional (Some b) = search (functional, escaped_is_functional) depth 30

  string_units_outcome_is_unique : (i : ℕ) (o p : Outcome (Unit {0})) → string_units t i o → string_units t i p → o ≡ p
  string_units_outcome_is_unique i o p (before_quote a) (before_quote b) = refl
  string_units_outcome_is_unique i o p (before_quote a) (unit_and_more b c d) = cc
  string_units_outcome_is_unique i o p (before_quote a) (bad_unit b c) = cc
  string_units_outcome_is_unique i o p (unit_and_more a b c) (before_quote d) = cc
  string_units_outcome_is_unique i o p (unit_and_more {j = j} a b c) (unit_and_more {j = k} d e f) =
      let h = (string_unit_is_functional (slice_get t i)).same i _ _ b e in
      let same_j : j ≡ k = cc in
      string_units_outcome_is_unique j o p c (subst (λ k. string_units t k p) (sym same_j) f)
  string_units_outcome_is_unique i o p (unit_and_more a b c) (bad_unit d e) =
      let h = (string_unit_is_functional (slice_get t i)).same i _ _ b e in cc
  string_units_outcome_is_unique i o p (bad_unit a b) (before_quote d) = cc
  string_units_outcome_is_unique i o p (bad_unit a b) (unit_and_more d e f) =
      let h = (string_unit_is_functional (slice_get t i)).same i _ _ b e in cc
  string_units_outcome_is_unique i o p (bad_unit a b) (bad_unit d e) =
      let h = (string_unit_is_functional (slice_get t i)).same i _ _ b e in
      cc

  pub units_are_functional : IsFunctional (string_units t)
  units_are_functional = record { same = string_units_outcome_is_unique }

  pub string_is_functional : IsFunctional (string_literal t)
  string_is_functional = search (functional, units_are_functional) depth 30
