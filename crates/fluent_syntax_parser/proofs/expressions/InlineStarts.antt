-- An inline expression, by what is at its start.
use Rattle.std.proofs.Common.{◌≡◌, ℕ, ◌+◌, List, subst, refl, inl as left, inr}
use Rattle.std.specs.Prelude.{◌⊎◌, Result, Ok, Err}
use Rattle.fluent_syntax_tree.specs.Kind.{ExpectedLiteral}
use Rattle.fluent_syntax_tree.specs.Tree.{ExpressionTree, InlineTree, MaybeArguments, number_literal}
use Rattle.fluent_syntax_tree.specs.declared.ast.PatternElement.{PatternElement}
use Rattle.fluent_syntax_tree.specs.declared.spans.Span.{Span}
use Rattle.fluent_syntax_grammar.specs.Arguments.{argument_value}
use Rattle.fluent_syntax_grammar.specs.Construct.{Outcome, Read, Refused, ◌>>=◌, yields, peek, chosen, failed, goes_on}
use Rattle.fluent_syntax_grammar.specs.Family.{Family, call_arguments}
use Rattle.fluent_syntax_grammar.specs.Inline.{inline_expression, inline_of, named_reference}
use Rattle.fluent_syntax_grammar.specs.Starts.{Start, digit, letter, minus, quote, start}
use Rattle.fluent_syntax_grammar.specs.Tokens.{identifier, number}
use Rattle.fluent_syntax_grammar.proofs.FunctionalRules.{IsFunctionalFamily, call_is_functional}
use Rattle.fluent_syntax_grammar.proofs.FunctionalWords.{identifier_is_functional}
use Rattle.fluent_syntax_parser.specs.Last.{Pushes}
use Rattle.fluent_syntax_parser.specs.Outcomes.{Fails}
use Rattle.fluent_syntax_parser.specs.Starts.{start_view}
use Rattle.fluent_syntax_parser.specs.declared.fault.ReadFault.{ReadFault}
use Rattle.fluent_syntax_parser.proofs.readers.Fails.{bind_fails_second, peek_fails_where_seen_part_fails}
use Rattle.fluent_syntax_parser.specs.declared.expression.starts.Start as found
use Rattle.fluent_syntax_parser.specs.declared.expression.starts.Start.TheVariants as starts

-- what a digit or `-` is seen as
pub start_of_number_is_digit_or_minus : (t : List ℕ) (i : ℕ) (s : found.Start) →
    (s ≡ starts.Digit) ⊎ (s ≡ starts.Minus) → start_view s ≡ start t i → (digit ≡ start t i) ⊎ (minus ≡ start t i)
start_of_number_is_digit_or_minus t i s (left is) e = left (rw is at e)
start_of_number_is_digit_or_minus t i s (inr is) e = inr (rw is at e)

module _ (t : List ℕ) (R : Family) (i : ℕ) where
  pub inline_of_its_start_is_inline : (s : Start) (o : Outcome (InlineTree Span)) → s ≡ start t i →
      inline_of t R s i o → inline_expression t R i o
  inline_of_its_start_is_inline s o e h =
      chosen (subst (λ x. inline_of t R x i o) e h)

  pub number_at_digit_or_minus_is_inline : (o : Outcome (InlineTree Span)) → (digit ≡ start t i) ⊎ (minus ≡ start t i) →
      (number t >>= λ v. yields (number_literal v)) i o → inline_expression t R i o
  number_at_digit_or_minus_is_inline o (left e) h = inline_of_its_start_is_inline digit o e h
  number_at_digit_or_minus_is_inline o (inr e) h = inline_of_its_start_is_inline minus o e h

  pub inline_at_value_start_is_argument_value : (s : found.Start) (o : Outcome (InlineTree Span)) →
      (s ≡ starts.Quote) ⊎ ((s ≡ starts.Digit) ⊎ (s ≡ starts.Letter)) → start_view s ≡ start t i →
      inline_expression t R i o → peek (start t) (argument_value t R) i o
  inline_at_value_start_is_argument_value s o (left is) e h =
      let e' : quote ≡ start t i = rw is at e in
      chosen (subst (λ x. argument_value t R x i o) e' h)
  inline_at_value_start_is_argument_value s o (inr (left is)) e h =
      let e' : digit ≡ start t i = rw is at e in
      chosen (subst (λ x. argument_value t R x i o) e' h)
  inline_at_value_start_is_argument_value s o (inr (inr is)) e h =
      let e' : letter ≡ start t i = rw is at e in
      chosen (subst (λ x. argument_value t R x i o) e' h)

  pub argument_value_fails_as_its_inline : (s : found.Start) →
      (s ≡ starts.Quote) ⊎ ((s ≡ starts.Digit) ⊎ (s ≡ starts.Letter)) →
      start_view s ≡ start t i → {f : ReadFault} → Fails t (inline_expression t R) i f →
      Fails t (peek (start t) (argument_value t R)) i f
  argument_value_fails_as_its_inline s (left is) e h =
      let e' : quote ≡ start t i = rw is at e in peek_fails_where_seen_part_fails (argument_value t R) quote e' h
  argument_value_fails_as_its_inline s (inr (left is)) e h =
      let e' : digit ≡ start t i = rw is at e in peek_fails_where_seen_part_fails (argument_value t R) digit e' h
  argument_value_fails_as_its_inline s (inr (inr is)) e h =
      let e' : letter ≡ start t i = rw is at e in peek_fails_where_seen_part_fails (argument_value t R) letter e' h

  value_of_other_start_is_refused : (s : found.Start) → (s ≡ starts.Quote → ⊥) → (s ≡ starts.Digit → ⊥) →
      (s ≡ starts.Letter → ⊥) → argument_value t R (start_view s) i (Refused ExpectedLiteral i (i + 1))
  value_of_other_start_is_refused starts.Quote a b c = absurd (a refl)
  value_of_other_start_is_refused starts.Digit a b c = absurd (b refl)
  value_of_other_start_is_refused starts.Letter a b c = absurd (c refl)
  value_of_other_start_is_refused starts.Term a b c = failed refl
  value_of_other_start_is_refused starts.Minus a b c = failed refl
  value_of_other_start_is_refused starts.Dollar a b c = failed refl
  value_of_other_start_is_refused starts.Brace a b c = failed refl
  value_of_other_start_is_refused starts.Other a b c = failed refl

  pub argument_value_at_other_start_is_refused : (s : found.Start) → (s ≡ starts.Quote → ⊥) → (s ≡ starts.Digit → ⊥) →
      (s ≡ starts.Letter → ⊥) → start_view s ≡ start t i →
      peek (start t) (argument_value t R) i (Refused ExpectedLiteral i (i + 1))
  argument_value_at_other_start_is_refused s a b c e =
      chosen (subst (λ x. argument_value t R x i (Refused ExpectedLiteral i (i + 1))) e
      (value_of_other_start_is_refused s a b c))

-- a name with its arguments, by the reference that these are
pub Pushes-named : {S X : Type 0} (v : S → X) (t : List ℕ) (R : Family) (i : ℕ) (f : InlineTree Span → ExpressionTree X)
    (old new : List (PatternElement S)) {name : Span} {a : MaybeArguments Span} {m j : ℕ} (r : Result ℕ ReadFault) →
    Pushes v t f (named_reference t name a) old new j r → letter ≡ start t i → identifier t i (Read name m) →
    call_arguments t R m (Read a j) → IsFunctionalFamily R → Pushes v t f (inline_expression t R) old new i r
Pushes-named v t R i f old new (Ok k) (e, read, added) s n c g =
    (e, inline_of_its_start_is_inline t R i letter _ s (goes_on n (goes_on c read)), added)
Pushes-named v t R i f old new (Err e) h s n c g =
    peek_fails_where_seen_part_fails (inline_of t R) letter s
    (bind_fails_second (identifier_is_functional t) n (bind_fails_second (call_is_functional t R g) c h))
