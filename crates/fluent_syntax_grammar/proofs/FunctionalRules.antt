-- The rules over a family whose constructs have at most one outcome have at most one.
use Rattle.std.proofs.Common.{◌≡◌, ℕ, List, [], ◌∷◌, Option, Some, None, Bool, true, false, refl}
use Rattle.fluent_syntax_tree.specs.Kind.{Kind}
use Rattle.fluent_syntax_tree.specs.Tree.{InlineTree, KeyTree, PatternTree, MaybeArguments, no_arguments}
use Rattle.fluent_syntax_tree.specs.Tree.{some_arguments}
use Rattle.fluent_syntax_grammar.specs.Construct.{Outcome, ◌>>=◌, yields, More, item}
use Rattle.fluent_syntax_grammar.specs.Family.{Family}
use Rattle.fluent_syntax_grammar.specs.Starts.{Start, quote, digit, term, minus, dollar, letter, brace, other}
use Rattle.fluent_syntax_grammar.specs.Arguments.{accessor, separator, call_arguments, argument_value, named_rest}
use Rattle.fluent_syntax_grammar.specs.Arguments.{positional_rest, argument_rest, next_argument_at, next_argument}
use Rattle.fluent_syntax_grammar.specs.Arguments.{more_arguments}
use Rattle.fluent_syntax_grammar.specs.Expressions.{arrow_line_end, select_with, expression, placeable}
use Rattle.fluent_syntax_grammar.specs.Inline.{named_reference, inline_of, inline_expression}
use Rattle.fluent_syntax_grammar.specs.Lines.{ending_of, ending, next_piece_at, next_piece, more_pieces, line}
use Rattle.fluent_syntax_grammar.specs.Lines.{next_line, more_lines, no_byte, other_line, own_line}
use Rattle.fluent_syntax_grammar.specs.Layout.{Line}
use Rattle.fluent_syntax_grammar.specs.Patterns.{layout_at, layout, pattern}
use Rattle.fluent_syntax_grammar.specs.Variants.{variant_key, variant_of, next_variant, more_variants}
use Rattle.fluent_syntax_grammar.specs.Grammar.{next}
use Rattle.fluent_syntax_tree.specs.declared.edition.Edition.{Edition}
use Rattle.fluent_syntax_tree.specs.declared.spans.Span.{Span}
use Rattle.fluent_syntax_grammar.specs.UniqueReading.{IsFunctional}
use Rattle.fluent_syntax_grammar.proofs.Functional.{functional, many_is_functional, longest_run_is_functional}
use Rattle.fluent_syntax_grammar.proofs.FunctionalWords.{optional_is_functional, token_is_functional}
use Rattle.fluent_syntax_grammar.proofs.FunctionalWords.{identifier_is_functional}
use Rattle.fluent_syntax_grammar.proofs.FunctionalWords.{number_is_functional, string_is_functional}

ruleset words = (
  functional,
  optional_is_functional,
  token_is_functional,
  identifier_is_functional,
  number_is_functional,
  string_is_functional,
)

pub record IsFunctionalFamily (R : Family) : Type 0 where
  pub expression : IsFunctional R.expression
  pub argument_list : IsFunctional R.argument_list

pub arrow_line_end_is_functional : (o : Option ℕ) → IsFunctional (arrow_line_end o)
arrow_line_end_is_functional None = search functional depth 30
arrow_line_end_is_functional (Some k) = search functional depth 30

module _ (t : List ℕ) where
  pub accessor_is_functional : IsFunctional (accessor t)
  accessor_is_functional = search words depth 30

  pub separator_is_functional : IsFunctional (separator t)
  separator_is_functional = search words depth 30

  named_is_functional : (id : Span) (a : MaybeArguments Span) → IsFunctional (named_reference t id a)
  named_is_functional id no_arguments = search (words, accessor_is_functional) depth 30
  named_is_functional id (some_arguments a) = search words depth 30

  ending_of_is_functional : (i : ℕ) (o : Option ℕ) → IsFunctional (ending_of t i o)
  ending_of_is_functional i None = search words depth 30
  ending_of_is_functional i (Some k) = search words depth 30

  pub ending_is_functional : IsFunctional (ending t)
  ending_is_functional = search (words, ending_of_is_functional) depth 30

  pub key_is_functional : IsFunctional (variant_key t)
  key_is_functional = search words depth 30

module _ (t : List ℕ) (R : Family) (h : IsFunctionalFamily R) where
  family_expression_is_functional : IsFunctional R.expression
  family_expression_is_functional = h.expression

  family_argument_list_is_functional : IsFunctional R.argument_list
  family_argument_list_is_functional = h.argument_list

  pub call_is_functional : IsFunctional (call_arguments t R)
  call_is_functional = search (words, family_argument_list_is_functional) depth 30

  pub placeable_is_functional : IsFunctional (placeable t R)
  placeable_is_functional = search (words, family_expression_is_functional) depth 30

  inline_of_is_functional : (s : Start) → IsFunctional (inline_of t R s)
  inline_of_is_functional quote = search words depth 30
  inline_of_is_functional digit = search words depth 30
  inline_of_is_functional minus = search words depth 30
  inline_of_is_functional term = search (words, accessor_is_functional, call_is_functional) depth 30
  inline_of_is_functional dollar = search words depth 30
  inline_of_is_functional letter = search (words, named_is_functional, call_is_functional) depth 30
  inline_of_is_functional brace = search (words, placeable_is_functional) depth 30
  inline_of_is_functional other = search words depth 30

  pub inline_is_functional : IsFunctional (inline_expression t R)
  inline_is_functional = search (words, inline_of_is_functional) depth 30

  pub value_is_functional : (s : Start) → IsFunctional (argument_value t R s)
  value_is_functional quote = inline_is_functional
  value_is_functional digit = inline_is_functional
  value_is_functional minus = search words depth 30
  value_is_functional term = search words depth 30
  value_is_functional dollar = search words depth 30
  value_is_functional letter = inline_is_functional
  value_is_functional brace = search words depth 30
  value_is_functional other = search words depth 30

  named_rest_is_functional : (names : List (List ℕ)) (name : Span) → IsFunctional (named_rest t R names name)
  named_rest_is_functional names name = search (words, separator_is_functional, value_is_functional) depth 30

  positional_rest_is_functional : (names : List (List ℕ)) (e : InlineTree Span) →
      IsFunctional (positional_rest t names e)
  positional_rest_is_functional [] e = search (words, separator_is_functional) depth 30
  positional_rest_is_functional (n ∷ ns) e = search words depth 30

  argument_rest_is_functional : (names : List (List ℕ)) (e : InlineTree Span) (o : Option Span) (colon : Bool) →
      IsFunctional (argument_rest t R names e o colon)
  argument_rest_is_functional names e None colon = positional_rest_is_functional names e
  argument_rest_is_functional names e (Some n) true = named_rest_is_functional names n
  argument_rest_is_functional names e (Some n) false = positional_rest_is_functional names e

  argument_at_is_functional : (names : List (List ℕ)) (b : Option ℕ) → IsFunctional (next_argument_at t R names b)
  argument_at_is_functional names None = search words depth 30
  argument_at_is_functional names (Some b) = search (words, argument_rest_is_functional, inline_is_functional) depth 30

  pub next_argument_is_functional : (names : List (List ℕ)) → IsFunctional (next_argument t R names)
  next_argument_is_functional names = search (words, argument_at_is_functional) depth 30

  pub arguments_are_functional : (names : List (List ℕ)) → IsFunctional (more_arguments t R names)
  arguments_are_functional names = many_is_functional next_argument_is_functional

  piece_at_is_functional : (b : Option ℕ) → IsFunctional (next_piece_at t R b)
  piece_at_is_functional None = search words depth 30
  piece_at_is_functional (Some b) = search (words, placeable_is_functional) depth 30

  pub next_piece_is_functional : IsFunctional (next_piece t R)
  next_piece_is_functional = search (words, piece_at_is_functional) depth 30

  pub pieces_are_functional : IsFunctional (more_pieces t R)
  pieces_are_functional = many_is_functional (λ u. next_piece_is_functional)

  pub line_is_functional : IsFunctional (line t R)
  line_is_functional = search (words, ending_is_functional, pieces_are_functional) depth 30

  own_line_is_functional : IsFunctional {A = More Line (Unit {0})} (line t R >>= λ l. yields (item l tt))
  own_line_is_functional = search (words, line_is_functional) depth 30

  line_unique : (i : ℕ) (o p : Outcome (More Line (Unit {0}))) → next_line t R i o → next_line t R i p → o ≡ p
  line_unique i o p (no_byte a b) (no_byte c d) = let h = longest_run_is_functional.same i _ _ a c in cc
  line_unique i o p (no_byte a b) (other_line c d e) = let h = longest_run_is_functional.same i _ _ a c in cc
  line_unique i o p (no_byte a b) (own_line c d e f) = let h = longest_run_is_functional.same i _ _ a c in cc
  line_unique i o p (other_line a b c) (no_byte d e) = let h = longest_run_is_functional.same i _ _ a d in cc
  line_unique i o p (other_line a b c) (other_line d e f) = refl
  line_unique i o p (other_line {k = k} a b c) (own_line {k = m} d e f g) =
      let h : k ≡ m = longest_run_is_functional.same i _ _ a d in cc
  line_unique i o p (own_line a b c d) (no_byte e f) = let h = longest_run_is_functional.same i _ _ a e in cc
  line_unique i o p (own_line {k = k} a b c d) (other_line {k = m} e f g) =
      let h : k ≡ m = longest_run_is_functional.same i _ _ a e in cc
  line_unique i o p (own_line a b c d) (own_line e f g x) = own_line_is_functional.same i o p d x

  pub next_line_is_functional : IsFunctional (next_line t R)
  next_line_is_functional = record { same = line_unique }

  pub lines_are_functional : IsFunctional (more_lines t R)
  lines_are_functional = many_is_functional (λ u. next_line_is_functional)

  layout_at_is_functional : (o : Option ℕ) → IsFunctional (layout_at t R o)
  layout_at_is_functional None = search (words, ending_is_functional, pieces_are_functional, lines_are_functional) depth
      30
  layout_at_is_functional (Some k) = search (words, lines_are_functional) depth 30

  pub layout_is_functional : IsFunctional (layout t R)
  layout_is_functional = search (words, layout_at_is_functional) depth 30

module _ (edition : Edition) (t : List ℕ) (R : Family) (h : IsFunctionalFamily R) where
  pub pattern_over_is_functional : IsFunctional (pattern edition t R)
  pattern_over_is_functional = search (words, layout_is_functional t R h) depth 30

  variant_of_is_functional : (starred star : Bool) (key : KeyTree Span) (p : Option (PatternTree Span)) →
      IsFunctional (variant_of t starred star key p)
  variant_of_is_functional starred star key None = search words depth 30
  variant_of_is_functional starred star key (Some p) = search words depth 30

  pub next_variant_is_functional : (starred : Bool) → IsFunctional (next_variant edition t R starred)
  next_variant_is_functional starred =
      search (words, key_is_functional, pattern_over_is_functional, variant_of_is_functional) depth 30

  pub variants_are_functional : (starred : Bool) → IsFunctional (more_variants edition t R starred)
  variants_are_functional starred = many_is_functional next_variant_is_functional

  select_is_functional : (e : InlineTree Span) (o : Option Kind) → IsFunctional (select_with edition t R e o)
  select_is_functional e None = search (words, arrow_line_end_is_functional, variants_are_functional) depth 30
  select_is_functional e (Some k) = search words depth 30

  pub expression_is_functional : IsFunctional (expression edition t R)
  expression_is_functional = search (words, select_is_functional, inline_is_functional) depth 30

  -- the rules over a family whose constructs have at most one outcome
  pub next_is_functional : IsFunctionalFamily (next edition t R)
  next_is_functional = record
      { expression = expression_is_functional; argument_list = arguments_are_functional t R h [] }
