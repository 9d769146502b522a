-- What a rule gives over a family, it gives over a larger one.
use Rattle.std.proofs.Common.{ℕ, List, [], Option, Some, None, Bool, true, false}
use Rattle.fluent_syntax_tree.specs.Kind.{Kind}
use Rattle.fluent_syntax_tree.specs.Tree.{InlineTree}
use Rattle.fluent_syntax_grammar.specs.Construct.{Outcome, Construct, ◌>>=◌, stops, goes_on, yields, peek, chosen}
use Rattle.fluent_syntax_grammar.specs.Construct.{branch_on, first, second, More, item, many, list_ends, list_stops}
use Rattle.fluent_syntax_grammar.specs.Construct.{item_and_more, stops_later}
use Rattle.fluent_syntax_grammar.specs.Family.{Family}
use Rattle.fluent_syntax_grammar.specs.Starts.{Start, quote, digit, term, minus, dollar, letter, brace, other}
use Rattle.fluent_syntax_grammar.specs.Arguments.{call_arguments, argument_value, named_rest}
use Rattle.fluent_syntax_grammar.specs.Arguments.{argument_rest, next_argument_at, next_argument, more_arguments}
use Rattle.fluent_syntax_grammar.specs.Expressions.{select_with, expression, placeable}
use Rattle.fluent_syntax_grammar.specs.Inline.{inline_of, inline_expression}
use Rattle.fluent_syntax_grammar.specs.Lines.{next_piece_at, next_piece, more_pieces, line, next_line, more_lines}
use Rattle.fluent_syntax_grammar.specs.Lines.{no_byte, other_line, own_line}
use Rattle.fluent_syntax_grammar.specs.Layout.{Line}
use Rattle.fluent_syntax_grammar.specs.Patterns.{layout_at, layout, pattern}
use Rattle.fluent_syntax_grammar.specs.Variants.{next_variant, more_variants}
use Rattle.fluent_syntax_grammar.specs.Grammar.{next}
use Rattle.fluent_syntax_tree.specs.declared.edition.Edition.{Edition}
use Rattle.fluent_syntax_tree.specs.declared.spans.Span.{Span}

-- what c gives at a place, d gives there
pub record IsIncluded {A : Type 0} (c d : Construct A) : Type 0 where
  pub part : (i : ℕ) (o : Outcome A) → c i o → d i o

-- ---- the formers

pub itself_is_included : {A : Type 0} {c : Construct A} → IsIncluded c c
itself_is_included = record { part = λ i o x. x }

bind_outcome_is_included : {A B : Type 0} (c d : Construct A) (f g : A → Construct B) → IsIncluded c d →
    ((a : A) → IsIncluded (f a) (g a)) → (i : ℕ) (o : Outcome B) → (c >>= f) i o → (d >>= g) i o
bind_outcome_is_included c d f g cd fg i o (stops r) = stops (cd.part i _ r)
bind_outcome_is_included c d f g cd fg i o (goes_on x y) = goes_on (cd.part i _ x) ((fg _).part _ o y)

pub bind_is_included : {A B : Type 0} {c d : Construct A} {f g : A → Construct B} → IsIncluded c d →
    ((a : A) → IsIncluded (f a) (g a)) → IsIncluded (c >>= f) (d >>= g)
bind_is_included {c = c} {d = d} {f = f} {g = g} cd fg = record { part = bind_outcome_is_included c d f g cd fg }

peek_outcome_is_included : {A B : Type 0} (look : ℕ → A) (f g : A → Construct B) → ((a : A) → IsIncluded (f a) (g a)) →
    (i : ℕ) (o : Outcome B) → peek look f i o → peek look g i o
peek_outcome_is_included look f g fg i o (chosen x) = chosen ((fg (look i)).part i o x)

pub peek_is_included : {A B : Type 0} {look : ℕ → A} {f g : A → Construct B} → ((a : A) → IsIncluded (f a) (g a)) →
    IsIncluded (peek look f) (peek look g)
peek_is_included {look = look} {f = f} {g = g} fg = record { part = peek_outcome_is_included look f g fg }

branch_on_outcome_is_included : {A : Type 0} (b : Bool) (c c' d d' : Construct A) → IsIncluded c c' → IsIncluded d d' →
    (i : ℕ) (o : Outcome A) → branch_on b c d i o → branch_on b c' d' i o
branch_on_outcome_is_included b c c' d d' p q i o (first e x) = first e (p.part i o x)
branch_on_outcome_is_included b c c' d d' p q i o (second e x) = second e (q.part i o x)

pub branch_on_is_included : {A : Type 0} {b : Bool} {c c' d d' : Construct A} → IsIncluded c c' → IsIncluded d d' →
    IsIncluded (branch_on b c d) (branch_on b c' d')
branch_on_is_included {b = b} {c = c} {c' = c'} {d = d} {d' = d'} p q =
    record { part = branch_on_outcome_is_included b c c' d d' p q }

module _ {A S B : Type 0} (f g : S → Construct (More A S)) (add : A → B → B) (none : B)
    (fg : (s : S) → IsIncluded (f s) (g s)) where
  many_outcome_is_included : (s : S) (i : ℕ) (o : Outcome B) → many f add none s i o → many g add none s i o
  many_outcome_is_included s i o (list_ends x) = list_ends ((fg s).part i _ x)
  many_outcome_is_included s i o (list_stops x) = list_stops ((fg s).part i _ x)
  many_outcome_is_included s i o (item_and_more x y) =
      item_and_more ((fg s).part i _ x) (many_outcome_is_included _ _ _ y)
  many_outcome_is_included s i o (stops_later x y) = stops_later ((fg s).part i _ x) (many_outcome_is_included _ _ _ y)

pub many_is_included : {A S B : Type 0} {f g : S → Construct (More A S)} {add : A → B → B} {none : B} {s : S} →
    ((s : S) → IsIncluded (f s) (g s)) → IsIncluded (many f add none s) (many g add none s)
many_is_included {f = f} {g = g} {add = add} {none = none} {s = s} fg =
    record { part = many_outcome_is_included f g add none fg s }

pub ruleset inclusions = (itself_is_included, bind_is_included, peek_is_included, branch_on_is_included)

-- ---- the rules

pub record IsIncludedFamily (R S : Family) : Type 0 where
  pub expression : IsIncluded R.expression S.expression
  pub argument_list : IsIncluded R.argument_list S.argument_list

module _ (t : List ℕ) (R S : Family) (h : IsIncludedFamily R S) where
  family_expression_is_included : IsIncluded R.expression S.expression
  family_expression_is_included = h.expression

  family_argument_list_is_included : IsIncluded R.argument_list S.argument_list
  family_argument_list_is_included = h.argument_list

  pub call_is_included : IsIncluded (call_arguments t R) (call_arguments t S)
  call_is_included = search (inclusions, family_argument_list_is_included) depth 30

  pub placeable_is_included : IsIncluded (placeable t R) (placeable t S)
  placeable_is_included = search (inclusions, family_expression_is_included) depth 30

  inline_of_is_included : (s : Start) → IsIncluded (inline_of t R s) (inline_of t S s)
  inline_of_is_included quote = search inclusions depth 30
  inline_of_is_included digit = search inclusions depth 30
  inline_of_is_included minus = search inclusions depth 30
  inline_of_is_included term = search (inclusions, call_is_included) depth 30
  inline_of_is_included dollar = search inclusions depth 30
  inline_of_is_included letter = search (inclusions, call_is_included) depth 30
  inline_of_is_included brace = search (inclusions, placeable_is_included) depth 30
  inline_of_is_included other = search inclusions depth 30

  pub inline_is_included : IsIncluded (inline_expression t R) (inline_expression t S)
  inline_is_included = search (inclusions, inline_of_is_included) depth 30

  value_is_included : (s : Start) → IsIncluded (argument_value t R s) (argument_value t S s)
  value_is_included quote = inline_is_included
  value_is_included digit = inline_is_included
  value_is_included minus = search inclusions depth 30
  value_is_included term = search inclusions depth 30
  value_is_included dollar = search inclusions depth 30
  value_is_included letter = inline_is_included
  value_is_included brace = search inclusions depth 30
  value_is_included other = search inclusions depth 30

  named_rest_is_included : (names : List (List ℕ)) (name : Span) →
      IsIncluded (named_rest t R names name) (named_rest t S names name)
  named_rest_is_included names name = search (inclusions, value_is_included) depth 30

  argument_rest_is_included : (names : List (List ℕ)) (e : InlineTree Span) (o : Option Span) (colon : Bool) →
      IsIncluded (argument_rest t R names e o colon) (argument_rest t S names e o colon)
  argument_rest_is_included names e None colon = itself_is_included
  argument_rest_is_included names e (Some n) true = named_rest_is_included names n
  argument_rest_is_included names e (Some n) false = itself_is_included

  argument_at_is_included : (names : List (List ℕ)) (b : Option ℕ) →
      IsIncluded (next_argument_at t R names b) (next_argument_at t S names b)
  argument_at_is_included names None = search inclusions depth 30
  argument_at_is_included names (Some b) = search (inclusions, argument_rest_is_included, inline_is_included) depth 30

  next_argument_is_included : (names : List (List ℕ)) → IsIncluded (next_argument t R names) (next_argument t S names)
  next_argument_is_included names = search (inclusions, argument_at_is_included) depth 30

  pub arguments_are_included : (names : List (List ℕ)) →
      IsIncluded (more_arguments t R names) (more_arguments t S names)
  arguments_are_included names = many_is_included next_argument_is_included

  piece_at_is_included : (b : Option ℕ) → IsIncluded (next_piece_at t R b) (next_piece_at t S b)
  piece_at_is_included None = search inclusions depth 30
  piece_at_is_included (Some b) = search (inclusions, placeable_is_included) depth 30

  next_piece_is_included : IsIncluded (next_piece t R) (next_piece t S)
  next_piece_is_included = search (inclusions, piece_at_is_included) depth 30

  pub pieces_are_included : IsIncluded (more_pieces t R) (more_pieces t S)
  pieces_are_included = many_is_included (λ u. next_piece_is_included)

  line_is_included : IsIncluded (line t R) (line t S)
  line_is_included = search (inclusions, pieces_are_included) depth 30

  own_line_is_included : IsIncluded {A = More Line (Unit {0})} (line t R >>= λ l. yields (item l tt))
      (line t S >>= λ l. yields (item l tt))
  own_line_is_included = search (inclusions, line_is_included) depth 30

  next_line_outcome_is_included : (i : ℕ) (o : Outcome (More Line (Unit {0}))) → next_line t R i o → next_line t S i o
  next_line_outcome_is_included i o (no_byte a b) = no_byte a b
  next_line_outcome_is_included i o (other_line a b c) = other_line a b c
  next_line_outcome_is_included i o (own_line a b c d) = own_line a b c (own_line_is_included.part i o d)

  pub next_line_is_included : IsIncluded (next_line t R) (next_line t S)
  next_line_is_included = record { part = next_line_outcome_is_included }

  pub lines_are_included : IsIncluded (more_lines t R) (more_lines t S)
  lines_are_included = many_is_included (λ u. next_line_is_included)

  layout_at_is_included : (o : Option ℕ) → IsIncluded (layout_at t R o) (layout_at t S o)
  layout_at_is_included None = search (inclusions, pieces_are_included, lines_are_included) depth 30
  layout_at_is_included (Some k) = search (inclusions, lines_are_included) depth 30

  layout_is_included : IsIncluded (layout t R) (layout t S)
  layout_is_included = search (inclusions, layout_at_is_included) depth 30

module _ (edition : Edition) (t : List ℕ) (R S : Family) (h : IsIncludedFamily R S) where
  pub pattern_is_included : IsIncluded (pattern edition t R) (pattern edition t S)
  pattern_is_included = search (inclusions, layout_is_included) depth 30

  next_variant_is_included : (starred : Bool) →
      IsIncluded (next_variant edition t R starred) (next_variant edition t S starred)
  next_variant_is_included starred = search (inclusions, pattern_is_included) depth 30

  pub variants_are_included : (starred : Bool) →
      IsIncluded (more_variants edition t R starred) (more_variants edition t S starred)
  variants_are_included starred = many_is_included next_variant_is_included

  select_is_included : (e : InlineTree Span) (o : Option Kind) →
      IsIncluded (select_with edition t R e o) (select_with edition t S e o)
  select_is_included e None = search (inclusions, variants_are_included) depth 30
  select_is_included e (Some k) = search inclusions depth 30

  pub expression_is_included : IsIncluded (expression edition t R) (expression edition t S)
  expression_is_included = search (inclusions, select_is_included, inline_is_included) depth 30

  -- the rules over a family are included in the rules over a larger one
  pub next_is_included : IsIncludedFamily (next edition t R) (next edition t S)
  next_is_included = record { expression = expression_is_included; argument_list = arguments_are_included t R S h [] }
