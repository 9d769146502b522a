-- A rule over the union of families that grow is the union of the rules over them.
use Rattle.std.proofs.Common.{ℕ, ◌+◌, ◌≤◌, arith, List, Option, Some, None, Bool, true, false}
use Rattle.fluent_syntax_tree.specs.Kind.{Kind}
use Rattle.fluent_syntax_tree.specs.Tree.{InlineTree}
use Rattle.fluent_syntax_grammar.specs.Construct.{Outcome, Construct, ◌>>=◌, stops, goes_on, yields, peek, chosen}
use Rattle.fluent_syntax_grammar.specs.Construct.{branch_on, first, second, More, item, many, list_ends, list_stops}
use Rattle.fluent_syntax_grammar.specs.Construct.{item_and_more, stops_later}
use Rattle.fluent_syntax_grammar.specs.Family.{Family}
use Rattle.fluent_syntax_grammar.specs.Starts.{Start, quote, digit, term, minus, dollar, letter, brace, other}
use Rattle.fluent_syntax_grammar.specs.Arguments.{call_arguments, argument_value, named_rest}
use Rattle.fluent_syntax_grammar.specs.Arguments.{argument_rest, next_argument_at, next_argument, more_arguments}
use Rattle.fluent_syntax_grammar.specs.Expressions.{select_with, expression, placeable}
use Rattle.fluent_syntax_grammar.specs.Inline.{inline_of, inline_expression}
use Rattle.fluent_syntax_grammar.specs.Lines.{next_piece_at, next_piece, more_pieces, line, next_line, more_lines}
use Rattle.fluent_syntax_grammar.specs.Lines.{no_byte, other_line, own_line}
use Rattle.fluent_syntax_grammar.specs.Layout.{Line}
use Rattle.fluent_syntax_grammar.specs.Patterns.{layout_at, layout, pattern}
use Rattle.fluent_syntax_grammar.specs.Variants.{next_variant, more_variants}
use Rattle.fluent_syntax_grammar.proofs.Included.{IsIncluded, itself_is_included, bind_is_included, peek_is_included}
use Rattle.fluent_syntax_grammar.proofs.Included.{branch_on_is_included, many_is_included, next_line_is_included}
use Rattle.fluent_syntax_grammar.proofs.Included.{IsIncludedFamily}
use Rattle.fluent_syntax_tree.specs.declared.edition.Edition.{Edition}
use Rattle.fluent_syntax_tree.specs.declared.spans.Span.{Span}

-- Each construct of the chain is included in the later ones, and what c gives, one of the chain gives.
pub record IsUnion {A : Type 0} (c : Construct A) (cs : ℕ → Construct A) : Type 0 where
  pub grows : (m n : ℕ) → m ≤ n → IsIncluded (cs m) (cs n)
  pub found : (i : ℕ) (o : Outcome A) → c i o → (n : ℕ) × cs n i o

-- ---- the formers

pub construct_is_union_of_itself : {A : Type 0} {c : Construct A} → IsUnion c (λ n. c)
construct_is_union_of_itself {c = c} = record { grows = λ m n l. itself_is_included; found = λ i o x. (0, x) }

bind_outcome_is_at_some_depth : {A B : Type 0} (c : Construct A) (cs : ℕ → Construct A) (f : A → Construct B)
    (fs : ℕ → A → Construct B) →
    IsUnion c cs → ((a : A) → IsUnion (f a) (λ n. fs n a)) → (i : ℕ) (o : Outcome B) → (c >>= f) i o → (n : ℕ) ×
    (cs n >>= fs n) i o
bind_outcome_is_at_some_depth c cs f fs u v i o (stops r) = let m = u.found i _ r in (m.0, stops m.1)
bind_outcome_is_at_some_depth c cs f fs u v i o (goes_on {j = j} {a = a} x y) =
    let m = u.found i _ x in
    let n = (v a).found j o y in (
      m.0 + n.0,
      goes_on ((u.grows m.0 (m.0 + n.0) (omega arith)).part i _ m.1)
          (((v a).grows n.0 (m.0 + n.0) (omega arith)).part j o n.1),
    )

pub bind_is_union :
    {A B : Type 0} {c : Construct A} {cs : ℕ → Construct A} {f : A → Construct B} {fs : ℕ → A → Construct B} →
    IsUnion c cs → ((a : A) → IsUnion (f a) (λ n. fs n a)) → IsUnion (c >>= f) (λ n. cs n >>= fs n)
bind_is_union {c = c} {cs = cs} {f = f} {fs = fs} u v = record {
  grows = λ m n l. bind_is_included (u.grows m n l) (λ a. (v a).grows m n l);
  found = bind_outcome_is_at_some_depth c cs f fs u v;
}

peek_outcome_is_in_union : {A B : Type 0} (look : ℕ → A) (f : A → Construct B) (fs : ℕ → A → Construct B) →
    ((a : A) → IsUnion (f a) (λ n. fs n a)) → (i : ℕ) (o : Outcome B) → peek look f i o → (n : ℕ) ×
    peek look (fs n) i o
peek_outcome_is_in_union look f fs v i o (chosen x) = let m = (v (look i)).found i o x in (m.0, chosen m.1)

pub peek_is_union : {A B : Type 0} {look : ℕ → A} {f : A → Construct B} {fs : ℕ → A → Construct B} →
    ((a : A) → IsUnion (f a) (λ n. fs n a)) → IsUnion (peek look f) (λ n. peek look (fs n))
peek_is_union {look = look} {f = f} {fs = fs} v = record {
  grows = λ m n l. peek_is_included (λ a. (v a).grows m n l);
  found = peek_outcome_is_in_union look f fs v;
}

branch_on_outcome_is_at_some_depth : {A : Type 0} (b : Bool) (c d : Construct A) (cs ds : ℕ → Construct A) →
    IsUnion c cs → IsUnion d ds →
    (i : ℕ) (o : Outcome A) → branch_on b c d i o → (n : ℕ) × branch_on b (cs n) (ds n) i o
branch_on_outcome_is_at_some_depth b c d cs ds u v i o (first e x) = let m = u.found i o x in (m.0, first e m.1)
branch_on_outcome_is_at_some_depth b c d cs ds u v i o (second e x) = let m = v.found i o x in (m.0, second e m.1)

pub branch_on_is_union : {A : Type 0} {b : Bool} {c d : Construct A} {cs ds : ℕ → Construct A} → IsUnion c cs →
    IsUnion d ds → IsUnion (branch_on b c d) (λ n. branch_on b (cs n) (ds n))
branch_on_is_union {b = b} {c = c} {d = d} {cs = cs} {ds = ds} u v = record {
  grows = λ m n l. branch_on_is_included (u.grows m n l) (v.grows m n l);
  found = branch_on_outcome_is_at_some_depth b c d cs ds u v;
}

module _ {A S B : Type 0} (f : S → Construct (More A S)) (fs : ℕ → S → Construct (More A S)) (add : A → B → B)
    (none : B) (v : (s : S) → IsUnion (f s) (λ n. fs n s)) where
  many_grows_with_depth : (s : S) (m n : ℕ) → m ≤ n → IsIncluded (many (fs m) add none s) (many (fs n) add none s)
  many_grows_with_depth s m n l = many_is_included (λ s. (v s).grows m n l)

  many_outcome_is_at_some_depth : (s : S) (i : ℕ) (o : Outcome B) → many f add none s i o →
      (n : ℕ) × many (fs n) add none s i o
  many_outcome_is_at_some_depth s i o (list_ends x) = let m = (v s).found i _ x in (m.0, list_ends m.1)
  many_outcome_is_at_some_depth s i o (list_stops x) = let m = (v s).found i _ x in (m.0, list_stops m.1)
  many_outcome_is_at_some_depth s i o (item_and_more {later = r} {j = j} x y) =
      let m = (v s).found i _ x in
      let n = many_outcome_is_at_some_depth r j _ y in (
        m.0 + n.0,
        item_and_more (((v s).grows m.0 (m.0 + n.0) (omega arith)).part i _ m.1)
            ((many_grows_with_depth r n.0 (m.0 + n.0) (omega arith)).part j _ n.1),
      )
  many_outcome_is_at_some_depth s i o (stops_later {later = r} {j = j} x y) =
      let m = (v s).found i _ x in
      let n = many_outcome_is_at_some_depth r j _ y in (
        m.0 + n.0,
        stops_later (((v s).grows m.0 (m.0 + n.0) (omega arith)).part i _ m.1)
            ((many_grows_with_depth r n.0 (m.0 + n.0) (omega arith)).part j _ n.1),
      )

pub many_is_union :
    {A S B : Type 0} {f : S → Construct (More A S)} {fs : ℕ → S → Construct (More A S)} {add : A → B → B} {none : B}
    {s : S} → ((s : S) → IsUnion (f s) (λ n. fs n s)) → IsUnion (many f add none s) (λ n. many (fs n) add none s)
many_is_union {f = f} {fs = fs} {add = add} {none = none} {s = s} v =
    record { grows = many_grows_with_depth f fs add none v s; found = many_outcome_is_at_some_depth f fs add none v s }

pub ruleset unions = (construct_is_union_of_itself, bind_is_union, peek_is_union, branch_on_is_union)

-- ---- the rules

-- a family that is the union of families that grow
pub record IsUnionFamily (R : Family) (Rs : ℕ → Family) : Type 0 where
  pub grows : (m n : ℕ) → m ≤ n → IsIncludedFamily (Rs m) (Rs n)
  pub expression : IsUnion R.expression (λ n. (Rs n).expression)
  pub argument_list : IsUnion R.argument_list (λ n. (Rs n).argument_list)

module _ (t : List ℕ) (R : Family) (Rs : ℕ → Family) (h : IsUnionFamily R Rs) where
  family_expression_is_union : IsUnion R.expression (λ n. (Rs n).expression)
  family_expression_is_union = h.expression

  family_argument_list_is_union : IsUnion R.argument_list (λ n. (Rs n).argument_list)
  family_argument_list_is_union = h.argument_list

  pub call_arguments_are_union : IsUnion (call_arguments t R) (λ n. call_arguments t (Rs n))
  call_arguments_are_union = search (unions, family_argument_list_is_union) depth 30

  pub placeable_is_union : IsUnion (placeable t R) (λ n. placeable t (Rs n))
  placeable_is_union = search (unions, family_expression_is_union) depth 30

  inline_by_start_is_union : (s : Start) → IsUnion (inline_of t R s) (λ n. inline_of t (Rs n) s)
  inline_by_start_is_union quote = search unions depth 30
  inline_by_start_is_union digit = search unions depth 30
  inline_by_start_is_union minus = search unions depth 30
  inline_by_start_is_union term = search (unions, call_arguments_are_union) depth 30
  inline_by_start_is_union dollar = search unions depth 30
  inline_by_start_is_union letter = search (unions, call_arguments_are_union) depth 30
  inline_by_start_is_union brace = search (unions, placeable_is_union) depth 30
  inline_by_start_is_union other = search unions depth 30

  pub inline_expression_is_union : IsUnion (inline_expression t R) (λ n. inline_expression t (Rs n))
  inline_expression_is_union = search (unions, inline_by_start_is_union) depth 30

  argument_value_is_union : (s : Start) → IsUnion (argument_value t R s) (λ n. argument_value t (Rs n) s)
  argument_value_is_union quote = inline_expression_is_union
  argument_value_is_union digit = inline_expression_is_union
  argument_value_is_union minus = search unions depth 30
  argument_value_is_union term = search unions depth 30
  argument_value_is_union dollar = search unions depth 30
  argument_value_is_union letter = inline_expression_is_union
  argument_value_is_union brace = search unions depth 30
  argument_value_is_union other = search unions depth 30

  named_rest_is_union : (names : List (List ℕ)) (name : Span) →
      IsUnion (named_rest t R names name) (λ n. named_rest t (Rs n) names name)
  named_rest_is_union names name = search (unions, argument_value_is_union) depth 30

  argument_rest_is_union : (names : List (List ℕ)) (e : InlineTree Span) (o : Option Span) (colon : Bool) →
      IsUnion (argument_rest t R names e o colon) (λ n. argument_rest t (Rs n) names e o colon)
  argument_rest_is_union names e None colon = construct_is_union_of_itself
  argument_rest_is_union names e (Some n) true = named_rest_is_union names n
  argument_rest_is_union names e (Some n) false = construct_is_union_of_itself

  argument_by_byte_is_union : (names : List (List ℕ)) (b : Option ℕ) →
      IsUnion (next_argument_at t R names b) (λ n. next_argument_at t (Rs n) names b)
  argument_by_byte_is_union names None = search unions depth 30
  argument_by_byte_is_union names (Some b) =
      search (unions, argument_rest_is_union, inline_expression_is_union) depth 30

  next_argument_is_union : (names : List (List ℕ)) →
      IsUnion (next_argument t R names) (λ n. next_argument t (Rs n) names)
  next_argument_is_union names = search (unions, argument_by_byte_is_union) depth 30

  pub more_arguments_are_union : (names : List (List ℕ)) →
      IsUnion (more_arguments t R names) (λ n. more_arguments t (Rs n) names)
  more_arguments_are_union names = many_is_union next_argument_is_union

  piece_by_byte_is_union : (b : Option ℕ) → IsUnion (next_piece_at t R b) (λ n. next_piece_at t (Rs n) b)
  piece_by_byte_is_union None = search unions depth 30
  piece_by_byte_is_union (Some b) = search (unions, placeable_is_union) depth 30

  next_piece_is_union : IsUnion (next_piece t R) (λ n. next_piece t (Rs n))
  next_piece_is_union = search (unions, piece_by_byte_is_union) depth 30

  pub more_pieces_are_union : IsUnion (more_pieces t R) (λ n. more_pieces t (Rs n))
  more_pieces_are_union = many_is_union (λ u. next_piece_is_union)

  line_is_union : IsUnion (line t R) (λ n. line t (Rs n))
  line_is_union = search (unions, more_pieces_are_union) depth 30

  own_line_is_union : IsUnion {A = More Line (Unit {0})} (line t R >>= λ l. yields (item l tt))
      (λ n. line t (Rs n) >>= λ l. yields (item l tt))
  own_line_is_union = search (unions, line_is_union) depth 30

  line_of_union_is_of_some_family : (i : ℕ) (o : Outcome (More Line (Unit {0}))) → next_line t R i o → (n : ℕ) ×
      next_line t (Rs n) i o
  line_of_union_is_of_some_family i o (no_byte a b) = (0, no_byte a b)
  line_of_union_is_of_some_family i o (other_line a b c) = (0, other_line a b c)
  line_of_union_is_of_some_family i o (own_line a b c d) = let m = own_line_is_union.found i o d in
      (m.0, own_line a b c m.1)

  next_line_is_union : IsUnion (next_line t R) (λ n. next_line t (Rs n))
  next_line_is_union =
      record {
        grows = λ m n l. next_line_is_included t (Rs m) (Rs n) (h.grows m n l);
        found =
            line_of_union_is_of_some_family;
      }

  pub more_lines_are_union : IsUnion (more_lines t R) (λ n. more_lines t (Rs n))
  more_lines_are_union = many_is_union (λ u. next_line_is_union)

  layout_by_eol_is_union : (o : Option ℕ) → IsUnion (layout_at t R o) (λ n. layout_at t (Rs n) o)
  layout_by_eol_is_union None = search (unions, more_pieces_are_union, more_lines_are_union) depth 30
  layout_by_eol_is_union (Some k) = search (unions, more_lines_are_union) depth 30

  layout_is_union : IsUnion (layout t R) (λ n. layout t (Rs n))
  layout_is_union = search (unions, layout_by_eol_is_union) depth 30

module _ (edition : Edition) (t : List ℕ) (R : Family) (Rs : ℕ → Family) (h : IsUnionFamily R Rs) where
  pub pattern_is_union : IsUnion (pattern edition t R) (λ n. pattern edition t (Rs n))
  pattern_is_union = search (unions, layout_is_union) depth 30

  next_variant_is_union : (starred : Bool) →
      IsUnion (next_variant edition t R starred) (λ n. next_variant edition t (Rs n) starred)
  next_variant_is_union starred = search (unions, pattern_is_union) depth 30

  pub more_variants_are_union : (starred : Bool) →
      IsUnion (more_variants edition t R starred) (λ n. more_variants edition t (Rs n) starred)
  more_variants_are_union starred = many_is_union next_variant_is_union

  select_is_union : (e : InlineTree Span) (o : Option Kind) →
      IsUnion (select_with edition t R e o) (λ n. select_with edition t (Rs n) e o)
  select_is_union e None = search (unions, more_variants_are_union) depth 30
  select_is_union e (Some k) = search unions depth 30

  pub expression_is_union : IsUnion (expression edition t R) (λ n. expression edition t (Rs n))
  expression_is_union = search (unions, select_is_union, inline_expression_is_union) depth 30
