-- The name of an argument that is a message reference, by where it begins.
use Rattle.std.proofs.Common.{◌≡◌, ℕ, List, Option, Some, None, Bool, true, false, refl, sym, ap, ◌∙◌, true≢false}
use Rattle.fluent_syntax_tree.specs.Kind.{Kind}
use Rattle.fluent_syntax_tree.specs.Tree.{InlineTree, inline_map, string_literal, number_literal, function_reference}
use Rattle.fluent_syntax_tree.specs.Tree.{message_reference, term_reference, variable_reference, inline_placeable}
use Rattle.fluent_syntax_tree.specs.Tree.{MaybeArguments, no_arguments, some_arguments}
use Rattle.fluent_syntax_tree.specs.Spans.{bytes_at}
use Rattle.fluent_syntax_tree.specs.declared.spans.Span.{Span}
use Rattle.fluent_syntax_grammar.specs.Arguments.{argument_name}
use Rattle.fluent_syntax_grammar.specs.Construct.{Outcome, Read, Refused, yields, given, goes_on, chosen, first, second}
use Rattle.fluent_syntax_grammar.specs.Family.{Family}
use Rattle.fluent_syntax_grammar.specs.Inline.{inline_expression, inline_of, named_reference}
use Rattle.fluent_syntax_grammar.specs.Starts.{Start, brace, digit, dollar, letter, minus, other, quote, start, term}
use Rattle.fluent_syntax_grammar.specs.Tokens.{identifier}
use Rattle.fluent_syntax_grammar.proofs.FunctionalWords.{identifier_is_functional}
use Rattle.fluent_syntax_parser.specs.Outcomes.{name_text}
use Rattle.fluent_syntax_parser.proofs.scanning.NameTexts.{identifier_has_name_text}

-- a message reference without attribute
abbrev pub is_name : {X : Type 0} → InlineTree X → Bool
is_name (string_literal v) = false
is_name (number_literal v) = false
is_name (function_reference id a) = false
is_name (message_reference id None) = true
is_name (message_reference id (Some a)) = false
is_name (term_reference id attribute a) = false
is_name (variable_reference id) = false
is_name (inline_placeable e) = false

pub is_name-inline_map : {X Y : Type 0} (f : X → Y) (e : InlineTree X) → is_name (inline_map f e) ≡ is_name e
is_name-inline_map f (string_literal x) = refl
is_name-inline_map f (number_literal x) = refl
is_name-inline_map f (function_reference x a) = refl
is_name-inline_map f (message_reference x None) = refl
is_name-inline_map f (message_reference x (Some a)) = refl
is_name-inline_map f (term_reference x a c) = refl
is_name-inline_map f (variable_reference x) = refl
is_name-inline_map f (inline_placeable e) = refl

pub inline_but_name_has_no_argument_name : (e : InlineTree Span) → is_name e ≡ false → argument_name e ≡ None
inline_but_name_has_no_argument_name (string_literal x) h = refl
inline_but_name_has_no_argument_name (number_literal x) h = refl
inline_but_name_has_no_argument_name (function_reference x a) h = refl
inline_but_name_has_no_argument_name (message_reference x None) h = absurd (true≢false h)
inline_but_name_has_no_argument_name (message_reference x (Some a)) h = refl
inline_but_name_has_no_argument_name (term_reference x a c) h = refl
inline_but_name_has_no_argument_name (variable_reference x) h = refl
inline_but_name_has_no_argument_name (inline_placeable e) h = refl

-- the name of a message reference, and where it ends
module _ (t : List ℕ) (i : ℕ) where
  abbrev Named : InlineTree Span → Type 0
  Named e = is_name e ≡ true → (name : Span) × (end : ℕ) × identifier t i (Read name end) ×
      (argument_name e ≡ Some name)

  value_read_by_yields_is_its_value : {A : Type 0} {a b : A} {i j : ℕ} → yields a i (Read b j) → b ≡ a
  value_read_by_yields_is_its_value given = refl

  expression_that_is_no_name_names_nothing : (e a : InlineTree Span) {k j : ℕ} → is_name a ≡ false →
      yields a k (Read e j) → Named e
  expression_that_is_no_name_names_nothing e a none h is =
      absurd (true≢false (sym is ∙ ap is_name (value_read_by_yields_is_its_value h) ∙ none))

  bare_message_reference_names_its_identifier : (id : Span) (a : Option Span) →
      is_name (message_reference id a) ≡ true → argument_name (message_reference id a) ≡ Some id
  bare_message_reference_names_its_identifier id None is = refl
  bare_message_reference_names_its_identifier id (Some a) is = absurd (true≢false (sym is))

  named_reference_is_named_by_identifier : (id : Span) (m : ℕ) → identifier t i (Read id m) → (a : MaybeArguments Span)
      (e : InlineTree Span) (k j : ℕ) → named_reference t id a k (Read e j) → Named e
  named_reference_is_named_by_identifier id m read (some_arguments a) e k j (first test h) is =
      expression_that_is_no_name_names_nothing e (function_reference id a) refl h is
  named_reference_is_named_by_identifier id m read (some_arguments a) e k j (second test h) is = elim h [ ]
  named_reference_is_named_by_identifier id m read no_arguments e k j (goes_on {a = a} x h) is = (
    id,
    m,
    read,
    ap argument_name (value_read_by_yields_is_its_value h)
        ∙ bare_message_reference_names_its_identifier id a
        (ap is_name (sym (value_read_by_yields_is_its_value h)) ∙ is),
  )

  module _ (R : Family) where
    by_start : (s : Start) (e : InlineTree Span) (j : ℕ) → inline_of t R s i (Read e j) → Named e
    by_start quote e j (goes_on {a = v} x h) is =
        expression_that_is_no_name_names_nothing e (string_literal v) refl h is
    by_start digit e j (goes_on {a = v} x h) is =
        expression_that_is_no_name_names_nothing e (number_literal v) refl h is
    by_start minus e j (goes_on {a = v} x h) is =
        expression_that_is_no_name_names_nothing e (number_literal v) refl h is
    by_start term e j (goes_on x (goes_on {a = id} y (goes_on {a = a} z (goes_on {a = c} w h)))) is =
        expression_that_is_no_name_names_nothing e (term_reference id a c) refl h is
    by_start dollar e j (goes_on x (goes_on {a = id} y h)) is =
        expression_that_is_no_name_names_nothing e (variable_reference id) refl h is
    by_start letter e j (goes_on {j = m} {a = id} x (goes_on {a = a} y h)) is =
        named_reference_is_named_by_identifier id m x a e _ j h is
    by_start brace e j (goes_on {a = v} x h) is =
        expression_that_is_no_name_names_nothing e (inline_placeable v) refl h is
    by_start other e j h is = elim h [ ]

    pub argument_name_is_identifier : (e : InlineTree Span) (j : ℕ) → inline_expression t R i (Read e j) → Named e
    argument_name_is_identifier e j (chosen h) = by_start (start t i) e j h

    -- the text of a name, by where the argument begins
    pub argument_name_is_name_text_there : (e : InlineTree Span) (j : ℕ) → inline_expression t R i (Read e j) →
        (name : Span) → argument_name e ≡ Some name → bytes_at t name ≡ name_text t i
    argument_name_is_name_text_there e j read name is = by (is_name e) refl
      where
        by : (b : Bool) → is_name e ≡ b → bytes_at t name ≡ name_text t i
        by true named =
            let found = argument_name_is_identifier e j read named in
            let same : name ≡ found.0 = let both : Some name ≡ Some found.0 = sym is ∙ found.3 in cc in
            rw same (identifier_has_name_text t found.2)
        by false unnamed = let none : Some name ≡ None = sym is ∙ inline_but_name_has_no_argument_name e unnamed in cc

-- ---- a name that was looked for

abbrev value_of : {A : Type 0} → Outcome A → Option A
value_of (Read a j) = Some a
value_of (Refused k from to) = None

pub one_name_is_read : (t : List ℕ) {i j m : ℕ} {a b : Span} → identifier t i (Read a j) → identifier t i (Read b m) →
    Some a ≡ Some b
one_name_is_read t h r = let f = identifier_is_functional t in ap value_of (f.same _ _ _ h r)

pub refused_is_not_read : (t : List ℕ) {i m from to : ℕ} {k : Kind} {b : Span} → identifier t i (Refused k from to) →
    identifier t i (Read b m) → None ≡ Some b
refused_is_not_read t h r = let f = identifier_is_functional t in ap value_of (f.same _ _ _ h r)
