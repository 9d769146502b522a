-- The rules over a sound family are sound.
use Rattle.std.proofs.Common.{◌≡◌, ℕ, ◌+◌, List, [], ◌∷◌, Option, Some, None, Bool, true, false, refl, sym}
use Rattle.std.proofs.Common.{subst, arith}
use Rattle.std.specs.Prelude.{slice_get, ◌==◌}
use Rattle.fluent_syntax_tree.specs.Kind.{Kind, MessageReferenceAsSelector, MessageAttributeAsSelector}
use Rattle.fluent_syntax_tree.specs.Kind.{TermReferenceAsSelector, ExpectedSimpleExpressionAsSelector}
use Rattle.fluent_syntax_grammar.specs.Meaning.{kind_means}
use Rattle.fluent_syntax_tree.specs.Tree.{InlineTree, string_literal, number_literal, function_reference}
use Rattle.fluent_syntax_tree.specs.Tree.{message_reference, term_reference, variable_reference, inline_placeable}
use Rattle.fluent_syntax_tree.specs.Tree.{ArgumentsTree, arguments, MaybeArguments, no_arguments, some_arguments}
use Rattle.fluent_syntax_tree.specs.Every.{key_every, expression_every, inline_every, arguments_every, maybe_every}
use Rattle.fluent_syntax_tree.specs.Every.{variant_every, option_every}
use Rattle.fluent_syntax_grammar.specs.Places.{Steps, has_byte, after_eol}
use Rattle.fluent_syntax_grammar.specs.Construct.{yields, peek}
use Rattle.fluent_syntax_grammar.specs.Family.{Family}
use Rattle.fluent_syntax_grammar.specs.Starts.{Start, quote, digit, term, minus, dollar, letter, brace, other}
use Rattle.fluent_syntax_grammar.specs.Arguments.{accessor, separator, Argument, positional, named, add_argument}
use Rattle.fluent_syntax_grammar.specs.Arguments.{call_arguments, argument_value, named_rest, positional_rest}
use Rattle.fluent_syntax_grammar.specs.Arguments.{argument_name, argument_rest, next_argument_at, more_arguments}
use Rattle.fluent_syntax_grammar.specs.Expressions.{arrow_line_end, has_arrow, selector_fault, placeable}
use Rattle.fluent_syntax_grammar.specs.Inline.{named_reference, inline_of, inline_expression}
use Rattle.fluent_syntax_grammar.specs.Variants.{variant_key, only_star, variants_end}
use Rattle.fluent_syntax_tree.specs.declared.edition.Edition.{Edition}
use Rattle.fluent_syntax_tree.specs.declared.spans.Span.{Span}
use Rattle.fluent_syntax_grammar.proofs.HoareTriple.{HoareTriple, holds_weaker, fails_meets_triple, holds_skip}
use Rattle.fluent_syntax_grammar.proofs.HoareTriple.{holds_peek}
use Rattle.fluent_syntax_grammar.proofs.Cuts.{AreBoundaries, byte_below_128_is_ascii, eol_goes_on, eol_ends_at_boundary}
use Rattle.fluent_syntax_grammar.proofs.Sound.{IsSpan, IsPlain, Inside, Ended, IsFault, Sound, bind_is_sound}
use Rattle.fluent_syntax_grammar.proofs.Sound.{yields_is_sound, fails_is_sound, peek_is_sound, branch_on_is_sound}
use Rattle.fluent_syntax_grammar.proofs.Sound.{inline_blank_is_sound, blank_is_sound, good_more, many_is_sound}
use Rattle.fluent_syntax_grammar.proofs.SoundWords.{optional_is_sound, token_is_sound, identifier_is_sound}
use Rattle.fluent_syntax_grammar.proofs.SoundWords.{number_is_sound}
use Rattle.fluent_syntax_grammar.proofs.SoundStrings.{string_is_sound}
use Rattle.fluent_syntax_grammar.proofs.Facts.{holds-none, and_gives_right}

pub record IsSoundFamily (t : List ℕ) (P : ℕ → Type 0) (R : Family) : Type 0 where
  pub expression : (s : ℕ) → Sound t P s R.expression (expression_every (IsSpan P))
  pub argument_list : (s : ℕ) → Sound t P s R.argument_list (arguments_every (IsSpan P))

look_is_sound : {A : Type 0} {t : List ℕ} {P : ℕ → Type 0} {s : ℕ} {look : ℕ → A} →
    Sound t P s (peek look yields) (λ a. Unit {0})
look_is_sound = peek_is_sound (λ a. yields_is_sound tt)

module _ (t : List ℕ) (P : ℕ → Type 0) (cuts : AreBoundaries t P) where
  pub accessor_is_sound : {s : ℕ} → Sound t P s (accessor t) (option_every (IsSpan P))
  accessor_is_sound =
      bind_is_sound (optional_is_sound t P cuts 46 refl)
      (λ dot u. branch_on_is_sound (λ e. bind_is_sound (identifier_is_sound t P cuts) (λ a g. yields_is_sound g))
      (λ e. yields_is_sound tt))

  pub separator_is_sound : {s : ℕ} → Sound t P s (separator t) (λ u. Unit {0})
  separator_is_sound =
      bind_is_sound (blank_is_sound t P cuts)
      (λ u v. bind_is_sound (optional_is_sound t P cuts 44 refl) (λ u v. blank_is_sound t P cuts))

  pub named_reference_is_sound : {s : ℕ} (id : Span) (a : MaybeArguments Span) → IsSpan P id → maybe_every (IsSpan P) a
      → Sound t P s (named_reference t id a) (inline_every (IsSpan P))
  named_reference_is_sound id no_arguments g h = bind_is_sound accessor_is_sound (λ a k. yields_is_sound (g, k))
  named_reference_is_sound id (some_arguments a) g h =
      branch_on_is_sound (λ e. yields_is_sound (g, h)) (λ e. fails_is_sound cuts.in_text tt (λ i. tt))

  pub key_is_sound : {s : ℕ} → Sound t P s (variant_key t) (key_every (IsSpan P))
  key_is_sound =
      peek_is_sound
      (λ n. branch_on_is_sound (λ e. bind_is_sound (number_is_sound t P cuts) (λ v g. yields_is_sound g))
      (λ e. bind_is_sound (identifier_is_sound t P cuts) (λ v g. yields_is_sound g)))

  pub only_star_is_sound : {s : ℕ} (starred star : Bool) → Sound t P s (only_star starred star) (λ u. Unit {0})
  only_star_is_sound starred star = branch_on_is_sound (λ e. fails_is_sound cuts.in_text tt (λ i. tt))
      (λ e. yields_is_sound tt)

  pub variants_end_is_sound : {s : ℕ} (edition : Edition) (starred star : Bool) →
      Sound t P s (variants_end edition starred star) (good_more (variant_every (IsSpan P)))
  variants_end_is_sound edition starred star = branch_on_is_sound (λ e. yields_is_sound tt)
      (λ e. fails_is_sound cuts.in_text tt (λ i. tt))

-- the parts of an argument are good
abbrev pub ArgumentSpansInBounds : (ℕ → Type 0) → Argument → Type 0
ArgumentSpansInBounds P (positional e) = inline_every (IsSpan P) e
ArgumentSpansInBounds P (named name e) = IsSpan P name × inline_every (IsSpan P) e

arguments_with_added_stay_in_bounds : (P : ℕ → Type 0) (x : Argument) (a : ArgumentsTree Span) →
    ArgumentSpansInBounds P x → arguments_every (IsSpan P) a → arguments_every (IsSpan P) (add_argument x a)
arguments_with_added_stay_in_bounds P (positional e) (arguments ps ns) g (h, k) = ((g, h), k)
arguments_with_added_stay_in_bounds P (named name e) (arguments ps ns) g (h, k) = (h, (g, k))

argument_name_is_good : (P : ℕ → Type 0) (e : InlineTree Span) → inline_every (IsSpan P) e →
    option_every (IsSpan P) (argument_name e)
argument_name_is_good P (string_literal v) g = tt
argument_name_is_good P (number_literal v) g = tt
argument_name_is_good P (function_reference id a) g = tt
argument_name_is_good P (message_reference id None) g = g.0
argument_name_is_good P (message_reference id (Some a)) g = tt
argument_name_is_good P (term_reference id attribute a) g = tt
argument_name_is_good P (variable_reference id) g = tt
argument_name_is_good P (inline_placeable e) g = tt

-- the kinds of selectors that are none say nothing of a byte
pub fault_is_plain : (t : List ℕ) (e : InlineTree Span) (k : Kind) → selector_fault e ≡ Some k → (i : ℕ) → IsPlain k ×
    kind_means t k i
fault_is_plain t (string_literal v) k h i = cc
fault_is_plain t (number_literal v) k h i = cc
fault_is_plain t (function_reference id a) k h i = cc
fault_is_plain t (message_reference id None) k h i = let e : MessageReferenceAsSelector ≡ k = cc in
    subst (λ k. IsPlain k × kind_means t k i) e (tt, tt)
fault_is_plain t (message_reference id (Some a)) k h i = let e : MessageAttributeAsSelector ≡ k = cc in
    subst (λ k. IsPlain k × kind_means t k i) e (tt, tt)
fault_is_plain t (term_reference id None a) k h i = let e : TermReferenceAsSelector ≡ k = cc in
    subst (λ k. IsPlain k × kind_means t k i) e (tt, tt)
fault_is_plain t (term_reference id (Some attribute) a) k h i = cc
fault_is_plain t (variable_reference id) k h i = cc
fault_is_plain t (inline_placeable e) k h i = let e : ExpectedSimpleExpressionAsSelector ≡ k = cc in
    subst (λ k. IsPlain k × kind_means t k i) e (tt, tt)

module _ (t : List ℕ) (P : ℕ → Type 0) (cuts : AreBoundaries t P) where
  arrow_line_end_reads_soundly : (s : ℕ) (o : Option ℕ) →
      HoareTriple (λ i. Inside P s i × (after_eol t i ≡ o)) (arrow_line_end o) (Ended P s (λ u. Unit {0})) (IsFault t s)
  arrow_line_end_reads_soundly s None =
      fails_meets_triple (λ i p. let q = p.0 in
      record { late = q.late; in_text = cuts.in_text i q.place; one = refl; plain = tt; means = tt })
  arrow_line_end_reads_soundly s (Some k) =
      holds_skip (λ i j p w. let q = p.0 in let l = q.late in let f = eol_goes_on t i k p.1 in let e = w.there in
      record { late = omega arith; place = subst P (sym e) (eol_ends_at_boundary t P cuts i k p.1); good = tt })

  pub arrow_is_sound : {s : ℕ} → Sound t P s (peek (after_eol t) arrow_line_end) (λ u. Unit {0})
  arrow_is_sound {s = s} = record { holds = holds_peek (arrow_line_end_reads_soundly s) }

  abbrev pub AtArrow : ℕ → Bool → ℕ → Type 0
  AtArrow s arrow i = Inside P s i × (has_arrow t i ≡ arrow)

  pub place_after_arrow_is_inside : (s i j : ℕ) → AtArrow s true i → Steps 2 i j → Inside P s j
  place_after_arrow_is_inside s i j p w =
      let q = p.0 in
      let late = q.late in
      let by = w.by in
      let e : (i + 1) + 1 ≡ j = omega arith in
      record {
        late = omega arith;
        place =
            subst P e (cuts.after (i + 1)
            (byte_below_128_is_ascii t 62 (i + 1) (omega arith)
            (and_gives_right (has_byte t 45 i) (has_byte t 62 (i + 1)) p.1)));
      }

module _ (t : List ℕ) (P : ℕ → Type 0) (cuts : AreBoundaries t P) (R : Family) (h : IsSoundFamily t P R) where
  pub call_is_sound : {s : ℕ} → Sound t P s (call_arguments t R) (maybe_every (IsSpan P))
  call_is_sound {s = s} =
      bind_is_sound (blank_is_sound t P cuts)
      (λ u v. bind_is_sound (optional_is_sound t P cuts 40 refl) (λ bracket u. branch_on_is_sound
      (λ e. bind_is_sound (bind_is_sound (blank_is_sound t P cuts) (λ u v. h.argument_list s))
      (λ a g. yields_is_sound g))
      (λ e. yields_is_sound tt)))

  pub placeable_is_sound : {s : ℕ} → Sound t P s (placeable t R) (expression_every (IsSpan P))
  placeable_is_sound =
      bind_is_sound (token_is_sound t P cuts 123 refl)
      (λ u v. bind_is_sound (blank_is_sound t P cuts) (λ u v. bind_is_sound (h.expression _) (λ e g.
      bind_is_sound (inline_blank_is_sound t P cuts)
      (λ u v. bind_is_sound (token_is_sound t P cuts 125 refl) (λ u v. yields_is_sound g)))))

  inline_of_is_sound : {s : ℕ} (x : Start) → Sound t P s (inline_of t R x) (inline_every (IsSpan P))
  inline_of_is_sound quote = bind_is_sound (string_is_sound t P cuts) (λ v g. yields_is_sound g)
  inline_of_is_sound digit = bind_is_sound (number_is_sound t P cuts) (λ v g. yields_is_sound g)
  inline_of_is_sound minus = bind_is_sound (number_is_sound t P cuts) (λ v g. yields_is_sound g)
  inline_of_is_sound term =
      bind_is_sound (token_is_sound t P cuts 45 refl)
      (λ u v. bind_is_sound (identifier_is_sound t P cuts) (λ id g. bind_is_sound (accessor_is_sound t P cuts) (λ a k.
      bind_is_sound call_is_sound (λ c m. yields_is_sound (g, k, m)))))
  inline_of_is_sound dollar =
      bind_is_sound (token_is_sound t P cuts 36 refl) (λ u v. bind_is_sound (identifier_is_sound t P cuts)
      (λ id g. yields_is_sound g))
  inline_of_is_sound letter =
      bind_is_sound (identifier_is_sound t P cuts) (λ id g. bind_is_sound call_is_sound
      (λ a k. named_reference_is_sound t P cuts id a g k))
  inline_of_is_sound brace = bind_is_sound placeable_is_sound (λ e g. yields_is_sound g)
  inline_of_is_sound other = fails_is_sound cuts.in_text tt (λ i. tt)

  pub inline_is_sound : {s : ℕ} → Sound t P s (inline_expression t R) (inline_every (IsSpan P))
  inline_is_sound = peek_is_sound inline_of_is_sound

  value_is_sound : {s : ℕ} (x : Start) → Sound t P s (argument_value t R x) (inline_every (IsSpan P))
  value_is_sound quote = inline_is_sound
  value_is_sound digit = inline_is_sound
  value_is_sound letter = inline_is_sound
  value_is_sound minus = fails_is_sound cuts.in_text tt (λ i. tt)
  value_is_sound term = fails_is_sound cuts.in_text tt (λ i. tt)
  value_is_sound dollar = fails_is_sound cuts.in_text tt (λ i. tt)
  value_is_sound brace = fails_is_sound cuts.in_text tt (λ i. tt)
  value_is_sound other = fails_is_sound cuts.in_text tt (λ i. tt)

  named_rest_is_sound : {s : ℕ} (names : List (List ℕ)) (name : Span) → IsSpan P name →
      Sound t P s (named_rest t R names name) (good_more (ArgumentSpansInBounds P))
  named_rest_is_sound names name f = branch_on_is_sound (λ e. fails_is_sound cuts.in_text tt (λ i. tt))
      (λ y. bind_is_sound (token_is_sound t P cuts 58 refl)
      (λ u v. bind_is_sound (blank_is_sound t P cuts) (λ u v. bind_is_sound (peek_is_sound value_is_sound) (λ e g.
      bind_is_sound (separator_is_sound t P cuts) (λ u v. yields_is_sound (f, g))))))

  positional_rest_is_sound : {s : ℕ} (names : List (List ℕ)) (e : InlineTree Span) → inline_every (IsSpan P) e →
      Sound t P s (positional_rest t names e) (good_more (ArgumentSpansInBounds P))
  positional_rest_is_sound [] e g = bind_is_sound (separator_is_sound t P cuts) (λ u v. yields_is_sound g)
  positional_rest_is_sound (n ∷ ns) e g = fails_is_sound cuts.in_text tt (λ i. tt)

  argument_rest_is_sound : {s : ℕ} (names : List (List ℕ)) (e : InlineTree Span) (o : Option Span) (colon : Bool) →
      inline_every (IsSpan P) e → option_every (IsSpan P) o →
      Sound t P s (argument_rest t R names e o colon) (good_more (ArgumentSpansInBounds P))
  argument_rest_is_sound names e None colon g k = positional_rest_is_sound names e g
  argument_rest_is_sound names e (Some n) true g k = named_rest_is_sound names n k
  argument_rest_is_sound names e (Some n) false g k = positional_rest_is_sound names e g

  argument_by_byte_reads_soundly : (s : ℕ) (names : List (List ℕ)) (o : Option ℕ) →
      HoareTriple (λ i. Inside P s i × (slice_get t i ≡ o)) (next_argument_at t R names o)
      (Ended P s (good_more (ArgumentSpansInBounds P))) (IsFault t s)
  argument_by_byte_reads_soundly s names None =
      fails_meets_triple (λ i p. let q = p.0 in
      record {
        late = q.late;
        in_text = cuts.in_text i q.place;
        one = refl;
        plain = tt;
        means = holds-none (λ c. c == 41) (slice_get t i) p.1;
      })
  argument_by_byte_reads_soundly s names (Some b) =
      holds_weaker {pre = Inside P s} (λ i p. p.0) (λ a j x. x) (λ k from to x. x)
      (branch_on_is_sound (λ e. bind_is_sound (token_is_sound t P cuts 41 refl) (λ u v. yields_is_sound tt))
      (λ e. bind_is_sound inline_is_sound
      (λ e g. bind_is_sound look_is_sound
      (λ colon u. argument_rest_is_sound names e (argument_name e) colon g (argument_name_is_good P e g))))).holds

  pub arguments_are_sound : {s : ℕ} (names : List (List ℕ)) →
      Sound t P s (more_arguments t R names) (arguments_every (IsSpan P))
  arguments_are_sound {s = s} names =
      many_is_sound (λ names. record { holds = holds_peek (argument_by_byte_reads_soundly s names) }) (tt, tt)
      (arguments_with_added_stay_in_bounds P)
