-- What nests has an outcome at each place of the text.
use Rattle.std.proofs.Common.{◌≡◌, ℕ, ◌+◌, ◌≤◌, List, [], ◌∷◌, Option, Some, None, Bool, true, false, refl, ◌∙◌, subst}
use Rattle.std.proofs.Common.{arith, inl, inr}
use Rattle.std.specs.Prelude.{slice_get, ◌⊎◌, ◌==◌, ◌||◌, ◌&&◌, not, if◌then◌else◌}
use Rattle.fluent_syntax_tree.specs.Kind.{UnbalancedClosingBrace}
use Rattle.fluent_syntax_tree.specs.Tree.{InlineTree, MaybeArguments, no_arguments, some_arguments}
use Rattle.fluent_syntax_grammar.specs.Bytes.{lf, cr}
use Rattle.fluent_syntax_grammar.specs.Places.{holds, LongestRun, has_byte, has_eol, after_eol}
use Rattle.fluent_syntax_grammar.specs.Construct.{Read, Construct, ◌>>=◌, goes_on, yields, here, at_place, passed}
use Rattle.fluent_syntax_grammar.specs.Construct.{peek, chosen, branch_on, first, second, fails, More, no_item, item}
use Rattle.fluent_syntax_grammar.specs.Construct.{many, list_ends, item_and_more}
use Rattle.fluent_syntax_grammar.specs.Family.{Family}
use Rattle.fluent_syntax_grammar.specs.Starts.{Start, quote, digit, term, minus, dollar, letter, brace, other}
use Rattle.fluent_syntax_grammar.specs.Arguments.{accessor, separator, call_arguments, argument_value, named_rest}
use Rattle.fluent_syntax_grammar.specs.Arguments.{positional_rest, argument_name, argument_rest, next_argument_at}
use Rattle.fluent_syntax_grammar.specs.Arguments.{next_argument, more_arguments}
use Rattle.fluent_syntax_grammar.specs.Expressions.{arrow_line_end, placeable}
use Rattle.fluent_syntax_grammar.specs.Inline.{named_reference, inline_of, inline_expression}
use Rattle.fluent_syntax_grammar.specs.Layout.{Piece, run, placed, Ending}
use Rattle.fluent_syntax_grammar.specs.Lines.{is_run_place, ending_of, ending, text_run, next_piece_at, next_piece}
use Rattle.fluent_syntax_grammar.specs.Lines.{more_pieces}
use Rattle.fluent_syntax_grammar.specs.Variants.{variant_key}
use Rattle.fluent_syntax_tree.specs.declared.spans.Span.{Span}
use Rattle.fluent_syntax_grammar.proofs.HoareTriple.{HoareTriple, yields_reads_its_value_in_place, holds_weaker}
use Rattle.fluent_syntax_grammar.proofs.HoareTriple.{yields_meets_triple, holds_peek}
use Rattle.fluent_syntax_grammar.proofs.HoareTriple.{holds_branch_on}
use Rattle.fluent_syntax_grammar.proofs.Cuts.{eol_goes_on, line_end_is_in_text}
use Rattle.fluent_syntax_grammar.proofs.SoundStrings.{InText}
use Rattle.fluent_syntax_grammar.proofs.SoundLines.{ending_reads_soundly}
use Rattle.fluent_syntax_grammar.proofs.Boundaries.{places_in_text_are_boundaries}
use Rattle.fluent_syntax_grammar.proofs.Total.{From, AnyFault, Decides, TotalOnward, TotalConsuming, TotalConsumingItem}
use Rattle.fluent_syntax_grammar.proofs.Total.{bind_decides, weakened_construct_decides, yields_decides, here_decides}
use Rattle.fluent_syntax_grammar.proofs.Total.{fails_decides, skip_decides, peek_decides, any_peek_decides}
use Rattle.fluent_syntax_grammar.proofs.Total.{branch_on_decides, any_branch_decides, yields_is_total_onward}
use Rattle.fluent_syntax_grammar.proofs.Total.{here_is_total_onward}
use Rattle.fluent_syntax_grammar.proofs.Total.{strict_is_total_onward, more_on, more_earlier, item_strict_is_consuming}
use Rattle.fluent_syntax_grammar.proofs.Total.{many_is_total_onward}
use Rattle.fluent_syntax_grammar.proofs.TotalWords.{eol_decides, blank_is_total_onward, inline_blank_is_total_onward}
use Rattle.fluent_syntax_grammar.proofs.TotalWords.{optional_is_total_onward, token_is_consuming, text_run_is_total}
use Rattle.fluent_syntax_grammar.proofs.TotalWords.{identifier_is_consuming, number_is_consuming, string_is_consuming}
use Rattle.fluent_syntax_grammar.proofs.Facts.{absurd_test, longest_run_nonempty}

-- each construct of the family has an outcome at each place from s on
pub record TotalOnwardFamily (t : List ℕ) (s : ℕ) (R : Family) : Type 0 where
  pub expression : TotalOnward t s R.expression
  pub argument_list : TotalOnward t s R.argument_list

look_is_total_onward : {A : Type 0} {t : List ℕ} {s : ℕ} {look : ℕ → A} → TotalOnward t s (peek look yields)
look_is_total_onward = any_peek_decides (λ a. yields_is_total_onward)

module _ (t : List ℕ) where
  accessor_is_total_onward : {s : ℕ} → TotalOnward t s (accessor t)
  accessor_is_total_onward =
      bind_decides (optional_is_total_onward t 46)
      (λ dot. any_branch_decides (bind_decides (strict_is_total_onward (identifier_is_consuming t))
      (λ a. yields_is_total_onward))
      yields_is_total_onward)

  separator_is_total_onward : {s : ℕ} → TotalOnward t s (separator t)
  separator_is_total_onward =
      bind_decides (blank_is_total_onward t) (λ u. bind_decides (optional_is_total_onward t 44)
      (λ u. blank_is_total_onward t))

  named_is_total_onward : {s : ℕ} (id : Span) (a : MaybeArguments Span) → TotalOnward t s (named_reference t id a)
  named_is_total_onward id no_arguments = bind_decides accessor_is_total_onward (λ a. yields_is_total_onward)
  named_is_total_onward id (some_arguments a) = any_branch_decides yields_is_total_onward fails_decides

  pub key_is_total_onward : {s : ℕ} → TotalOnward t s (variant_key t)
  key_is_total_onward =
      any_peek_decides (λ n.
      any_branch_decides (bind_decides (strict_is_total_onward (number_is_consuming t)) (λ v. yields_is_total_onward))
      (bind_decides (strict_is_total_onward (identifier_is_consuming t)) (λ v. yields_is_total_onward)))

  arrow_end_decides : (s : ℕ) (o : Option ℕ) →
      Decides (λ i. From t s i × (after_eol t i ≡ o)) (arrow_line_end o) (λ u. From t s)
  arrow_end_decides s None = fails_decides
  arrow_end_decides s (Some k) = eol_decides t s k

  pub arrow_is_total_onward : {s : ℕ} → TotalOnward t s (peek (after_eol t) arrow_line_end)
  arrow_is_total_onward {s = s} = peek_decides (arrow_end_decides s)

  -- ---- endings

  abbrev Always : {A : Type 0} → A → ℕ → Type 0
  Always a j = Unit {0}

  ending_of_decides : {pre : ℕ → Type 0} (i : ℕ) (o : Option ℕ) → Decides pre (ending_of t i o) Always
  ending_of_decides i None = yields_decides (λ j p. tt)
  ending_of_decides i (Some k) =
      bind_decides {mid = Always} (skip_decides (λ j p. (k, record { there = refl })) (λ j m p w. tt))
      (λ u. yields_decides (λ j p. tt))

  pub ending_is_total_onward : {s : ℕ} → TotalOnward t s (ending t)
  ending_is_total_onward {s = s} = record {
    has = (bind_decides {pre = From t s} {mid = Always} (here_decides (λ i p. tt))
        (λ i. any_peek_decides (ending_of_decides i))).has;
    on =
        holds_weaker (λ i p. record { late = p.late; place = p.in_text })
        (λ a j e. record { late = e.late; in_text = e.place }) (λ k from to f. tt)
        (ending_reads_soundly t (InText t) (places_in_text_are_boundaries t) s);
  }

  true_eol_test_gives_eol_end : (a b c : Bool) (i : ℕ) → (a || b && c) ≡ true →
      (if a then Some (i + 1) else if b && c then Some (i + 2) else None) ≡ None → ⊥
  true_eol_test_gives_eol_end true b c i e f = cc
  true_eol_test_gives_eol_end false true true i e f = cc
  true_eol_test_gives_eol_end false true false i e f = cc
  true_eol_test_gives_eol_end false false c i e f = cc

  -- where there is a line end, the ending passes over it
  ending_by_eol_goes_past_it : (s i j : ℕ) (x : Ending) (o : Option ℕ) → From t s i → has_eol t i ≡ true →
      after_eol t i ≡ o → ending_of t i o i (Read x j) → From t (s + 1) j
  ending_by_eol_goes_past_it s i j x None p e f y =
      absurd (true_eol_test_gives_eol_end (has_byte t lf i) (has_byte t cr i) (has_byte t lf (i + 1)) i e f)
  ending_by_eol_goes_past_it s i j x (Some k) p e f (goes_on {j = m} (passed w) y) =
      let late = p.late in
      let there = w.there in
      let on = eol_goes_on t i k f in
      let l = line_end_is_in_text t i k f in
      let g = yields_reads_its_value_in_place _ x m j y in
      let same = g.1 in
      record { late = omega arith; in_text = omega arith }

  ending_at_eol_goes_on : (s i j : ℕ) (x : Ending) → From t s i → has_eol t i ≡ true → ending t i (Read x j) →
      From t (s + 1) j
  ending_at_eol_goes_on s i j x p e (goes_on at_place (chosen y)) =
      ending_by_eol_goes_past_it s i j x (after_eol t i) p e refl y

  -- ---- runs

  no_eol_means_no_lf : (a b c : Bool) → (a || b && c) ≡ false → a ≡ false
  no_eol_means_no_lf true b c e = e
  no_eol_means_no_lf false b c e = refl

  run_test_holds_of_plain_byte : (x y z e : Bool) → x ≡ false → y ≡ false → z ≡ false → e ≡ false →
      (not ((x || y) || z) && not e) ≡ true
  run_test_holds_of_plain_byte x y z e a b c d = rw (a, b, c, d)

  byte_there_is_not_other_byte : (i b c : ℕ) → slice_get t i ≡ Some b → has_byte t c i ≡ false → (b == c) ≡ false
  byte_there_is_not_other_byte i b c e f = rw e at f

  plain_byte_is_run_byte : (i b : ℕ) (o : Option ℕ) (e : Bool) → o ≡ Some b → e ≡ false → (b == lf) ≡ false →
      (b == 123) ≡ false → (b == 125) ≡ false → (holds (λ b. not (b == lf || b == 123 || b == 125)) o && not e) ≡ true
  plain_byte_is_run_byte i b o e h f x y z =
      rw h (run_test_holds_of_plain_byte (b == lf) (b == 123) (b == 125) e x y z f)

  place_of_plain_byte_is_run_place : (i b : ℕ) → slice_get t i ≡ Some b → has_eol t i ≡ false → (b == 123) ≡ false →
      (b == 125) ≡ false → is_run_place t i ≡ true
  place_of_plain_byte_is_run_place i b h e y z =
      plain_byte_is_run_byte i b (slice_get t i) (has_eol t i) h e
      (byte_there_is_not_other_byte i b lf h
      (no_eol_means_no_lf (has_byte t lf i) (has_byte t cr i) (has_byte t lf (i + 1)) e)) y z

-- from a place on, over a family that has outcomes from there on
module _ (t : List ℕ) (R : Family) (low : ℕ) (h : (s : ℕ) → low ≤ s → TotalOnwardFamily t s R) where
  call_is_total_onward : (s : ℕ) → low ≤ s → TotalOnward t s (call_arguments t R)
  call_is_total_onward s l =
      bind_decides (blank_is_total_onward t)
      (λ u. bind_decides (optional_is_total_onward t 40)
      (λ bracket. any_branch_decides (bind_decides (bind_decides (blank_is_total_onward t)
      (λ u. (h s l).argument_list))
      (λ a. yields_is_total_onward))
      yields_is_total_onward))

  pub placeable_is_consuming : (s : ℕ) → low ≤ s + 1 → TotalConsuming t s (placeable t R)
  placeable_is_consuming s l =
      bind_decides (token_is_consuming t 123)
      (λ u. bind_decides (blank_is_total_onward t)
      (λ u. bind_decides (h (s + 1) l).expression
      (λ e. bind_decides (inline_blank_is_total_onward t)
      (λ u. bind_decides (strict_is_total_onward (token_is_consuming t 125)) (λ u. yields_is_total_onward)))))

  inline_of_is_consuming : (s : ℕ) → low ≤ s + 1 → (x : Start) → TotalConsuming t s (inline_of t R x)
  inline_of_is_consuming s l quote = bind_decides (string_is_consuming t) (λ v. yields_is_total_onward)
  inline_of_is_consuming s l digit = bind_decides (number_is_consuming t) (λ v. yields_is_total_onward)
  inline_of_is_consuming s l minus = bind_decides (number_is_consuming t) (λ v. yields_is_total_onward)
  inline_of_is_consuming s l term =
      bind_decides (token_is_consuming t 45)
      (λ u. bind_decides (strict_is_total_onward (identifier_is_consuming t))
      (λ id. bind_decides (accessor_is_total_onward t) (λ a. bind_decides (call_is_total_onward (s + 1) l)
      (λ c. yields_is_total_onward))))
  inline_of_is_consuming s l dollar =
      bind_decides (token_is_consuming t 36) (λ u. bind_decides
      (strict_is_total_onward (identifier_is_consuming t))
      (λ id. yields_is_total_onward))
  inline_of_is_consuming s l letter =
      bind_decides (identifier_is_consuming t) (λ id. bind_decides (call_is_total_onward (s + 1) l)
      (λ a. named_is_total_onward t id a))
  inline_of_is_consuming s l brace = bind_decides (placeable_is_consuming s l) (λ e. yields_is_total_onward)
  inline_of_is_consuming s l other = fails_decides

  pub inline_is_consuming : (s : ℕ) → low ≤ s + 1 → TotalConsuming t s (inline_expression t R)
  inline_is_consuming s l = any_peek_decides (inline_of_is_consuming s l)

  -- ---- arguments

  value_is_total_onward : (s : ℕ) → low ≤ s + 1 → (x : Start) → TotalOnward t s (argument_value t R x)
  value_is_total_onward s l quote = strict_is_total_onward (inline_is_consuming s l)
  value_is_total_onward s l digit = strict_is_total_onward (inline_is_consuming s l)
  value_is_total_onward s l letter = strict_is_total_onward (inline_is_consuming s l)
  value_is_total_onward s l minus = fails_decides
  value_is_total_onward s l term = fails_decides
  value_is_total_onward s l dollar = fails_decides
  value_is_total_onward s l brace = fails_decides
  value_is_total_onward s l other = fails_decides

  named_rest_is_total_onward : (s : ℕ) → low ≤ s + 1 → (names : List (List ℕ)) (name : Span) →
      TotalOnward t s (named_rest t R names name)
  named_rest_is_total_onward s l names name =
      any_branch_decides fails_decides
      (bind_decides (strict_is_total_onward (token_is_consuming t 58))
      (λ u. bind_decides (blank_is_total_onward t)
      (λ u. bind_decides (any_peek_decides (value_is_total_onward s l)) (λ e.
      bind_decides (separator_is_total_onward t) (λ u. yields_is_total_onward)))))

  positional_rest_is_total_onward : (s : ℕ) (names : List (List ℕ)) (e : InlineTree Span) →
      TotalOnward t s (positional_rest t names e)
  positional_rest_is_total_onward s [] e = bind_decides (separator_is_total_onward t) (λ u. yields_is_total_onward)
  positional_rest_is_total_onward s (m ∷ ms) e = fails_decides

  argument_rest_is_total_onward : (s : ℕ) → low ≤ s + 1 →
      (names : List (List ℕ)) (e : InlineTree Span) (o : Option Span)
      (colon : Bool) → TotalOnward t s (argument_rest t R names e o colon)
  argument_rest_is_total_onward s l names e None colon = positional_rest_is_total_onward s names e
  argument_rest_is_total_onward s l names e (Some m) true = named_rest_is_total_onward s l names m
  argument_rest_is_total_onward s l names e (Some m) false = positional_rest_is_total_onward s names e

  argument_at_is_consuming : (s : ℕ) → low ≤ s + 1 → (names : List (List ℕ)) (b : Option ℕ) →
      TotalConsuming t s (next_argument_at t R names b)
  argument_at_is_consuming s l names None = fails_decides
  argument_at_is_consuming s l names (Some b) =
      any_branch_decides (bind_decides (token_is_consuming t 41) (λ u. yields_is_total_onward))
      (bind_decides (inline_is_consuming s l)
      (λ e. bind_decides look_is_total_onward
      (λ colon. argument_rest_is_total_onward (s + 1) (omega arith) names e (argument_name e) colon)))

  pub arguments_are_total_onward : (s : ℕ) → low ≤ s + 1 → (names : List (List ℕ)) → TotalOnward t s
      (more_arguments t R names)
  arguments_are_total_onward s l names =
      many_is_total_onward t (next_argument t R) _ _ s
      (λ m k names. item_strict_is_consuming (any_peek_decides (argument_at_is_consuming m (omega arith) names))) s
      (omega arith) names

  -- ---- pieces

  module _ (s : ℕ) (l : low ≤ s + 1) where
    abbrev AtRun : ℕ → Type 0
    AtRun i = From t s i × (is_run_place t i ≡ true)

    run_of_bytes_goes_on : (i j : ℕ) → AtRun i → LongestRun (is_run_place t) i j → From t (s + 1) j
    run_of_bytes_goes_on i j p w =
        let q = p.0 in let late = q.late in let on = longest_run_nonempty (is_run_place t) i j p.1 w in
        record { late = omega arith; in_text = (text_run_is_total t).in_text i j q.in_text w }

    run_after_its_start_is_total_onward : (from : ℕ) →
        TotalOnward {A = Piece} t (s + 1) (here >>= λ to. yields (run from to))
    run_after_its_start_is_total_onward from = bind_decides here_is_total_onward (λ to. yields_is_total_onward)

    text_run_decides : Decides AtRun (text_run t) (λ p. From t (s + 1))
    text_run_decides =
        bind_decides {mid = λ from. AtRun} (here_decides (λ i p. p))
        (λ from. bind_decides (skip_decides (λ i p. (text_run_is_total t).exists i (p.0).in_text) run_of_bytes_goes_on)
        (λ u. run_after_its_start_is_total_onward from))

    placed_piece_is_total_consuming : TotalConsuming {A = More Piece (Unit {0})} t s
        (placeable t R >>= λ e. yields (item (placed e) tt))
    placed_piece_is_total_consuming = bind_decides (placeable_is_consuming s l) (λ e. yields_is_total_onward)

    -- there is a byte that begins no line end
    abbrev AtByte : ℕ → ℕ → Type 0
    AtByte b i = From t s i × (slice_get t i ≡ Some b) × (has_eol t i ≡ false)

    abbrev Rest : ℕ → Construct (More Piece (Unit {0}))
    Rest b =
        branch_on (b == 125) (fails UnbalancedClosingBrace)
        (branch_on (b == 123) (placeable t R >>= λ e. yields (item (placed e) tt))
        (text_run t >>= λ p. yields (item p tt)))

    piece_of_byte_decides : (b : ℕ) → Decides (AtByte b) (Rest b) (λ p. From t (s + 1))
    piece_of_byte_decides b = branch_on_decides (λ x. fails_decides) (λ x. branch_on_decides
        (λ y. weakened_construct_decides (λ i p. p.0) (λ a j z. z) placed_piece_is_total_consuming)
        (λ y. weakened_construct_decides (λ i p. (p.0, place_of_plain_byte_is_run_place t i b p.1 p.2 y x)) (λ a j z. z)
        (bind_decides text_run_decides (λ p. yields_decides (λ i q. q)))))

    piece_decides : (o : Option ℕ) →
        Decides (λ i. From t s i × (slice_get t i ≡ o)) (next_piece_at t R o) (more_on t s)
    piece_decides None = yields_decides (λ i p. p.0)
    piece_decides (Some b) =
        peek_decides
        (λ eol. branch_on_decides (λ e. yields_decides (λ i p. p.0.0))
        (λ e. weakened_construct_decides (λ i p. (p.0.0, p.0.1, p.1 ∙ e)) (more_earlier t s) (piece_of_byte_decides b)))

    item_piece_is_consuming : TotalConsumingItem t s (next_piece t R)
    item_piece_is_consuming = peek_decides piece_decides

    -- from a byte that begins no line end, a piece goes on
    piece_of_byte_goes_on : (b : ℕ) → HoareTriple (AtByte b) (next_piece_at t R (Some b)) (λ p. From t (s + 1)) AnyFault
    piece_of_byte_goes_on b =
        holds_peek
        (λ eol. holds_branch_on (λ e. yields_meets_triple (λ i p. absurd_test (p.1 ∙ e) p.0.2))
        (λ e. holds_weaker (λ i p. p.0) (λ a j z. z) (λ k from to z. z) (piece_of_byte_decides b).on))

    -- before a line end there is none
    piece_at_eol_reads_nothing : (i j : ℕ) (p : More Piece (Unit {0})) (b : ℕ) → has_eol t i ≡ true →
        next_piece_at t R (Some b) i (Read p j) → i ≡ j
    piece_at_eol_reads_nothing i j p b e (chosen (first f x)) = (yields_reads_its_value_in_place no_item p i j x).1
    piece_at_eol_reads_nothing i j p b e (chosen (second f x)) = absurd_test e f

    -- after a piece of a line with a byte: it went on, or there is a line end
    abbrev pub AfterPiece : ℕ → Type 0
    AfterPiece j = From t (s + 1) j ⊎ (From t s j × (has_eol t j ≡ true))

    read_piece_by_eol_ends_after_piece : (i j b : ℕ) (p : More Piece (Unit {0})) (eol : Bool) → From t s i →
        slice_get t i ≡ Some b → has_eol t i ≡ eol → next_piece_at t R (Some b) i (Read p j) → AfterPiece j
    read_piece_by_eol_ends_after_piece i j b p true q e f x = let same = piece_at_eol_reads_nothing i j p b f x in
        inr (subst (λ j. From t s j × (has_eol t j ≡ true)) same (q, f))
    read_piece_by_eol_ends_after_piece i j b p false q e f x = inl ((piece_of_byte_goes_on b).on_read i j p (q, e, f) x)

    read_next_piece_ends_after_piece : (i j b : ℕ) (p : More Piece (Unit {0})) → From t s i → slice_get t i ≡ Some b →
        next_piece t R i (Read p j) → AfterPiece j
    read_next_piece_ends_after_piece i j b p q e (chosen x) =
        read_piece_by_eol_ends_after_piece i j b p (has_eol t i) q e refl
        (subst (λ o. next_piece_at t R o i (Read p j)) e x)

  pub pieces_are_total_onward : (s : ℕ) → low ≤ s + 1 → TotalOnward t s (more_pieces t R)
  pieces_are_total_onward s l =
      many_is_total_onward t (λ u. next_piece t R) _ _ s (λ m k u. item_piece_is_consuming m (omega arith)) s
      (omega arith) tt

  pieces_read_further_on_end_after_piece : (s : ℕ) (l : low ≤ s + 1) (m j b : ℕ) (ps : List Piece) → From t (s + 1) m →
      more_pieces t R m (Read ps j) → AfterPiece s l j
  pieces_read_further_on_end_after_piece s l m j b ps p x =
      inl ((pieces_are_total_onward (s + 1) (omega arith)).on.on_read m j ps p x)

  -- after the pieces of a line with a byte: they went on, or there is a line end
  read_list_of_pieces_ends_after_piece : (u : Unit {0}) (s : ℕ) (l : low ≤ s + 1) (i j b : ℕ) (ps : List Piece) →
      From t s i →
      slice_get t i ≡ Some b → many (λ u. next_piece t R) (λ p ps. p ∷ ps) [] u i (Read ps j) → AfterPiece s l j
  read_list_of_pieces_ends_after_piece u s l i j b ps p e (list_ends x) =
      read_next_piece_ends_after_piece s l i j b _ p e x
  read_list_of_pieces_ends_after_piece u s l i j b ps p e (item_and_more {later = v} {j = m} {rest = rest} x y) =
      pieces_read_further_on_end_after_piece s l m j b rest ((item_piece_is_consuming s l).on.on_read i m _ p x) y

  pub read_pieces_end_after_piece : (s : ℕ) (l : low ≤ s + 1) (i j b : ℕ) (ps : List Piece) → From t s i →
      slice_get t i ≡ Some b → more_pieces t R i (Read ps j) → AfterPiece s l j
  read_pieces_end_after_piece s l i j b ps p e x = read_list_of_pieces_ends_after_piece tt s l i j b ps p e x

  pub ending_after_pieces_goes_on : (s : ℕ) (l : low ≤ s + 1) (i j : ℕ) (x : Ending) → AfterPiece s l i →
      ending t i (Read x j) → From t (s + 1) j
  ending_after_pieces_goes_on s l i j x (inl p) y = (ending_is_total_onward t {s = s + 1}).on.on_read i j x p y
  ending_after_pieces_goes_on s l i j x (inr p) y = ending_at_eol_goes_on t s i j x p.0 p.1 y
