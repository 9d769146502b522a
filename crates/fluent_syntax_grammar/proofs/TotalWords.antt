-- Words, marks, names, numbers and strings have an outcome at each place of the text.
use Rattle.std.proofs.Common.{◌≡◌, ℕ, zero, suc, ◌+◌, ◌<◌, ◌≤◌, List, length, Option, Some, None, Bool, true, false}
use Rattle.std.proofs.Common.{refl, sym, ◌∙◌, subst, arith, inl, inr}
use Rattle.std.specs.Prelude.{slice_get, ◌==◌}
use Rattle.std.proofs.lemmas.Bool.{false≢true}
use Rattle.std.proofs.lemmas.Option.{slice_get_within}
use Rattle.fluent_syntax_grammar.specs.Bytes.{is_space, is_digit, is_name_byte}
use Rattle.fluent_syntax_grammar.specs.Places.{LongestRun, ByteRun, Steps, has, has_byte, after_eol, is_blank_place}
use Rattle.fluent_syntax_grammar.specs.Places.{JumpsTo, is_line_place, InlineBlank, BlankBlock, no_line, line}
use Rattle.fluent_syntax_grammar.specs.Construct.{Outcome, Read, Refused, Construct, ◌>>=◌, skip}
use Rattle.fluent_syntax_grammar.specs.Tokens.{spanned, optional, token, inline_blank, blank, blank_block, past_eol}
use Rattle.fluent_syntax_grammar.specs.Tokens.{optional_eol, rest_of_line, digits, identifier, number}
use Rattle.fluent_syntax_grammar.specs.Strings.{hex_digits, all_there, escaped, string_unit, string_units, before_quote}
use Rattle.fluent_syntax_grammar.specs.Strings.{unit_and_more, bad_unit, string_literal}
use Rattle.fluent_syntax_grammar.specs.Lines.{is_run_place}
use Rattle.fluent_syntax_grammar.proofs.HoareTriple.{HoareTriple, holds_weaker}
use Rattle.fluent_syntax_grammar.proofs.Cuts.{blank_is_ascii, line_place_is_inside_text, run_place_is_inside_text}
use Rattle.fluent_syntax_grammar.proofs.Cuts.{eol_goes_on, line_end_is_in_text}
use Rattle.fluent_syntax_grammar.proofs.Cuts.{block_goes_on, end_of_block_is_place}
use Rattle.fluent_syntax_grammar.proofs.Sound.{Sound}
use Rattle.fluent_syntax_grammar.proofs.SoundStrings.{InText, string_unit_is_sound, units_are_sound}
use Rattle.fluent_syntax_grammar.proofs.SoundEntries.{identifier_advances}
use Rattle.fluent_syntax_grammar.proofs.Boundaries.{places_in_text_are_boundaries}
use Rattle.fluent_syntax_grammar.proofs.Stretches.{run_ends_here, run_goes_on, hex_digits_have_outcome}
use Rattle.fluent_syntax_grammar.proofs.Total.{From, AnyFault, Decides, TotalOnward, TotalConsuming, IsTotalRelation}
use Rattle.fluent_syntax_grammar.proofs.Total.{bind_decides, weakened_construct_decides, yields_decides, fails_decides}
use Rattle.fluent_syntax_grammar.proofs.Total.{skip_decides, peek_decides, any_peek_decides, branch_on_decides}
use Rattle.fluent_syntax_grammar.proofs.Total.{any_branch_decides, yields_is_total_onward, here_is_total_onward}
use Rattle.fluent_syntax_grammar.proofs.Total.{skip_is_total_onward}
use Rattle.fluent_syntax_grammar.proofs.Total.{strict_is_total_onward}
use Rattle.fluent_syntax_grammar.proofs.Facts.{at_most_is_less_or_same, longest_run_ends_in_bounds}
use Rattle.fluent_syntax_grammar.proofs.Facts.{byte_that_passes_is_in_text}

false_is_not_true : {X : Type 0} → false ≡ true → X
false_is_not_true e = cc

-- what is sound does not go back
pub sound_construct_goes_onward : {A : Type 0} {t : List ℕ} {s : ℕ} {c : Construct A} {Good : A → Type 0} →
    Sound t (InText t) s c Good →
    HoareTriple (From t s) c (λ a j. From t s j) AnyFault
sound_construct_goes_onward x =
    holds_weaker (λ i p. record { late = p.late; place = p.in_text })
    (λ a j e. record { late = e.late; in_text = e.place }) (λ k from to f. tt) x.holds

hex_digits_go_forward : {t : List ℕ} (i w j m : ℕ) (u : Unit {0}) → i + 2 ≤ j → hex_digits t w j (Read u m) → i + 1 ≤ m
hex_digits_go_forward i w j m u p (all_there h e) = let f = h.forward in omega arith

module _ (t : List ℕ) where
  longest_run_exists_by_test : (test : ℕ → Bool) → ((k : ℕ) → test k ≡ true → k < length t) → (m i : ℕ) →
      length t ≤ i + m →
      (b : Bool) → test i ≡ b → (test i ≡ true → (j : ℕ) × LongestRun test (i + 1) j) → (j : ℕ) × LongestRun test i j
  longest_run_exists_by_test test inside m i l false e more = (i, run_ends_here test i e)
  longest_run_exists_by_test test inside m i l true e more = let x = more e in (x.0, run_goes_on test i x.0 e x.1)

  longest_run_exists : (test : ℕ → Bool) → ((k : ℕ) → test k ≡ true → k < length t) → (m i : ℕ) → length t ≤ i + m →
      (j : ℕ) × LongestRun test i j
  longest_run_exists test inside zero i l =
      longest_run_exists_by_test test inside zero i l (test i) refl (λ e. let x = inside i e in absurd (omega arith))
  longest_run_exists test inside (suc m) i l =
      longest_run_exists_by_test test inside (suc m) i l (test i) refl
      (λ e. longest_run_exists test inside m (i + 1) (omega arith))

  pub longest_run_is_total : (test : ℕ → Bool) → ((k : ℕ) → test k ≡ true → k < length t) →
      IsTotalRelation t (LongestRun test)
  longest_run_is_total test inside = record {
    exists = λ i l. longest_run_exists test inside (length t) i (omega arith);
    forward = λ i j s. s.forward;
    in_text = λ i j l s. longest_run_ends_in_bounds (length t) test inside i j l s;
  }

  blank_place_is_inside_text : (k : ℕ) → is_blank_place t k ≡ true → k < length t
  blank_place_is_inside_text k e = let a = blank_is_ascii t k e in slice_get_within t k a.byte a.in_place

  pub byte_run_is_total : (set : ℕ → Bool) → IsTotalRelation t (ByteRun t set)
  byte_run_is_total set = longest_run_is_total (has t set) (byte_that_passes_is_in_text set t)

  pub text_run_is_total : IsTotalRelation t (LongestRun (is_run_place t))
  text_run_is_total = longest_run_is_total (is_run_place t) (run_place_is_inside_text t)

  -- ---- blank blocks

  block_exists_by_eol : (m i k : ℕ) → length t ≤ i + m → i ≤ length t → InlineBlank t i k → (o : Option ℕ) →
      after_eol t k ≡ o → ((q : ℕ) → i < q → q ≤ length t → (j : ℕ) × BlankBlock t q j) → (j : ℕ) × BlankBlock t i j
  block_exists_by_eol m i k l a w None e more = (i, no_line w e)
  block_exists_by_eol m i k l a w (Some q) e more =
      let forward = w.forward in
      let on = eol_goes_on t k q e in
      let x = more q (omega arith) (line_end_is_in_text t k q e) in
      (x.0, line w e x.1)

  block_exists : (m i : ℕ) → length t ≤ i + m → i ≤ length t → (j : ℕ) × BlankBlock t i j
  block_exists zero i l a = let w = (byte_run_is_total is_space).exists i a in
      block_exists_by_eol zero i w.0 l a w.1 (after_eol t w.0) refl (λ q b c. absurd (omega arith))
  block_exists (suc m) i l a = let w = (byte_run_is_total is_space).exists i a in
      block_exists_by_eol (suc m) i w.0 l a w.1 (after_eol t w.0) refl (λ q b c. block_exists m q (omega arith) c)

  pub blank_block_is_total : IsTotalRelation t (BlankBlock t)
  blank_block_is_total = record {
    exists = λ i l. block_exists (length t) i (omega arith) l;
    forward = λ i j b. block_goes_on t i j b;
    in_text = λ i j l b. end_of_block_is_place t (InText t) (places_in_text_are_boundaries t) i j l b;
  }

  -- ---- marks

  pub inline_blank_is_total_onward : {s : ℕ} → TotalOnward t s (inline_blank t)
  inline_blank_is_total_onward = skip_is_total_onward (byte_run_is_total is_space)

  pub blank_is_total_onward : {s : ℕ} → TotalOnward t s (blank t)
  blank_is_total_onward = skip_is_total_onward (longest_run_is_total (is_blank_place t) blank_place_is_inside_text)

  pub blank_block_is_total_onward : {s : ℕ} → TotalOnward t s (blank_block t)
  blank_block_is_total_onward = skip_is_total_onward blank_block_is_total

  -- after an optional byte that was there, the place is after it
  pub record AfterByte (s : ℕ) (found : Bool) (j : ℕ) : Type 0 where
    pub at : From t s j
    pub past : found ≡ true → From t (s + 1) j

  pub optional_decides : (s b : ℕ) → Decides (From t s) (optional t b) (AfterByte s)
  optional_decides s b = peek_decides (λ found. branch_on_decides
      (λ e. bind_decides {mid = λ u. From t (s + 1)}
      (skip_decides (λ i p. (i + 1, record { by = refl }))
      (λ i j p w. let q = p.0 in let late = q.late in let by = w.by in
      let l = byte_that_passes_is_in_text (λ c. c == b) t i (p.1 ∙ e) in
      record { late = omega arith; in_text = omega arith }))
      (λ u. yields_decides
      (λ i p. let late = p.late in
      record { at = record { late = omega arith; in_text = p.in_text }; past = λ yes. p })))
      (λ e. yields_decides (λ i p. record { at = p.0; past = λ yes. false_is_not_true yes })))

  pub optional_is_total_onward : {s : ℕ} (b : ℕ) → TotalOnward t s (optional t b)
  optional_is_total_onward {s = s} b = weakened_construct_decides (λ i p. p) (λ a j x. x.at) (optional_decides s b)

  pub token_is_consuming : {s : ℕ} (b : ℕ) → TotalConsuming t s (token t b)
  token_is_consuming {s = s} b =
      bind_decides (optional_decides s b)
      (λ found. branch_on_decides (λ e. yields_decides (λ i p. p.past e)) (λ e. fails_decides))

  -- to the place after a line end
  pub eol_decides : (s k : ℕ) → Decides (λ i. From t s i × (after_eol t i ≡ Some k)) (skip (JumpsTo k)) (λ u. From t s)
  eol_decides s k =
      skip_decides (λ i p. (k, record { there = refl }))
      (λ i j p w. let q = p.0 in let late = q.late in let there = w.there in let f = eol_goes_on t i k p.1 in
      let l = line_end_is_in_text t i k p.1 in record { late = omega arith; in_text = omega arith })

  past_eol_decides : (s : ℕ) (o : Option ℕ) →
      Decides (λ i. From t s i × (after_eol t i ≡ o)) (past_eol o) (λ u. From t s)
  past_eol_decides s None = yields_decides (λ i p. p.0)
  past_eol_decides s (Some k) = eol_decides s k

  pub optional_eol_is_total_onward : {s : ℕ} → TotalOnward t s (optional_eol t)
  optional_eol_is_total_onward {s = s} = peek_decides (past_eol_decides s)

  pub spanned_is_total_onward : {s start : ℕ} → TotalOnward t s (spanned start)
  spanned_is_total_onward = bind_decides here_is_total_onward (λ end. yields_is_total_onward)

  pub rest_of_line_is_total_onward : {s : ℕ} → TotalOnward t s (rest_of_line t)
  rest_of_line_is_total_onward =
      bind_decides here_is_total_onward
      (λ start. bind_decides
      (skip_is_total_onward (longest_run_is_total (is_line_place t) (line_place_is_inside_text t)))
      (λ u. spanned_is_total_onward))

  byte_run_in_set_goes_on : (set : ℕ → Bool) (i j : ℕ) → has t set i ≡ true → ByteRun t set i j → i < j
  byte_run_in_set_goes_on set i j e w =
      elim (at_most_is_less_or_same i j w.forward)
      [ inl l ↦ l | inr same ↦ absurd (false≢true (sym w.longest ∙ subst (λ k. has t set k ≡ true) same e)) ]

  digits_are_consuming : {s : ℕ} → TotalConsuming t s (digits t)
  digits_are_consuming {s = s} = peek_decides (λ found. branch_on_decides
      (λ e. skip_decides (λ i p. (byte_run_is_total is_digit).exists i (p.0).in_text)
      (λ i j p w. let q = p.0 in let late = q.late in let l = byte_run_in_set_goes_on is_digit i j (p.1 ∙ e) w in
      let m = (byte_run_is_total is_digit).in_text i j q.in_text w in record { late = omega arith; in_text = m }))
      (λ e. fails_decides))

  identifier_is_total_onward : {s : ℕ} → TotalOnward t s (identifier t)
  identifier_is_total_onward =
      bind_decides here_is_total_onward
      (λ start. bind_decides (any_peek_decides (λ letter. yields_is_total_onward))
      (λ letter. any_branch_decides
      (bind_decides (skip_is_total_onward (byte_run_is_total is_name_byte)) (λ u. spanned_is_total_onward))
      fails_decides))

  pub identifier_is_consuming : {s : ℕ} → TotalConsuming t s (identifier t)
  identifier_is_consuming {s = s} = record {
    has = identifier_is_total_onward.has;
    on = record {
      on_read =
          λ i j a p x.
          (let q = identifier_advances t (InText t) (places_in_text_are_boundaries t) i j a p.in_text x in
          let late = p.late in
          let on = q.late in record { late = omega arith; in_text = q.place });
      on_refused = λ i from to k p x. tt;
    };
  }

  pub number_is_consuming : {s : ℕ} → TotalConsuming t s (number t)
  number_is_consuming =
      bind_decides here_is_total_onward
      (λ start. bind_decides (optional_is_total_onward 45)
      (λ x. bind_decides digits_are_consuming (λ u. bind_decides (optional_is_total_onward 46) (λ point.
      bind_decides (any_branch_decides (strict_is_total_onward digits_are_consuming) yields_is_total_onward)
      (λ u. spanned_is_total_onward)))))

  -- ---- strings

  abbrev At : ℕ → ℕ → Type 0
  At i j = j ≡ i

  abbrev After : ℕ → Unit {0} → ℕ → Type 0
  After i u j = i + 1 ≤ j

  hex_decides : (i w : ℕ) → Decides (λ j. i + 2 ≤ j) (hex_digits t w) (After i)
  hex_decides i w = record {
    has = λ j p. hex_digits_have_outcome t w j;
    on = record { on_read = λ j m u p x. hex_digits_go_forward i w j m u p x; on_refused = λ j from to k p x. tt };
  }

  escape_decides : (i w : ℕ) → Decides (At i) (skip (Steps 2) >>= λ u. hex_digits t w) (After i)
  escape_decides i w =
      bind_decides {mid = λ u j. i + 2 ≤ j}
      (skip_decides (λ j p. (j + 2, record { by = refl })) (λ j m p w. let by = w.by in omega arith))
      (λ u. hex_decides i w)

  escaped_decides : (i : ℕ) (o : Option ℕ) → Decides (At i) (escaped t o) (After i)
  escaped_decides i None = fails_decides
  escaped_decides i (Some b) = any_branch_decides
      (skip_decides (λ j p. (j + 2, record { by = refl })) (λ j m p w. let by = w.by in omega arith))
      (any_branch_decides (escape_decides i 4) (any_branch_decides (escape_decides i 6) fails_decides))

  unit_decides : (i : ℕ) (o : Option ℕ) → Decides (At i) (string_unit t o) (After i)
  unit_decides i None = fails_decides
  unit_decides i (Some b) = any_branch_decides fails_decides
      (any_branch_decides (any_peek_decides (escaped_decides i))
      (skip_decides (λ j p. (j + 1, record { by = refl })) (λ j m p w. let by = w.by in omega arith)))

  string_unit_ends_in_text : (i j : ℕ) → i ≤ length t → has_byte t 34 i ≡ false →
      string_unit t (slice_get t i) i (Read tt j) → j ≤ length t
  string_unit_ends_in_text i j l e x =
      ((string_unit_is_sound t i (slice_get t i)).on_read i j tt (record { late = omega arith; place = l }, refl, e)
      x).place

  string_units_have_outcome_after_unit : (i : ℕ) → i ≤ length t → has_byte t 34 i ≡ false →
      ((j : ℕ) → i < j → j ≤ length t → (o : Outcome (Unit {0})) × string_units t j o) →
      (o : Outcome (Unit {0})) → string_unit t (slice_get t i) i o → (o : Outcome (Unit {0})) × string_units t i o
  string_units_have_outcome_after_unit i l e more (Read a j) x =
      let on = (unit_decides i (slice_get t i)).on.on_read i j tt refl x in
      let y = more j (omega arith) (string_unit_ends_in_text i j l e x) in (y.0, unit_and_more e x y.1)
  string_units_have_outcome_after_unit i l e more (Refused k from to) x = (Refused k from to, bad_unit e x)

  string_units_have_outcome_by_quote : (i : ℕ) → i ≤ length t → (b : Bool) → has_byte t 34 i ≡ b →
      ((j : ℕ) → i < j → j ≤ length t → (o : Outcome (Unit {0})) × string_units t j o) → (o : Outcome (Unit {0})) ×
      string_units t i o
  string_units_have_outcome_by_quote i l true e more = (Read tt i, before_quote e)
  string_units_have_outcome_by_quote i l false e more = let x = (unit_decides i (slice_get t i)).has i refl in
      string_units_have_outcome_after_unit i l e more x.0 x.1

  string_units_have_outcome : (m i : ℕ) → length t ≤ i + m → i ≤ length t →
      (o : Outcome (Unit {0})) × string_units t i o
  string_units_have_outcome zero i a l =
      string_units_have_outcome_by_quote i l (has_byte t 34 i) refl (λ j b c. absurd (omega arith))
  string_units_have_outcome (suc m) i a l = string_units_have_outcome_by_quote i l (has_byte t 34 i) refl
      (λ j b c. string_units_have_outcome m j (omega arith) c)

  units_are_total_onward : {s : ℕ} → TotalOnward t s (string_units t)
  units_are_total_onward {s = s} =
      record {
        has = λ i p. string_units_have_outcome (length t) i (omega arith) p.in_text;
        on = sound_construct_goes_onward (units_are_sound t (InText t) (places_in_text_are_boundaries t) {s = s});
      }

  pub string_is_consuming : {s : ℕ} → TotalConsuming t s (string_literal t)
  string_is_consuming =
      bind_decides (token_is_consuming 34)
      (λ u. bind_decides here_is_total_onward
      (λ start. bind_decides units_are_total_onward
      (λ u. bind_decides spanned_is_total_onward (λ value. bind_decides (strict_is_total_onward (token_is_consuming 34))
      (λ u. yields_is_total_onward)))))
