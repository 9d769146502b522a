-- The rest of a line with its line end, and comment lines, which are such lines.
use Rattle.std.proofs.Common.{◌≡◌, ℕ, zero, suc, ◌+◌, ◌-◌, ◌<◌, ◌≤◌, List, length, Option, Some, None, Bool, true}
use Rattle.std.proofs.Common.{false, refl, sym, ◌∙◌, subst, ap, arith, inl, inr}
use Rattle.std.specs.Prelude.{slice_get, ◌==◌, ◌||◌, ◌&&◌, ◌⊎◌, not, is_some, if◌then◌else◌}
use Rattle.std.proofs.lemmas.Bool.{false≢true}
use Rattle.std.proofs.lemmas.Bool.Decides.{nat_tests}
use Rattle.std.proofs.lemmas.Option.{slice_get_within, slice_get_cases}
use Rattle.fluent_syntax_grammar.specs.Bytes.{lf, cr}
use Rattle.fluent_syntax_grammar.specs.Places.{holds, LongestRun, has_byte, has_eol, after_eol, is_line_place}
use Rattle.fluent_syntax_grammar.specs.Places.{starts_line}
use Rattle.fluent_syntax_grammar.specs.Construct.{Read, goes_on, given, at_place, passed, chosen, first, second}
use Rattle.fluent_syntax_grammar.specs.Tokens.{token, optional_eol, past_eol}
use Rattle.fluent_syntax_grammar.specs.Tiling.{whole_line}
use Rattle.fluent_syntax_grammar.specs.Comments.{hashes, comment_text, comment_rest, comment_line}
use Rattle.fluent_syntax_tree.specs.declared.spans.Span.{Span}
use Rattle.fluent_syntax_grammar.proofs.Cuts.{eol_is_lf_or_crlf, eol_goes_on, line_end_is_in_text}
use Rattle.fluent_syntax_grammar.proofs.LineEnds.{IsLineStart, line_starts_after_eol, no_bytes_no_eol}
use Rattle.fluent_syntax_grammar.proofs.LineEnds.{no_eol_end_means_no_eol}
use Rattle.fluent_syntax_grammar.proofs.Facts.{byte_exists, tests_exclude, lt_or_le, holds-none, some_is_not_none}
use Rattle.fluent_syntax_grammar.proofs.Facts.{equal_somes_have_equal_items}
use Rattle.fluent_syntax_grammar.proofs.Tests.{false_or_left, or_is_false, and_is_false_by_left}

-- a line from i on, with its line end, reaches to j
pub record IsLine (t : List ℕ) (i j : ℕ) : Type 0 where
  pub end : ℕ
  pub stretch : LongestRun (is_line_place t) i end
  pub eol : (after_eol t end ≡ Some j) ⊎ ((after_eol t end ≡ None) × (j ≡ end))

stop_without_eol_has_no_byte : (o : Option ℕ) (e : Bool) → (is_some o && not e) ≡ false → e ≡ false → o ≡ None
stop_without_eol_has_no_byte None e h g = refl
stop_without_eol_has_no_byte (Some b) true h g = cc
stop_without_eol_has_no_byte (Some b) false h g = cc

line_place_has_byte_off_eol : (o : Option ℕ) (e : Bool) → (is_some o && not e) ≡ true →
    (e ≡ false) × ((b : ℕ) × (o ≡ Some b))
line_place_has_byte_off_eol None e h = cc
line_place_has_byte_off_eol (Some b) true h = cc
line_place_has_byte_off_eol (Some b) false h = (refl, (b, refl))

cr_is_not_lf : (b : ℕ) → (b == cr) ≡ true → (b == lf) ≡ false
cr_is_not_lf b e = grind (arith, nat_tests)

cr_byte_holds_no_lf : (o : Option ℕ) → holds (λ c. c == cr) o ≡ true → holds (λ c. c == lf) o ≡ false
cr_byte_holds_no_lf None e = refl
cr_byte_holds_no_lf (Some b) e = cr_is_not_lf b e

successor_is_not_zero : (m : ℕ) → (suc m == 0) ≡ false
successor_is_not_zero m = grind (arith, nat_tests)

module _ (t : List ℕ) where
  past_eol_reads_eol_or_nothing : (i j : ℕ) (o : Option ℕ) → after_eol t i ≡ o → past_eol o i (Read tt j) →
      (after_eol t i ≡ Some j) ⊎ ((after_eol t i ≡ None) × (j ≡ i))
  past_eol_reads_eol_or_nothing i j None e given = inr (e, refl)
  past_eol_reads_eol_or_nothing i j (Some k) e (passed w) = inl (e ∙ ap Some (sym w.there))

  pub whole_line_is_line : (i j : ℕ) → whole_line t i (Read tt j) → IsLine t i j
  whole_line_is_line i j (goes_on (goes_on at_place (goes_on (passed {j = k} w) (goes_on at_place given))) (chosen y)) =
      record { end = k; stretch = w; eol = past_eol_reads_eol_or_nothing k j (after_eol t k) refl y }

  eol_or_nothing_is_read_past : (i j : ℕ) (o : Option ℕ) → after_eol t i ≡ o → (after_eol t i ≡ Some j) ⊎
      ((after_eol t i ≡ None) × (j ≡ i)) → past_eol o i (Read tt j)
  eol_or_nothing_is_read_past i j None e (inl f) = cc
  eol_or_nothing_is_read_past i j None e (inr (f, g)) = subst (λ j. past_eol None i (Read tt j)) (sym g) given
  eol_or_nothing_is_read_past i j (Some k) e (inl f) =
      passed (record { there = equal_somes_have_equal_items (sym f ∙ e) })
  eol_or_nothing_is_read_past i j (Some k) e (inr (f, g)) = cc

  pub line_reads_as_whole_line : (i j : ℕ) → IsLine t i j → whole_line t i (Read tt j)
  line_reads_as_whole_line i j l =
      goes_on (goes_on at_place (goes_on (passed l.stretch) (goes_on at_place given)))
      (chosen (eol_or_nothing_is_read_past l.end j (after_eol t l.end) refl l.eol))

  place_of_line_is_inside_text : (k : ℕ) → is_line_place t k ≡ true → k < length t
  place_of_line_is_inside_text k e =
      let b = line_place_has_byte_off_eol (slice_get t k) (has_eol t k) e in slice_get_within t k b.1.0 b.1.1

  place_of_line_has_no_lf : (k : ℕ) → is_line_place t k ≡ true → has_byte t lf k ≡ false
  place_of_line_has_no_lf k e = let b = line_place_has_byte_off_eol (slice_get t k) (has_eol t k) e in
      false_or_left (has_byte t lf k) (has_byte t cr k && has_byte t lf (k + 1)) b.0

  line_run_ends_in_text : (i k : ℕ) → i ≤ length t → LongestRun (is_line_place t) i k → k ≤ length t
  line_run_ends_in_text i k l s =
      let forward = s.forward in
      elim (lt_or_le i k) [
        | inl x ↦ (let last = place_of_line_is_inside_text (k - 1) (s.each (k - 1) (omega arith) (omega arith)) in
            omega arith)
        | inr x ↦ omega arith
      ]

  place_without_byte_is_past_end : (k : ℕ) → slice_get t k ≡ None → length t ≤ k
  place_without_byte_is_past_end k e = elim (slice_get_cases t k).1 [ inl x ↦ some_is_not_none x.2 e | inr x ↦ x.0 ]

  line_without_eol_ends_text : (i k : ℕ) → i ≤ length t → LongestRun (is_line_place t) i k → after_eol t k ≡ None →
      k ≡ length t
  line_without_eol_ends_text i k l s e =
      let inside = line_run_ends_in_text i k l s in
      let past =
      place_without_byte_is_past_end k (stop_without_eol_has_no_byte (slice_get t k) (has_eol t k) s.longest
      (no_eol_end_means_no_eol t k e)) in
      omega arith

  -- a line leads to the start of a line, or to the text's end
  pub line_ends_at_line_start : (i j : ℕ) → i ≤ length t → IsLine t i j → IsLineStart t j
  line_ends_at_line_start i j l x =
      elim x.eol [
        | inl e ↦ inl (line_starts_after_eol t x.end j e)
        | inr e ↦
            inr (e.1 ∙ line_without_eol_ends_text i x.end l x.stretch e.0)
      ]

  pub line_ends_in_text : (i j : ℕ) → i ≤ length t → IsLine t i j → j ≤ length t
  line_ends_in_text i j l x =
      elim x.eol [
        | inl e ↦ line_end_is_in_text t x.end j e
        | inr e ↦ (let f = line_without_eol_ends_text i x.end l x.stretch e.0 in let g = e.1 in omega arith)
      ]

  optional_eol_ends_onward : (k j : ℕ) → (after_eol t k ≡ Some j) ⊎ ((after_eol t k ≡ None) × (j ≡ k)) → k ≤ j
  optional_eol_ends_onward k j (inl e) = let f = eol_goes_on t k j e in omega arith
  optional_eol_ends_onward k j (inr e) = let f = e.1 in omega arith

  -- what is passed over before the line end, the whole line passes over
  line_ends_after_its_stretch : (i j : ℕ) (x : IsLine t i j) → x.end ≤ j
  line_ends_after_its_stretch i j x = optional_eol_ends_onward x.end j x.eol

  -- each LF of a line ends it
  no_lf_is_inside_eol : (k j m : ℕ) → (after_eol t k ≡ Some j) ⊎ ((after_eol t k ≡ None) × (j ≡ k)) → k ≤ m →
      m + 1 < j → has_byte t lf m ≡ false
  no_lf_is_inside_eol k j m (inl e) a b = elim (eol_is_lf_or_crlf t k j e) [
    | inl x ↦ absurd (omega arith)
    | inr x ↦ (let same : k ≡ m = omega arith in
        subst (λ m. has_byte t lf m ≡ false) same (cr_byte_holds_no_lf (slice_get t k) x.0))
  ]
  no_lf_is_inside_eol k j m (inr e) a b = let f = e.1 in absurd (omega arith)

  -- no line starts within a line
  pub no_line_starts_inside_line : (i j k : ℕ) → IsLine t i j → i < k → k < j → starts_line t k ≡ false
  no_line_starts_inside_line i j zero x a b = absurd (omega arith)
  no_line_starts_inside_line i j (suc m) x a b =
      let none : has_byte t lf m ≡ false =
      elim (lt_or_le m x.end) [
        | inl l ↦ place_of_line_has_no_lf m (x.stretch.each m (omega arith) l)
        | inr l ↦ no_lf_is_inside_eol x.end j m x.eol l (omega arith)
      ] in
      let same : m ≡ suc m - 1 = omega arith in
      or_is_false (suc m == 0) (has_byte t lf (suc m - 1)) (successor_is_not_zero m)
      (subst (λ k. has_byte t lf k ≡ false) same none)

  -- ---- comment lines

  read_token_has_its_byte : (b i j : ℕ) → token t b i (Read tt j) → (has_byte t b i ≡ true) × (j ≡ i + 1)
  read_token_has_its_byte b i j (goes_on (chosen (first e (goes_on (passed w) given))) (first f given)) = (e, w.by)
  read_token_has_its_byte b i j (goes_on (chosen (first e (goes_on (passed w) given))) (second f x)) = elim x [ ]
  read_token_has_its_byte b i j (goes_on (chosen (second e given)) (first f given)) = cc
  read_token_has_its_byte b i j (goes_on (chosen (second e given)) (second f x)) = elim x [ ]

  longest_run_extends_backwards : (test : ℕ → Bool) (i m k : ℕ) → i ≤ m → ((n : ℕ) → i ≤ n → n < m → test n ≡ true) →
      LongestRun test m k → LongestRun test i k
  longest_run_extends_backwards test i m k l f s =
      let forward = s.forward in
      record {
        forward = omega arith;
        each = λ n a b. elim (lt_or_le n m) [ inl x ↦ f n a x | inr x ↦ s.each n x b ];
        longest = s.longest;
      }

  abbrev Eol : ℕ → ℕ → Type 0
  Eol k j = (after_eol t k ≡ Some j) ⊎ ((after_eol t k ≡ None) × (j ≡ k))

  read_eol_is_eol : (k j : ℕ) → optional_eol t k (Read tt j) → Eol k j
  read_eol_is_eol k j (chosen y) = past_eol_reads_eol_or_nothing k j (after_eol t k) refl y

  run_is_empty_off_line_place : (i : ℕ) → is_line_place t i ≡ false → LongestRun (is_line_place t) i i
  run_is_empty_off_line_place i e = record { forward = omega arith; each = λ k a b. absurd (omega arith); longest = e }

  place_without_byte_is_no_line_place : (o : Option ℕ) (e : Bool) → o ≡ None → (is_some o && not e) ≡ false
  place_without_byte_is_no_line_place o e f = rw f

  eol_is_no_line_place : (o : Option ℕ) (e : Bool) → e ≡ true → (is_some o && not e) ≡ false
  eol_is_no_line_place None e f = refl
  eol_is_no_line_place (Some b) e f = rw f

  byte_off_eol_is_line_place : (o : Option ℕ) (e : Bool) (b : ℕ) → o ≡ Some b → e ≡ false → (is_some o && not e) ≡ true
  byte_off_eol_is_line_place o e b f g = rw (f, g)

  place_without_byte_has_no_eol : (k : ℕ) → slice_get t k ≡ None → after_eol t k ≡ None
  place_without_byte_has_no_eol k e =
      no_bytes_no_eol (has_byte t lf k) (has_byte t cr k && has_byte t lf (k + 1)) _ _
      (or_is_false (has_byte t lf k) _ (holds-none (λ b. b == lf) (slice_get t k) e)
      (and_is_false_by_left (has_byte t cr k) _ (holds-none (λ b. b == cr) (slice_get t k) e)))

  comment_text_is_line : (i k j : ℕ) (span : Span) (b : ℕ) (eol : Bool) → has_eol t i ≡ eol → slice_get t i ≡ Some b →
      comment_text t eol i (Read span k) → Eol k j → IsLine t i j
  comment_text_is_line i k j span b true e f (goes_on at_place (goes_on at_place given)) g =
      record {
        end = i;
        stretch =
            run_is_empty_off_line_place i (eol_is_no_line_place (slice_get t i) (has_eol t i) e);
        eol = g;
      }
  comment_text_is_line i k j span b false e f
      (goes_on {j = m} x (goes_on at_place (goes_on (passed s) (goes_on at_place given)))) g =
      let by = read_token_has_its_byte 32 i m x in
      let on = by.1 in
      record {
        end = k;
        stretch = longest_run_extends_backwards (is_line_place t) i m k (omega arith)
            (λ n a c. (let same : i ≡ n = omega arith in
            subst (λ n. is_line_place t n ≡ true) same
            (byte_off_eol_is_line_place (slice_get t i) (has_eol t i) b f e))) s;
        eol = g;
      }

  -- what a comment line has after its hashes is the rest of a line
  comment_rest_is_line : (i j : ℕ) (content : List Span) (o : Option ℕ) → slice_get t i ≡ o →
      comment_rest t o i (Read content j) → IsLine t i j
  comment_rest_is_line i j content None e given =
      record {
        end = i;
        stretch = run_is_empty_off_line_place i (place_without_byte_is_no_line_place (slice_get t i) (has_eol t i) e);
        eol = inr (place_without_byte_has_no_eol i e, refl);
      }
  comment_rest_is_line i j content (Some b) e (goes_on {j = k} {a = span} (chosen x) (goes_on y given)) =
      comment_text_is_line i k j span b (has_eol t i) refl e x (read_eol_is_eol k j y)

hash_is_not_lf : (b : ℕ) → (b == 35) ≡ true → (b == lf) ≡ false
hash_is_not_lf b e = grind (arith, nat_tests)

hash_is_not_cr : (b : ℕ) → (b == 35) ≡ true → (b == cr) ≡ false
hash_is_not_cr b e = grind (arith, nat_tests)

no_lf_nor_cr_is_no_eol : (a b c : Bool) → a ≡ false → b ≡ false → (a || b && c) ≡ false
no_lf_nor_cr_is_no_eol a b c e f = rw (e, f)

place_within_three_cases : (i k : ℕ) → i ≤ k → k < i + 3 → (i ≡ k) ⊎ ((i + 1 ≡ k) ⊎ (i + 2 ≡ k))
place_within_three_cases i k a b = grind arith

module _ (t : List ℕ) where
  hash_is_line_place : (k : ℕ) → has_byte t 35 k ≡ true → is_line_place t k ≡ true
  hash_is_line_place k e =
      let b = byte_exists (λ c. c == 35) (slice_get t k) e in
      byte_off_eol_is_line_place t (slice_get t k) (has_eol t k) b.0 b.1
      (no_lf_nor_cr_is_no_eol (has_byte t lf k) (has_byte t cr k) (has_byte t lf (k + 1))
      (tests_exclude (λ c. c == 35) (λ c. c == lf) (slice_get t k) hash_is_not_lf e)
      (tests_exclude (λ c. c == 35) (λ c. c == cr) (slice_get t k) hash_is_not_cr e))

  bytes_of_counted_hashes_are_hashes : (i k : ℕ) (a b c : Bool) → has_byte t 35 i ≡ a → has_byte t 35 (i + 1) ≡ b →
      has_byte t 35 (i + 2) ≡ c → i ≤ k →
      k < i + (if not a then 0 else if not b then 1 else if not c then 2 else 3) → has_byte t 35 k ≡ true
  bytes_of_counted_hashes_are_hashes i k false b c e f g l m = absurd (omega arith)
  bytes_of_counted_hashes_are_hashes i k true false c e f g l m = let same : i ≡ k = omega arith in
      subst (λ k. has_byte t 35 k ≡ true) same e
  bytes_of_counted_hashes_are_hashes i k true true false e f g l m =
      elim (place_within_three_cases i k l (omega arith)) [
        | inl x ↦ subst (λ k. has_byte t 35 k ≡ true) x e
        | inr (inl x) ↦ subst (λ k. has_byte t 35 k ≡ true) x f
        | inr (inr x) ↦ absurd (omega arith)
      ]
  bytes_of_counted_hashes_are_hashes i k true true true e f g l m = elim (place_within_three_cases i k l m) [
    | inl x ↦ subst (λ k. has_byte t 35 k ≡ true) x e
    | inr (inl x) ↦ subst (λ k. has_byte t 35 k ≡ true) x f
    | inr (inr x) ↦ subst (λ k. has_byte t 35 k ≡ true) x g
  ]

  pub bytes_of_hashes_are_hashes : (i k : ℕ) → i ≤ k → k < i + hashes t i → has_byte t 35 k ≡ true
  bytes_of_hashes_are_hashes i k l m =
      bytes_of_counted_hashes_are_hashes i k (has_byte t 35 i) (has_byte t 35 (i + 1))
      (has_byte t 35 (i + 2)) refl refl refl l m

  -- where there are hashes, a line goes on
  line_after_hashes_is_line : (i j : ℕ) → IsLine t (i + hashes t i) j → IsLine t i j
  line_after_hashes_is_line i j x = record {
    end = x.end;
    stretch =
        longest_run_extends_backwards t (is_line_place t) i (i + hashes t i) x.end (omega arith)
        (λ n a b. hash_is_line_place n (bytes_of_hashes_are_hashes i n a b)) x.stretch;
    eol = x.eol;
  }

  -- a comment line is a whole line
  pub comment_line_is_whole_line : (level i j : ℕ) (content : List Span) → hashes t i ≡ level →
      comment_line t level i (Read content j) → IsLine t i j
  comment_line_is_whole_line level i j content e (goes_on {j = m} (passed w) (chosen x)) =
      let by = w.by in
      let same : m ≡ i + hashes t i = omega arith in
      line_after_hashes_is_line i j
      (subst (λ m. IsLine t m j) same (comment_rest_is_line t m j content (slice_get t m) refl x))

  -- there are hashes before the line end
  pub hashes_end_within_line : (i j : ℕ) → IsLine t i j → i + hashes t i ≤ j
  hashes_end_within_line i j x =
      let on = line_ends_after_its_stretch t i j x in
      elim (lt_or_le x.end (i + hashes t i)) [
        | inl l ↦ absurd
            (false≢true
            (sym x.stretch.longest ∙ hash_is_line_place x.end (bytes_of_hashes_are_hashes i x.end x.stretch.forward l)))
        | inr l ↦ omega arith
      ]
