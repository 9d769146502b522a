-- The text of a name, by where it begins.
use Rattle.std.proofs.Common.{◌≡◌, ℕ, zero, suc, ◌+◌, ◌-◌, ◌<◌, ◌≤◌, Bool, true, false, List, length, get_or, take}
use Rattle.std.proofs.Common.{drop, arith, refl, sym, ap, ◌∙◌}
use Rattle.std.specs.List.{prefix_len, take_while}
use Rattle.std.specs.Prelude.{slice_range}
use Rattle.std.proofs.lemmas.List.{get_or-drop, length-drop}
use Rattle.std.proofs.lemmas.List.Sums.{prefix_len_is}
use Rattle.std.proofs.lemmas.Option.{slice_get-get_or}
use Rattle.fluent_syntax_tree.specs.Spans.{bytes_at}
use Rattle.fluent_syntax_tree.specs.declared.spans.Span.{Span}
use Rattle.fluent_syntax_grammar.specs.Bytes.{is_letter, is_name_byte}
use Rattle.fluent_syntax_grammar.specs.Construct.{Read, at_place, chosen, first, given, goes_on, passed, second}
use Rattle.fluent_syntax_grammar.specs.Places.{ByteRun, has}
use Rattle.fluent_syntax_grammar.specs.Tokens.{identifier, token}
use Rattle.fluent_syntax_grammar.proofs.Facts.{byte_that_passes_is_in_text}
use Rattle.fluent_syntax_parser.specs.Outcomes.{name_text}

module _ (t : List ℕ) (p : ℕ → Bool) where
  byte_at_place_passes_as_place : (b : Bool) (k : ℕ) → k < length t → has t p k ≡ b → p (get_or t k 0) ≡ b
  byte_at_place_passes_as_place b k inside e = rw (slice_get-get_or t k 0 inside) at e

  test_beyond_front_is_test_of_text : (b : Bool) (i k n : ℕ) → i + k ≡ n → n < length t → has t p n ≡ b →
      p (get_or (drop i t) k 0) ≡ b
  test_beyond_front_is_test_of_text b i k n is inside e =
      ap p (get_or-drop i t k 0 ∙ ap (λ m. get_or t m 0) is) ∙ byte_at_place_passes_as_place b n inside e

  -- the longest run of bytes that pass a test
  pub text_of_byte_run_is_taken_while : (i j : ℕ) → i ≤ length t → j ≤ length t → ByteRun t p i j
      → slice_range t i j ≡ take_while p (drop i t)
  text_of_byte_run_is_taken_while i j from within w =
      let size = length-drop i t in
      let long : prefix_len p (drop i t) ≡ j - i =
      prefix_len_is p (drop i t) (j - i) 0 (omega (arith, size, w.forward, within))
      (λ k l. test_beyond_front_is_test_of_text true i k (i + k) refl (omega (arith, within))
      (w.each (i + k) (omega arith) (omega arith)))
      (λ l. test_beyond_front_is_test_of_text false i (j - i) j (omega (arith, w.forward)) (omega (arith, size))
      w.longest) in
      ap (λ n. take n (drop i t)) (sym long)

  -- it ends within the text
  byte_run_in_text_ends_in_text : (i j : ℕ) → i < length t → ByteRun t p i j → j ≤ length t
  byte_run_in_text_ends_in_text i zero inside w = omega arith
  byte_run_in_text_ends_in_text i (suc m) inside w =
      let last : i ≤ m → m < length t = λ l. byte_that_passes_is_in_text p t m (w.each m l (omega arith)) in
      grind (arith, last)

-- an identifier
pub identifier_has_name_text : (t : List ℕ) {i j : ℕ} {name : Span} → identifier t i (Read name j) →
    bytes_at t name ≡ name_text t i
identifier_has_name_text t {i = i} {j = j}
    (goes_on at_place (goes_on (chosen given) (first letter (goes_on (passed w) (goes_on at_place given))))) =
    let inside = byte_that_passes_is_in_text is_letter t i letter in
    text_of_byte_run_is_taken_while t is_name_byte i j (omega (arith, inside))
    (byte_run_in_text_ends_in_text t is_name_byte i j inside w) w
identifier_has_name_text t
    (goes_on at_place (goes_on (chosen given) (second other h))) = elim h [ ]

-- the place before the one after a mark
pub token_is_one_byte : (t : List ℕ) {b i j : ℕ} → token t b i (Read tt j) → j - 1 ≡ i
token_is_one_byte t (goes_on (chosen (first e (goes_on (passed w) given))) (first f given)) = omega (arith, w.by)
token_is_one_byte t (goes_on (chosen (first e (goes_on (passed w) given))) (second f x)) = elim x [ ]
token_is_one_byte t (goes_on (chosen (second e given)) (first f given)) = cc
token_is_one_byte t (goes_on (chosen (second e given)) (second f x)) = elim x [ ]
