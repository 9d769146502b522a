-- What a word that was read holds: so a name that was read is a name.
use Rattle.std.proofs.Common.{◌≡◌, ℕ, zero, suc, ◌+◌, ◌-◌, ◌≤◌, ◌<◌, List, [], ◌∷◌, length, drop, take, Bool, true}
use Rattle.std.proofs.Common.{refl, sym, ◌∙◌, subst, arith}
use Rattle.std.specs.Prelude.{slice_get, slice_range}
use Rattle.std.specs.List.{list_all}
use Rattle.fluent_syntax_tree.specs.Spans.{bytes_at}
use Rattle.fluent_syntax_tree.specs.declared.spans.Span.{Span}
use Rattle.fluent_syntax_grammar.specs.Bytes.{is_letter, is_name_byte}
use Rattle.fluent_syntax_grammar.specs.Places.{holds, has, ByteRun}
use Rattle.fluent_syntax_grammar.specs.Construct.{Read, goes_on, given, at_place, passed, chosen, first as first_of}
use Rattle.fluent_syntax_grammar.specs.Construct.{second}
use Rattle.fluent_syntax_grammar.specs.Tokens.{identifier}
use Rattle.fluent_syntax_grammar.specs.Spellings.{is_name}
use Rattle.fluent_syntax_grammar.proofs.Facts.{and_gives_right, tests_imply}
use Rattle.fluent_syntax_grammar.proofs.Tests.{true_and_true, letter_is_name_byte}
use Rattle.fluent_syntax_grammar.proofs.SuffixAt.{SuffixAt, first, next_of_suffix, test_of_suffix}

-- what is left at any place of the text
drop_is_suffix : (t : List ℕ) (i : ℕ) → i ≤ length t → SuffixAt t i (drop i t)
drop_is_suffix t i l = record { within = l; rest = refl }

-- Where each of so many places has a byte of the set, so many bytes are in the set.
pub taken_bytes_are_in_set : {t : List ℕ} (set : ℕ → Bool) (n : ℕ) (bs : List ℕ) (i : ℕ) → SuffixAt t i bs →
    ((k : ℕ) → i ≤ k → k < i + n → has t set k ≡ true) → list_all set (take n bs) ≡ true
taken_bytes_are_in_set set zero bs i l e = refl
taken_bytes_are_in_set set (suc n) [] i l e = refl
taken_bytes_are_in_set set (suc n) (b ∷ bs) i l e =
    true_and_true (sym (test_of_suffix set l) ∙ e i (omega arith) (omega arith))
    (taken_bytes_are_in_set set n bs (i + 1) (next_of_suffix l) (λ k a c. e k (omega arith) (omega arith)))

-- the bytes of a word
word_bytes_are_in_set : (t : List ℕ) (set : ℕ → Bool) (i j : ℕ) → i ≤ length t → ByteRun t set i j →
    list_all set (slice_range t i j) ≡ true
word_bytes_are_in_set t set i j l w = let f = w.forward in
    taken_bytes_are_in_set set (j - i) (drop i t) i (drop_is_suffix t i l) (λ k a c. w.each k a (omega arith))

letter_first_makes_name : (bs : List ℕ) (n : ℕ) → holds is_letter (first bs) ≡ true →
    list_all is_name_byte (take (suc n) bs) ≡ true → is_name (take (suc n) bs) ≡ true
letter_first_makes_name [] n e f = absurd cc
letter_first_makes_name (b ∷ bs) n e f =
    true_and_true e (and_gives_right (is_name_byte b) (list_all is_name_byte (take n bs)) f)

module _ (t : List ℕ) where
  run_of_name_bytes_goes_on : (i j : ℕ) → i ≤ j → has t is_name_byte i ≡ true → ByteRun t is_name_byte i j → i < j
  run_of_name_bytes_goes_on i j l e w = grind (arith, w.longest)

  -- a name that was read is a name
  pub name_was_read : (i j : ℕ) (s : Span) → i ≤ length t → identifier t i (Read s j) → is_name (bytes_at t s) ≡ true
  name_was_read i j s l
      (goes_on at_place (goes_on (chosen given) (first_of e (goes_on (passed w) (goes_on at_place given))))) =
      let on = run_of_name_bytes_goes_on i j w.forward
      (tests_imply is_letter is_name_byte (slice_get t i) letter_is_name_byte e) w in
      let size : suc (j - (i + 1)) ≡ j - i = omega arith in
      subst (λ n. is_name (take n (drop i t)) ≡ true) size
      (letter_first_makes_name (drop i t) (j - (i + 1)) (sym (test_of_suffix is_letter (drop_is_suffix t i l)) ∙ e)
      (subst (λ n. list_all is_name_byte (take n (drop i t)) ≡ true) (sym size)
      (word_bytes_are_in_set t is_name_byte i j l w)))
  name_was_read i j s l (goes_on at_place (goes_on (chosen given) (second e x))) = elim x [ ]
