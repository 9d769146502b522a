-- Names, of which a new one gets a number.
use Rattle.std.proofs.Common.{◌≡◌, ◌⊎◌, inl, inr, ℕ, ◌+◌, Bool, true, false, Option, Some, None, refl, sym, ap, ◌∙◌}
use Rattle.std.proofs.Common.{arith}
use Rattle.std.specs.Prelude.{if◌then◌else◌}
use Rattle.std.specs.Str.{bytes_eq}
use Rattle.std.proofs.lemmas.Slice.Eq.{bytes_eq-Decides}
use Rattle.fluent_syntax_names.specs.NamedLists.{Numbering, Within, IsInjective}
use Rattle.fluent_syntax_names.specs.FirstPlaces.{Notes, first_of, place_where}
use Rattle.fluent_syntax_names.specs.QualifiedNames.{Text}
use Rattle.fluent_syntax_names.proofs.Ways.{name_equals_itself}

some_number_is_injective : (u v : ℕ) → Some u ≡ Some v → u ≡ v
some_number_is_injective u v e = cc

-- before any name
module _ (number : Numbering) (none : (x : Text) → number x ≡ None) where
  pub empty_numbering_is_within_zero : Within number 0
  empty_numbering_is_within_zero x u e = let never : None ≡ Some u = sym (none x) ∙ e in absurd (cc)

  pub empty_numbering_is_injective : IsInjective number
  empty_numbering_is_injective x y u e f = let never : None ≡ Some u = sym (none x) ∙ e in absurd (cc)

module _ (old new : Numbering) (name : Text) (number : ℕ) (absent : old name ≡ None)
    (notes : Notes old new name number) where
  pub known_name_keeps_its_number : (x : Text) (u : ℕ) → old x ≡ Some u → new x ≡ Some u
  known_name_keeps_its_number x u e = notes x ∙ ap (λ (o : Option ℕ). first_of o (place_where x name number)) e

  pub new_name_has_the_next_number : new name ≡ Some number
  new_name_has_the_next_number =
      notes name
      ∙ ap (λ (o : Option ℕ). first_of o (place_where name name number)) absent
      ∙ ap (λ (b : Bool). if b then Some number else None) (name_equals_itself name)

  -- a number that is known now was known, or is that of the name
  place_of_name_is_its_number : (x : Text) (u : ℕ) (b : Bool) → bytes_eq x name ≡ b
      → (if b then Some number else None) ≡ Some u → (x ≡ name) × (u ≡ number)
  place_of_name_is_its_number x u true is e =
      ((bytes_eq-Decides x name).0 is, some_number_is_injective u number (sym e))
  place_of_name_is_its_number x u false is e = absurd (cc)

  number_is_old_or_that_of_name : (x : Text) (u : ℕ) (o : Option ℕ) → old x ≡ o
      → first_of o (place_where x name number) ≡ Some u → (old x ≡ Some u) ⊎ ((x ≡ name) × (u ≡ number))
  number_is_old_or_that_of_name x u None was e = inr (place_of_name_is_its_number x u (bytes_eq x name) refl e)
  number_is_old_or_that_of_name x u (Some v) was e = inl (was ∙ e)

  pub numbered_name_was_known_or_is_new : (x : Text) (u : ℕ) → new x ≡ Some u
      → (old x ≡ Some u) ⊎ ((x ≡ name) × (u ≡ number))
  numbered_name_was_known_or_is_new x u e = number_is_old_or_that_of_name x u (old x) refl (sym (notes x) ∙ e)

  module _ (count : ℕ) (is_last : number ≡ count) (within : Within old count) where
    pub numbering_with_new_is_within_one_more : Within new (count + 1)
    numbering_with_new_is_within_one_more x u e = elim (numbered_name_was_known_or_is_new x u e) [
      | inl w ↦ omega (arith, within x u w)
      | inr w ↦ omega (arith, w.1, is_last)
    ]

    pub numbering_with_new_is_injective : IsInjective old → IsInjective new
    numbering_with_new_is_injective apart x y u e f = elim (numbered_name_was_known_or_is_new x u e) [
      | inl w ↦ elim (numbered_name_was_known_or_is_new y u f) [
        | inl v ↦ apart x y u w v
        | inr v ↦ absurd (omega (arith, within x u w, v.1, is_last))
      ]
      | inr w ↦ elim (numbered_name_was_known_or_is_new y u f) [
        | inl v ↦ absurd (omega (arith, within y u v, w.1, is_last))
        | inr v ↦ w.0 ∙ sym v.0
      ]
    ]
