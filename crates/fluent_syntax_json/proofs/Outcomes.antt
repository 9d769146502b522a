-- What an answer says, in the words of trees and values.
use Rattle.std.proofs.Common.{◌≡◌, ◌⊎◌, Option, Some, None, Result, Ok, Err, IfOk, refl, sym, ◌∙◌, inl, inr}
use Rattle.std.proofs.lemmas.Option.{none-some, same_Some}
use Rattle.fluent_syntax_json.specs.declared.fault.ValueFault.{ValueFault}
use Rattle.fluent_syntax_json.specs.declared.fault.ValueFault.TheVariants.{Shape, Memory}
use Rattle.fluent_syntax_json.specs.Answer.{ReadsValue}

module _ {T A : Type 0} (view : T → A) (o : Option A) where
  pub answers-Ok : (r : Result T ValueFault) → ReadsValue view o r → IfOk r (λ x. o ≡ Some (view x))
  answers-Ok (Ok x) h = h
  answers-Ok (Err e) h = tt

  pub answers-Shape : (r : Result T ValueFault) → ReadsValue view o r → r ≡ Err Shape → (x : A) → o ≡ Some x → ⊥
  answers-Shape r h is x some =
      let none : o ≡ None = rw is at h in
      none-some x (sym none ∙ some)

  pub answers-none : (r : Result T ValueFault) → ReadsValue view o r → ((x : A) → o ≡ Some x → ⊥) → (r ≡ Err Shape) ⊎
      (r ≡ Err Memory)
  answers-none (Ok x) h never = absurd (never (view x) h)
  answers-none (Err Shape) h never = inl refl
  answers-none (Err Memory) h never = inr refl

-- a value that has one reading has no other
pub reading_is_unique : {A : Type 0} (o : Option A) (x y : A) → o ≡ Some x → o ≡ Some y → x ≡ y
reading_is_unique o x y h k = same_Some x y (sym h ∙ k)
