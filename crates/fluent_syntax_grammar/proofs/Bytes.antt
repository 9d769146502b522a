-- Bytes after bytes, handed to a writer's sink.
use Rattle.std.proofs.Common.{◌≡◌, ℕ, ◌-◌, List, [], ◌∷◌, ◌++◌, length, Option, Some, Bool, true, false}
use Rattle.std.proofs.Common.{refl, sym, ap, ◌∙◌, subst, arith}
use Rattle.std.specs.Prelude.{slice_get}
use Rattle.std.specs.Option.{option_or}
use Rattle.fluent_syntax_grammar.specs.Written.{Text, last_of}
use Rattle.fluent_syntax_grammar.proofs.TextEnds.{last_of-cons}
use Rattle.fluent_syntax_grammar.specs.Sink.{Takes, TakesBeginning}
use Rattle.fluent_syntax_grammar.specs.Writing.{Outcome, appended, stopped, silent, Appends}
use Rattle.fluent_syntax_grammar.proofs.Sinks.{Takes-none, Takes-append, TakesBeginning-after, TakesBeginning-before}
use Rattle.fluent_syntax_grammar.specs.declared.text_writer.TextWriter.{TextWriter}

-- ---- The last byte

pub last_of-append : (last : Option ℕ) (xs ys : Text) → last_of last (xs ++ ys) ≡ last_of (last_of last xs) ys
last_of-append last [] ys = refl
last_of-append last (x ∷ xs) ys = last_of-append (Some x) xs ys

option_or-last_of : (last other : Option ℕ) (b : ℕ) (bs : Text)
    → option_or (last_of other (b ∷ bs)) last ≡ last_of other (b ∷ bs)
option_or-last_of last other b [] = refl
option_or-last_of last other b (c ∷ bs) = option_or-last_of last (Some b) c bs

pub last_of-bytes : (found last : Option ℕ) (bs : Text) → found ≡ slice_get bs (length bs - 1)
    → option_or found last ≡ last_of last bs
last_of-bytes found last [] e = ap (λ x. option_or x last) e
last_of-bytes found last (b ∷ bs) e =
    let at : length (b ∷ bs) - 1 ≡ length bs = omega arith in
    ap (λ x. option_or x last) (e ∙ ap (slice_get (b ∷ bs)) at ∙ sym (last_of-cons last b bs))
    ∙ option_or-last_of last last b bs

-- ---- What becomes of bytes after bytes

module _ {T W : Type 0} {text : W → List ℕ} {room : W → ℕ} where
  pub Appends-none : (a : TextWriter T W) → Appends text room a a []
  Appends-none a = record { same_sink = refl; outcome = none a.refused refl }
    where
      none : (refused : Bool) → a.refused ≡ refused → Outcome text room a a []
      none false is = appended is is (Takes-none text room a.sink.now) refl
      none true is = silent is is refl

  -- What comes after bytes is known where they were taken, and makes no difference elsewhere.
  pub Outcome-append : {a b c : TextWriter T W} {xs zs : Text} (ys : Text)
      → Outcome text room a b xs → Outcome text room b c zs → (b.last ≡ last_of a.last xs → zs ≡ ys)
      → Outcome text room a c (xs ++ ys)
  Outcome-append {a} {b} {c} {xs} ys (appended was mid first last) (appended mid2 now second last2) same =
      let rest = subst (λ t. Takes text room b.sink.now c.sink.now t) (same last) second in
      let last_again : last_of b.last ys ≡ last_of (last_of a.last xs) ys = ap (λ l. last_of l ys) last in
      let last_now = last2 ∙ ap (last_of b.last) (same last) ∙ last_again ∙ sym (last_of-append a.last xs ys) in
      appended was now (Takes-append text room first rest) last_now
  Outcome-append {a} {b} {c} ys (appended was mid first last) (stopped mid2 now second) same =
      let rest = subst (λ t. TakesBeginning text room b.sink.now c.sink.now t) (same last) second in
      stopped was now (TakesBeginning-after text room first rest)
  Outcome-append ys (appended was mid first last) (silent mid2 now second) same = cc
  Outcome-append ys (stopped was mid first) (appended mid2 now second last2) same = cc
  Outcome-append ys (stopped was mid first) (stopped mid2 now second) same = cc
  Outcome-append {a} {b} {c} {xs} ys (stopped was mid first) (silent mid2 now second) same =
      let begun = TakesBeginning-before text room ys first in
      stopped was now (subst (λ w. TakesBeginning text room a.sink.now w (xs ++ ys)) (sym second) begun)
  Outcome-append ys (silent was mid first) (appended mid2 now second last2) same = cc
  Outcome-append ys (silent was mid first) (stopped mid2 now second) same = cc
  Outcome-append ys (silent was mid first) (silent mid2 now second) same = silent was now (second ∙ first)

  pub Appends-append : {a b c : TextWriter T W} {xs ys : Text}
      → Appends text room a b xs → Appends text room b c ys → Appends text room a c (xs ++ ys)
  Appends-append {ys = ys} h k = record {
    same_sink = k.same_sink ∙ h.same_sink;
    outcome = Outcome-append ys h.outcome k.outcome (λ last. refl);
  }

  -- bytes under another name
  pub Appends-bytes : {a b : TextWriter T W} {xs ys : Text}
      → xs ≡ ys → Appends text room a b ys → Appends text room a b xs
  Appends-bytes {a = a} {b = b} e h = subst (λ xs. Appends text room a b xs) (sym e) h

  -- what a sink has taken that refuses among bytes, and not before
  pub Appends-refused : {a b : TextWriter T W} {old new : W} {bs : Text} → Appends text room a b bs
      → a.refused ≡ false → b.refused ≡ true → old ≡ a.sink.now → new ≡ b.sink.now
      → TakesBeginning text room old new bs
  Appends-refused {a} {b} {old} {new} {bs} h was now before then = rw (before, then) (begun h.outcome)
    where
      begun : Outcome text room a b bs → TakesBeginning text room a.sink.now b.sink.now bs
      begun (appended was' now' taken last) = cc
      begun (stopped was' now' taken) = taken
      begun (silent was' now' same) = cc
