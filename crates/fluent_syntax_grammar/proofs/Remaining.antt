-- Loops that write a list of marks: who writes those that are left has written them all.
use Rattle.std.proofs.Common.{◌≡◌, ℕ, suc, ◌+◌, ◌<◌, List, [], ◌∷◌, ◌++◌, length, get_or, drop, sym, ap, ◌∙◌, arith}
use Rattle.std.proofs.Math.Seq.{drop-cons}
use Rattle.fluent_syntax_grammar.specs.Written.{Mark}
use Rattle.fluent_syntax_grammar.specs.Writing.{Appends, Writes}
use Rattle.fluent_syntax_grammar.proofs.Bytes.{Appends-append}
use Rattle.fluent_syntax_grammar.proofs.MarksWritten.{Writes-none, Writes-append}
use Rattle.fluent_syntax_grammar.specs.declared.text_writer.TextWriter.{TextWriter}

module _ {T W : Type 0} (text : W → List ℕ) (room : W → ℕ) where
  pub record RemainingMarks (old now : TextWriter T W) (left all : List Mark) : Type 0 where
    pub finish : {new : TextWriter T W} → Writes text room now new left → Writes text room old new all

module _ {T W : Type 0} {text : W → List ℕ} {room : W → ℕ} where
  pub RemainingMarks-start : {a : TextWriter T W} {all : List Mark} → RemainingMarks text room a a all all
  RemainingMarks-start = record { finish = λ {new} written. written }

  pub RemainingMarks-more : {a b c : TextWriter T W} {ms rest all : List Mark}
      → RemainingMarks text room a b (ms ++ rest) all → Writes text room b c ms → RemainingMarks text room a c rest all
  RemainingMarks-more h k = record { finish = λ {new} written. h.finish (Writes-append k written) }

  pub RemainingMarks-end : {a b : TextWriter T W} {all : List Mark} → RemainingMarks text room a b [] all
      → Writes text room a b all
  RemainingMarks-end {b = b} h = h.finish (Writes-none b)

  pub RemainingMarks-last : {a b c : TextWriter T W} {left all : List Mark}
      → RemainingMarks text room a b left all → Writes text room b c left → Writes text room a c all
  RemainingMarks-last h k = h.finish k

-- Loops that write bytes: who writes those that are left has written them all.
module _ {T W : Type 0} (text : W → List ℕ) (room : W → ℕ) where
  pub record RemainingBytes (old now : TextWriter T W) (left all : List ℕ) : Type 0 where
    pub finish : {new : TextWriter T W} → Appends text room now new left → Appends text room old new all

module _ {T W : Type 0} {text : W → List ℕ} {room : W → ℕ} where
  pub RemainingBytes-more : {a b c : TextWriter T W} {bs rest all : List ℕ}
      → RemainingBytes text room a b (bs ++ rest) all → Appends text room b c bs → RemainingBytes text room a c rest all
  RemainingBytes-more h k = record { finish = λ {new} appended. h.finish (Appends-append k appended) }

  pub RemainingBytes-last : {a b c : TextWriter T W} {left all : List ℕ}
      → RemainingBytes text room a b left all → Appends text room b c left → Appends text room a c all
  RemainingBytes-last h k = h.finish k

-- the item that a loop takes next, and those after it
pub drop_gives_item : {A : Type 0} (xs : List A) (i : ℕ) (x : A) → i < length xs → x ≡ get_or xs i x
    → drop i xs ≡ x ∷ drop (i + 1) xs
drop_gives_item xs i x h e =
    let next : i + 1 ≡ suc i = omega arith in
    drop-cons xs i x h ∙ ap (λ y. y ∷ drop (suc i) xs) (sym e) ∙ ap (λ n. x ∷ drop n xs) (sym next)
