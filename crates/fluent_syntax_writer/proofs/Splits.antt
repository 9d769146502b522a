-- Two literals written as one piece, where the first does not end in LF.
use Rattle.std.proofs.Common.{◌≡◌, ℕ, List, [], ◌∷◌, ◌++◌, Option, Some, Bool, false, if◌then◌else◌, ◌==◌}
use Rattle.std.proofs.Common.{sym, ap, ◌∙◌, append_assoc}
use Rattle.fluent_syntax_grammar.specs.Written.{Text, indent, Mark, literal, last_of, is_last, text_after}
use Rattle.fluent_syntax_grammar.specs.Writing.{Writes}
use Rattle.fluent_syntax_grammar.proofs.Bytes.{last_of-append, Appends-bytes}
use Rattle.fluent_syntax_grammar.specs.declared.text_writer.TextWriter.{TextWriter}

last_of-piece : (last : Option ℕ) (front xs : Text) (b : ℕ) → last_of last (front ++ (xs ++ b ∷ [])) ≡ Some b
last_of-piece last front xs b =
    last_of-append last front (xs ++ b ∷ []) ∙ last_of-append (last_of last front) xs (b ∷ [])

split_literal_writes_the_same : (last : Option ℕ) (front xs ys : Text) (b : ℕ) (level : ℕ) (ns : List Mark)
    → last_of last (front ++ xs) ≡ Some b → (b == 10) ≡ false
    → (front ++ xs) ++ text_after (last_of last (front ++ xs)) (literal level ys ∷ ns)
    ≡ (front ++ (xs ++ ys)) ++ text_after (last_of last (front ++ (xs ++ ys))) ns
split_literal_writes_the_same last front xs ys b level ns is other =
    let whole : (front ++ xs) ++ ys ≡ front ++ (xs ++ ys) = append_assoc front xs ys in
    let again : last_of (last_of last (front ++ xs)) ys ≡ last_of last ((front ++ xs) ++ ys) =
    sym (last_of-append last (front ++ xs) ys) in
    let next : last_of (Some b) ys ≡ last_of last (front ++ (xs ++ ys)) =
    ap (λ l. last_of l ys) (sym is) ∙ again ∙ ap (last_of last) whole in
    let shown = λ (indented : Bool). (if indented then indent level else []) ++ ys in
    let after = λ (t : Text). (front ++ xs) ++ (t ++ text_after (last_of (Some b) t) ns) in
    ap (λ l. (front ++ xs) ++ text_after l (literal level ys ∷ ns)) is
    ∙ ap (λ indented. after (shown indented)) other
    ∙ sym (append_assoc (front ++ xs) ys (text_after (last_of (Some b) ys) ns))
    ∙ ap (λ t. t ++ text_after (last_of (Some b) ys) ns) whole
    ∙ ap (λ l. (front ++ (xs ++ ys)) ++ text_after l ns) next

module _ {T W : Type 0} {text : W → List ℕ} {room : W → ℕ} where
  pub Writes-split : {a c : TextWriter T W} {level : ℕ} (xs : Text) (b : ℕ) (ys : Text) {ns : List Mark}
      → (b == 10) ≡ false → Writes text room a c (literal level ((xs ++ b ∷ []) ++ ys) ∷ ns)
      → Writes text room a c (literal level (xs ++ b ∷ []) ∷ literal level ys ∷ ns)
  Writes-split {a} {c} {level} xs b ys {ns} other h =
      let front = if is_last 10 a.last then indent level else [] in
      let last_is = last_of-piece a.last front xs b in
      let split = split_literal_writes_the_same a.last front (xs ++ b ∷ []) ys b level ns last_is other in
      record { text_appended = Appends-bytes split h.text_appended }
