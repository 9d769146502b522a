-- Marks after marks, written by a writer.
use Rattle.std.proofs.Common.{◌≡◌, ℕ, List, [], ◌∷◌, ◌++◌, Option, Bool, true, false, if◌then◌else◌}
use Rattle.std.proofs.Common.{refl, sym, ap, ◌∙◌, append_assoc, append-nil}
use Rattle.fluent_syntax_grammar.specs.Written.{Text, indent, Mark, literal, last_of, is_last, mark_text, text_after}
use Rattle.fluent_syntax_grammar.specs.Writing.{Appends, Writes}
use Rattle.fluent_syntax_grammar.proofs.Bytes.{last_of-append, Outcome-append, Appends-none}
use Rattle.fluent_syntax_grammar.proofs.Bytes.{Appends-bytes}
use Rattle.fluent_syntax_grammar.specs.declared.text_writer.TextWriter.{TextWriter}

-- a literal that has no indent
pub unindented_literal_is_its_bytes : (last : Option ℕ) (bs : Text) → mark_text last (literal 0 bs) ≡ bs
unindented_literal_is_its_bytes last bs = top (is_last 10 last)
  where
    top : (b : Bool) → (if b then indent 0 else []) ++ bs ≡ bs
    top true = refl
    top false = refl

pub text_after-append : (last : Option ℕ) (ms ns : List Mark)
    → text_after last (ms ++ ns) ≡ text_after last ms ++ text_after (last_of last (text_after last ms)) ns
text_after-append last [] ns = refl
text_after-append last (m ∷ ms) ns =
    let front = mark_text last m in
    let next = last_of last front in
    let middle = text_after next ms in
    let same : last_of next middle ≡ last_of last (front ++ middle) = sym (last_of-append last front middle) in
    ap (λ t. front ++ t) (text_after-append next ms ns)
    ∙ sym (append_assoc front middle (text_after (last_of next middle) ns))
    ∙ ap (λ l. (front ++ middle) ++ text_after l ns) same

module _ {T W : Type 0} {text : W → List ℕ} {room : W → ℕ} where
  pub Writes-none : (a : TextWriter T W) → Writes text room a a []
  Writes-none a = record { text_appended = Appends-none a }

  pub Writes-one : {a b : TextWriter T W} {m : Mark} {bytes : Text}
      → mark_text a.last m ≡ bytes → Appends text room a b bytes → Writes text room a b (m ∷ [])
  Writes-one {a} {b} {m} e h = record { text_appended = Appends-bytes (append-nil (mark_text a.last m) ∙ e) h }

  pub Writes-append : {a b c : TextWriter T W} {ms ns : List Mark}
      → Writes text room a b ms → Writes text room b c ns → Writes text room a c (ms ++ ns)
  Writes-append {a} {b} {c} {ms} {ns} h k =
      let first = h.text_appended in
      let second = k.text_appended in
      let rest = text_after (last_of a.last (text_after a.last ms)) ns in
      record {
        text_appended = Appends-bytes (text_after-append a.last ms ns) (record {
          same_sink = second.same_sink ∙ first.same_sink;
          outcome =
              Outcome-append rest first.outcome second.outcome (λ last. ap (λ l. text_after l ns) last);
        });
      }

  -- the same where the first is one mark
  pub Writes-cons : {a b c : TextWriter T W} {m : Mark} {ms : List Mark}
      → Writes text room a b (m ∷ []) → Writes text room b c ms → Writes text room a c (m ∷ ms)
  Writes-cons h k = Writes-append h k

pub ruleset writing = (Writes-cons, Writes-append, Writes-none)
