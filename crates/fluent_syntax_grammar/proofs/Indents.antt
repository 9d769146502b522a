-- Indents, frame by frame.
use Rattle.std.proofs.Common.{◌≡◌, ℕ, ◌+◌, ◌-◌, ◌*◌, List, [], ◌∷◌, ◌++◌, replicate, ap, ◌∙◌, sym, arith}
use Rattle.std.proofs.lemmas.List.{replicate-append-replicate}
use Rattle.std.proofs.Math.Nat.{mul-add}
use Rattle.fluent_syntax_grammar.specs.Written.{indent, star_indent}
use Rattle.fluent_syntax_grammar.specs.Writing.{Appends}
use Rattle.fluent_syntax_grammar.proofs.Bytes.{Appends-append, Appends-bytes}
use Rattle.fluent_syntax_grammar.specs.declared.text_writer.TextWriter.{TextWriter}

indent-append : (m n : ℕ) → indent (m + n) ≡ indent m ++ indent n
indent-append m n = ap (λ k. replicate k 32) (mul-add 4 m n) ∙ sym (replicate-append-replicate (4 * m) (4 * n) 32)

pub star_indent-add : (outer : ℕ) → star_indent (outer + 1) ≡ indent outer ++ (32 ∷ 32 ∷ 32 ∷ [])
star_indent-add outer =
    let order : 4 * (outer + 1) - 1 ≡ 4 * outer + 3 = omega arith in
    ap (λ k. replicate k 32) order ∙ sym (replicate-append-replicate (4 * outer) 3 32)

-- An indent of which so many frames are left.
module _ {T W : Type 0} (text : W → List ℕ) (room : W → ℕ) where
  pub record IsIndented (old new : TextWriter T W) (all left : ℕ) : Type 0 where
    pub done : ℕ
    pub parts : done + left ≡ all
    pub appended_done : Appends text room old new (indent done)

module _ {T W : Type 0} {text : W → List ℕ} {room : W → ℕ} where
  pub IsIndented-more : {a b : TextWriter T W} (c : TextWriter T W) (all left : ℕ)
      → IsIndented text room a b all (left + 1) → Appends text room b c (indent 1)
      → IsIndented text room a c all left
  IsIndented-more c all left h k = record {
    done = h.done + 1;
    parts = let p = h.parts in omega arith;
    appended_done = Appends-bytes (indent-append h.done 1) (Appends-append h.appended_done k);
  }
