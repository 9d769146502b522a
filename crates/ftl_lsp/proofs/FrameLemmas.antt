-- Headers, and the length that they name.
use Rattle.std.proofs.Common.{◌≡◌, ℕ, ◌+◌, ◌<◌, ◌≤◌, List, length, take, drop, Option}
use Rattle.std.proofs.Common.{None, sym, ap, ◌∙◌, subst}
use Rattle.ftl_lsp.specs.HeaderEnds.{IsLineEnd}
use Rattle.ftl_lsp.specs.Fields.{HasLength, NamesLength, number_of}
use Rattle.ftl_lsp.specs.Fields.HasLength.{in_line, below_line, nowhere}

pub line_that_names_length_has_it : (t line : List ℕ) (at : ℕ) (n : Option ℕ) → IsLineEnd t at → line ≡ take at t →
    NamesLength line → n ≡ number_of (drop 15 line) → HasLength t n
line_that_names_length_has_it t line at n ends same names is =
    subst (HasLength t) (sym (is ∙ ap (λ l. number_of (drop 15 l)) same))
    (in_line t at ends (subst NamesLength same names))

pub length_is_below_line_that_names_none : (t line rest : List ℕ) (at : ℕ) (n : Option ℕ) → IsLineEnd t at →
    line ≡ take at t →
    ¬ (NamesLength line) → at + 2 ≤ length t → rest ≡ drop (at + 2) t → HasLength rest n → HasLength t n
length_is_below_line_that_names_none t line rest at n ends same other room is has =
    below_line t at n ends (λ names. other (subst NamesLength (sym same) names)) room
    (subst (λ u. HasLength u n) is has)

pub last_line_that_names_none_has_no_length : (t line : List ℕ) (at : ℕ) → IsLineEnd t at → line ≡ take at t →
    ¬ (NamesLength line) → length t < at + 2 → HasLength t None
last_line_that_names_none_has_no_length t line at ends same other room =
    nowhere t at ends (λ names. other (subst NamesLength (sym same) names)) room
