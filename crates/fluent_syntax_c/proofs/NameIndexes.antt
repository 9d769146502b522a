-- Outlines of texts, and what holds of some of several texts.
use Rattle.std.proofs.Common.{◌≡◌, ◌+◌, ◌<◌, ◌++◌, [], ◌∷◌, ℕ, List, length, get_or, take, sym}
use Rattle.std.proofs.Common.{subst}
use Rattle.std.specs.List.{All, Any}
use Rattle.std.proofs.lemmas.List.{take_more}
use Rattle.fluent_syntax_names.specs.declared.name_index.NameIndex.{NameIndex}
use Rattle.ftl.specs.declared.outcome.Outcome.{Outcome}
use Rattle.fluent_syntax_c.specs.NameIndexes.{AreNameIndexes, IsEditionNameIndex, either_outcome, more_name_indexes}
use Rattle.fluent_syntax_c.specs.declared.name_indexes.FtlText.{FtlText}

-- what holds of none holds of no single one
pub none_refutes_any : {X : Type 0} (P : X → Type 0) (xs : List X) → All (λ x. P x → ⊥) xs → Any P xs → ⊥
none_refutes_any P xs none any = none any.0 any.1 any.2 (subst P (sym any.3) any.4)

-- with the name index of one more text
pub AreNameIndexes-more : (number : ℕ) (texts : List FtlText) (i : ℕ) (d : FtlText) (name_indexes new : List NameIndex)
    (name_index : NameIndex) (before found after : Outcome) → AreNameIndexes number (take i texts) name_indexes before →
    IsEditionNameIndex number (get_or texts i d).text.now name_index found → i < length texts →
    new ≡ name_indexes ++ (name_index ∷ []) → after ≡ either_outcome before found →
    AreNameIndexes number (take (i + 1) texts) new after
AreNameIndexes-more number texts i d name_indexes new name_index before found after so_far that l added outcome =
    rw (take_more texts i d l, added, outcome) (more_name_indexes (get_or texts i d) name_index found so_far that)
