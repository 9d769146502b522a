-- What actions do.
use Rattle.std.proofs.Common.{◌≡◌, ◌∷◌, ◌++◌, [], ℕ, List, All, inl, inr, ap, map, subst, sym}
use Rattle.std.proofs.lemmas.List.{map-append}
use Rattle.std.proofs.lemmas.List.Elements.{All-append, All-nil, All-push}
use Rattle.fluent_syntax_edits.specs.Additions.{IsAddition}
use Rattle.fluent_syntax_edits.specs.Changes.{removes}
use Rattle.fluent_syntax_edits.specs.SeveralEdits.{NumberedChange}
use Rattle.fluent_syntax_tree.specs.declared.edition.Edition.TheVariants.{One}
use Rattle.serde_json.specs.Data.{Data}
use Rattle.serde_json.specs.View.{view}
use Rattle.serde_json.specs.declared.value.Value.{Value}
use Rattle.ftl_lsp.specs.Actions.{Mends}

-- what is added of some text mends
pub additions_mend : (r t : List ℕ) (changes : List NumberedChange) → All (IsAddition One r t) changes →
    All (Mends t) changes
additions_mend r t changes all = λ k d l. inl (r, all k d l)

-- so does a removal by itself
pub removal_mends : (t : List ℕ) (number : ℕ) (change : NumberedChange) (changes : List NumberedChange) →
    changes ≡ change ∷ [] → change ≡ record { number = number; change = removes } → All (Mends t) changes
removal_mends t number change changes one is =
    subst (All (Mends t)) (sym one)
    (All-push (Mends t) [] change (All-nil (Mends t)) (inr (ap (λ (c : NumberedChange). c.change) is)))

-- what holds of the values of two lists holds with one after the other
pub All-appended_values : (P : Data → Type 0) (old more new : List Value) → new ≡ old ++ more →
    All P (map view old) → All P (map view more) → All P (map view new)
All-appended_values P old more new is all others =
    subst (λ (values : List Value). All P (map view values)) (sym is)
    (subst (All P) (sym (map-append view old more)) (All-append P (map view old) (map view more) all others))
