-- What changes of a text come to.
use Rattle.std.proofs.Common.{◌≡◌, ℕ, ◌+◌, ◌<◌, List, [], ◌∷◌, ◌++◌, length, get_or, take, map, sym, ap, ◌∙◌, subst}
use Rattle.std.proofs.lemmas.List.{map-append, take_more}
use Rattle.ftl_lsp.specs.Changes.{MakesEdit, MakesEdits, makes_last}
use Rattle.ftl_lsp.specs.Edits.{Edit, edit_of}
use Rattle.ftl_lsp.specs.declared.documents.changes.Change.{Change}

-- one change more was made
pub MakesEdits-more : (old : List ℕ) (changes : List Change) (i : ℕ) (d : Change) (made new : List ℕ) →
    i < length changes → MakesEdits old (map edit_of (take i changes)) made →
    MakesEdit made (edit_of (get_or changes i d)) new → MakesEdits old (map edit_of (take (i + 1) changes)) new
MakesEdits-more old changes i d made new within before last =
    let edit = edit_of (get_or changes i d) in
    let longer : map edit_of (take i changes) ++ edit ∷ [] ≡ map edit_of (take (i + 1) changes) =
    sym (ap (map edit_of) (take_more changes i d within)
    ∙ map-append edit_of (take i changes) (get_or changes i d ∷ [])) in
    subst (λ (edits : List Edit). MakesEdits old edits new) longer (makes_last _ _ _ _ before last)
