-- What a renaming writes.
use Rattle.std.proofs.Common.{◌≡◌, ℕ, List, [], ◌∷◌, ◌++◌, true, false, Option, Some, None, All, map, inl, inr}
use Rattle.std.proofs.Common.{refl, sym, ap, ◌∙◌, subst, true≢false}
use Rattle.std.proofs.lemmas.List.{map-append}
use Rattle.std.proofs.lemmas.List.Elements.{All-push}
use Rattle.std.specs.Prelude.{ℤ, is_some, option_map, slice_range}
use Rattle.fluent_syntax_grammar.specs.Spellings.{is_name}
use Rattle.fluent_syntax_tree.specs.declared.spans.Span.{Span}
use Rattle.std.proofs.Common.{String, Vec, Global, string_bytes, string_cmp}
use Rattle.std.specs.BTreeMap.{insert_entry}
use Rattle.serde_json.proofs.Views.{Entry, members_view-insert_entry, view-Array}
use Rattle.serde_json.specs.Data.{Data, put}
use Rattle.serde_json.specs.View.{members_view, view}
use Rattle.serde_json.specs.declared.value.Value.{Value, Array}
use Rattle.ftl_lsp.specs.Locations.{edit_form}
use Rattle.ftl_lsp.specs.Occurrences.{IsCut}
use Rattle.ftl_lsp.specs.OpenDocuments.{OpenText}
use Rattle.ftl_lsp.specs.Renaming.{HasText, RenamesAt, RenamesEach, renames_at, renames_one_more}

-- what holds of a list's values holds with one more
pub All-append_value : (P : Data → Type 0) (old new : List Value) (value : Value) → new ≡ old ++ value ∷ [] →
    All P (map view old) → P (view value) → All P (map view new)
All-append_value P old new value is all one =
    subst (λ (values : List Value). All P (map view values)) (sym is)
    (subst (All P) (sym (map-append view old (value ∷ []))) (All-push P (map view old) (view value) all one))

-- a name has bytes, so they are those of its span
pub cut_is_range_of_name : (t : List ℕ) (span : Span) (name : List ℕ) → is_name name ≡ true → IsCut t span name →
    slice_range t span.start span.end ≡ name
cut_is_range_of_name t span name named (inl is) = sym is
cut_is_range_of_name t span name named (inr none) = absurd (true≢false (sym named ∙ ap is_name none))

-- an edit of that span renames it
pub edit_of_span_renames_identifier : (t old identifier positions : List ℕ) (span : Span) (value : Data) →
    value ≡ edit_form positions identifier span → positions ≡ t → is_name old ≡ true → IsCut t span old →
    RenamesAt t old identifier value
edit_of_span_renames_identifier t old identifier positions span value form same named cut =
    subst (RenamesAt t old identifier) (sym (form ∙ ap (λ (u : List ℕ). edit_form u identifier span) same))
    (renames_at span (cut_is_range_of_name t span old named cut))

-- what is not there
pub absent_is_none : {X Y : Type 0} (f : X → Y) (o : Option X) → false ≡ is_some o → option_map f o ≡ None
absent_is_none f None e = refl
absent_is_none f (Some x) e = absurd (true≢false (sym e))

-- a document under the name of one that is open has its text
pub has_open_text : (texts : List ℕ → Option OpenText) (uri t : List ℕ) (version : Option ℤ) (found : OpenText) →
    texts uri ≡ Some found → HasText texts uri t version → t ≡ found.text
has_open_text texts uri t version found open' (inl is) = ap (text_of_open_document_or t) (sym is ∙ open')
  where
    text_of_open_document_or : List ℕ → Option OpenText → List ℕ
    text_of_open_document_or other None = other
    text_of_open_document_or other (Some there) = there.text
has_open_text texts uri t version found open' (inr h) = absurd (true≢false (sym (ap is_some open') ∙ ap is_some h.0))

-- the edits of one document more, under its name
pub edits_of_one_more : (texts : List ℕ → Option OpenText) (old identifier uri t : List ℕ) (version : Option ℤ)
    (entries new : List Entry) (key : String Global) (edits : Vec Value Global) →
    new ≡ insert_entry string_cmp entries key (Array edits) → string_bytes key ≡ uri → HasText texts uri t version →
    All (RenamesAt t old identifier) (map view edits.items) → RenamesEach texts old identifier (members_view entries) →
    RenamesEach texts old identifier (members_view new)
edits_of_one_more texts old identifier uri t version entries new key edits is named here all before =
    let more = renames_one_more (string_bytes key) t version (map view edits.items) (members_view entries)
    (subst (λ (name : List ℕ). HasText texts name t version) (sym named) here) all before in
    let seen = subst (λ (value : Data). RenamesEach texts old identifier
    (put (string_bytes key) value (members_view entries))) (sym (view-Array edits)) more in
    subst (RenamesEach texts old identifier)
    (sym (ap members_view is ∙ members_view-insert_entry entries key (Array edits))) seen
