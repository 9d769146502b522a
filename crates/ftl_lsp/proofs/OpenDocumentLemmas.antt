-- What changes of the open documents come to.
use Rattle.std.proofs.Common.{◌≡◌, ℕ, List, Bool, true, false, Option, cond, ap, ◌∙◌, refl}
use Rattle.std.specs.Prelude.{option_map, String, string_bytes}
use Rattle.std.specs.BTreeMap.{BTreeMap, UpdatesBy}
use Rattle.std.specs.Cmp.Lexicographic.{slice_cmp}
use Rattle.std.specs.Ordering.{nat_cmp}
use Rattle.std.specs.String.{string_cmp}
use Rattle.std.specs.declared.alloc.Global.{Global}
use Rattle.std.proofs.lemmas.Map.Text.{btree_map_updates_text}
use Rattle.ftl_lsp.specs.OpenDocuments.{open_text, Sets, texts_of}
use Rattle.ftl_lsp.specs.declared.documents.open_documents.OpenDocument.{OpenDocument}

option_map-cond : {A B : Type 0} (f : A → B) (b : Bool) (x y : Option A) →
    option_map f (cond b x y) ≡ cond b (option_map f x) (option_map f y)
option_map-cond f true x y = refl
option_map-cond f false x y = refl

-- a map of documents that was changed under a name
pub texts_of_updated_map_are_set : (m n : BTreeMap (String Global) OpenDocument) (name : List ℕ)
    (found : Option OpenDocument) →
    UpdatesBy string_cmp (λ k. slice_cmp nat_cmp name (string_bytes k)) m n found →
    Sets (texts_of m) name (option_map open_text found) (texts_of n)
texts_of_updated_map_are_set m n name found updates other =
    ap (option_map open_text) (btree_map_updates_text name m n found updates other)
    ∙ option_map-cond open_text _ found _
