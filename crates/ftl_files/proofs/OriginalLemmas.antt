-- Paths that lead through a folder next to another one.
use Rattle.std.proofs.Common.{◌≡◌, ◌≢◌, ◌∙◌, ⊎_elim, inl, ℕ, List, [], ◌++◌, ◌∷◌, Bool, Bor, Option, None, Some}
use Rattle.std.proofs.Common.{Result, Ok, Err, String, Global, ap, append-nil, append_assoc, arith, codes, false}
use Rattle.std.proofs.Common.{get_or, true}
use Rattle.std.proofs.Common.{length, length-append, refl, sym}
use Rattle.std.proofs.Math.Seq.{get_or-append_seam}
use Rattle.std.proofs.lemmas.List.{append_cancel_left}
use Rattle.std.proofs.lemmas.Str.Pattern.{IsSplitOnceResult, split_after}
use Rattle.std.specs.Prelude.{IfOk, IfSome, string_bytes}
use Rattle.std.specs.Str.{bytes_eq}
use Rattle.std.proofs.lemmas.Slice.Eq.{bytes_eq-Decides}
use Rattle.std.specs.declared.alloc.AllocError.{AllocError}
use Rattle.ftl_files.specs.Languages.{IsDirect}
use Rattle.ftl_files.specs.Originals.{IsOriginal}

-- the reference itself is the original of a file next to it
pub reference_is_original : (above own relative path : List ℕ) (r : Result (Option (String Global)) AllocError) →
    path ≡ above ++ codes "/" ++ relative → IsDirect relative →
    IfOk r (λ found. IfSome found (λ original.
    (relative ≢ own) × (string_bytes original ≡ above ++ codes "/" ++ own))) →
    IfOk r (λ found. IfSome found (λ original. IsOriginal above own path (string_bytes original)))
reference_is_original above own relative path (Err e) place direct is = tt
reference_is_original above own relative path (Ok None) place direct is = tt
reference_is_original above own relative path (Ok (Some original)) place direct is = record {
  language = relative;
  rest = [];
  path_is = place ∙ sym (append-nil _);
  original_is = is.1 ∙ sym (append-nil _);
  direct = direct;
  whole = inl refl;
  other = is.0;
}

-- the relative path of what has an original
relative_path_is_language_and_rest : (above own path original relative : List ℕ)
    (o : IsOriginal above own path original) →
    path ≡ above ++ codes "/" ++ relative → relative ≡ o.language ++ o.rest
relative_path_is_language_and_rest above own path original relative o from =
    append_cancel_left (above ++ codes "/") relative (o.language ++ o.rest) (sym from ∙ o.path_is ∙ simp append_assoc)

-- what is directly in a folder has no original where it is the reference
pub no_original_of_reference : (above own path original relative : List ℕ) → IsOriginal above own path original →
    path ≡ above ++ codes "/" ++ relative → IsSplitOnceResult 47 relative None → relative ≢ own
no_original_of_reference above own path original relative o from splits same =
    let parts = relative_path_is_language_and_rest above own path original relative o from in
    ⊎_elim (λ none. o.other
    (sym (append-nil o.language) ∙ ap (λ l. o.language ++ l) (sym none) ∙ sym parts ∙ same))
    (λ below. split_after 47 relative o.language below.0 None splits (omega arith)
    (parts ∙ ap (λ rest. o.language ++ rest) below.1) o.direct)
    o.whole

direct_name_has_no_slash : (name rest language : List ℕ) → IsDirect language → language ≢ name ++ 47 ∷ rest
direct_name_has_no_slash name rest language direct is =
    direct (length name) (omega (arith, ap length is, length-append name (47 ∷ rest)))
    (ap (λ l. get_or l (length name) 0) is ∙ get_or-append_seam name 47 rest 0)

-- nor has what leads through the reference
pub no_original_in_reference : (above own path original relative : List ℕ) (name rest : Bor (List ℕ)) →
    IsOriginal above own path original → path ≡ above ++ codes "/" ++ relative → relative ≡ name.now ++ 47 ∷ rest.now →
    IsSplitOnceResult 47 relative (Some (name, rest)) → name.now ≢ own
no_original_in_reference above own path original relative name rest o from cut splits same =
    let parts = relative_path_is_language_and_rest above own path original relative o from in
    ⊎_elim (λ none. direct_name_has_no_slash name.now rest.now o.language o.direct
    (sym (append-nil o.language) ∙ ap (λ l. o.language ++ l) (sym none) ∙ sym parts ∙ cut))
    (λ below. let first = split_after 47 relative o.language below.0 (Some (name, rest)) splits (omega arith)
    (parts ∙ ap (λ l. o.language ++ l) below.1) o.direct in
    o.other (sym first.0 ∙ same))
    o.whole

-- what a test says of two names that are not the same
pub failed_test_means_other_name : (name own : List ℕ) (same : Bool) → same ≡ bytes_eq name own → same ≡ false →
    name ≢ own
failed_test_means_other_name name own same is differs equal =
    let yes = (bytes_eq-Decides name own).1 equal in
    absurd cc

-- and of two that are
pub passed_test_means_same_name : (name own : List ℕ) (same : Bool) → same ≡ bytes_eq name own → same ≡ true →
    name ≡ own
passed_test_means_same_name name own same is equal = (bytes_eq-Decides name own).0 (sym is ∙ equal)
