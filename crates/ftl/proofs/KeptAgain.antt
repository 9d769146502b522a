-- What is kept of texts of which something was kept.
use Rattle.std.proofs.Common.{◌≡◌, ◌≢◌, ◌∙◌, ◌&&◌, ℕ, List, [], ◌∷◌, Bool, true, false, inl, inr, refl, sym, ap, subst}
use Rattle.std.specs.Prelude.{not}
use Rattle.fluent_syntax_tree.specs.Entry.{BodyTree}
use Rattle.fluent_syntax_tree.specs.declared.edition.Edition.{Edition}
use Rattle.fluent_syntax_tree.specs.declared.edition.Edition.TheVariants.{One, Two}
use Rattle.fluent_syntax_grammar.specs.Body.{faults}
use Rattle.fluent_syntax_grammar.specs.RoundTrip.{ReadsAs, tree_of}
use Rattle.fluent_syntax_grammar.specs.Tiling.{Tile, Tiling}
use Rattle.fluent_syntax_grammar.specs.Written.{Text, written}
use Rattle.fluent_syntax_grammar.proofs.OneTiling.{tilings_of_text_are_same}
use Rattle.fluent_syntax_grammar.proofs.marks.Again.{text_is_written_again}
use Rattle.fluent_syntax_grammar.proofs.marks.Entries.{written_is_read_back}
use Rattle.ftl.specs.Answer.{normal_text}
use Rattle.ftl.specs.BlankLines.{HasGaps, HasPlaces, IsKept, Keeps, KeepsAgain, ReadsAlike, gaps, places_of}
use Rattle.ftl.specs.BlankLines.{with_line_ends}
use Rattle.ftl.specs.Lossless.{is_lossless, reread_tree}
use Rattle.ftl.specs.declared.blank_lines.Gap.{Gap}

-- ---- nothing is put in twice

bool_and_its_not_is_false : (b : Bool) → (b && not b) ≡ false
bool_and_its_not_is_false true = refl
bool_and_its_not_is_false false = refl

equal_gaps_have_no_places : (xs : List Gap) → places_of xs xs ≡ []
equal_gaps_have_no_places [] = refl
equal_gaps_have_no_places (x ∷ xs) = rw (bool_and_its_not_is_false x.is_blank) (equal_gaps_have_no_places xs)

no_line_ends : (t : Text) → with_line_ends 0 t [] ≡ t
no_line_ends [] = refl
no_line_ends (b ∷ bytes) = refl

module _ (edition : Edition) where
  pub gaps_of_text_are_unique : (t : Text) (xs ys : List Gap) → HasGaps edition t xs → HasGaps edition t ys → xs ≡ ys
  gaps_of_text_are_unique t xs ys (tiles, a, e) (others, b, f) =
      e ∙ ap (gaps t) (tilings_of_text_are_same edition t tiles others a b) ∙ sym f

  places_of_text_are_unique : (t : Text) (there : List Gap) (ps qs : List ℕ) → HasPlaces edition t there ps →
      HasPlaces edition t there qs → ps ≡ qs
  places_of_text_are_unique t there ps qs (xs, a, e) (ys, b, f) =
      e ∙ (ap (λ zs. places_of zs there) (gaps_of_text_are_unique t xs ys a b) ∙ sym f)

  -- of whatever keeps the text, the gaps and the places are these
  kept_text_has_its_places : (t normal kept : Text) (there : List Gap) (ps : List ℕ) (a : Keeps edition t normal kept) →
      HasGaps edition normal there → HasPlaces edition t there ps → (a.there ≡ there) × (a.places ≡ ps)
  kept_text_has_its_places t normal kept there ps a are places =
      let same = gaps_of_text_are_unique normal a.there there a.gaps_are are in
      let own = subst (λ g. HasPlaces edition t g a.places) same a.places_are in
      (same, places_of_text_are_unique t there a.places ps own places)

  -- there is one kept text at most
  text_that_keeps_is_unique : (t normal kept other : Text) → Keeps edition t normal kept →
      Keeps edition t normal other → other ≡ kept
  text_that_keeps_is_unique t normal kept other a b =
      let same = kept_text_has_its_places t normal other a.there a.places b a.gaps_are a.places_are in
      b.is_made ∙ (ap (with_line_ends 0 normal) same.1 ∙ sym a.is_made)

  kept_text_is_the_one_that_keeps : (t normal kept other : Text) → Keeps edition t normal kept →
      IsKept edition t normal other → other ≡ kept
  kept_text_is_the_one_that_keeps t normal kept other a (inl b) = text_that_keeps_is_unique t normal kept other a b
  kept_text_is_the_one_that_keeps t normal kept other a (inr b) = absurd (b.1 kept a)

  -- one text is kept
  pub kept_text_is_unique : (t normal kept other : Text) → IsKept edition t normal kept →
      IsKept edition t normal other → other ≡ kept
  kept_text_is_unique t normal kept other (inl a) b = kept_text_is_the_one_that_keeps t normal kept other a b
  kept_text_is_unique t normal kept other (inr a) (inl b) = absurd (a.1 other b)
  kept_text_is_unique t normal kept other (inr a) (inr b) = b.0 ∙ sym a.0

  -- a kept text is what is kept of it, and a text is what is kept of it where it is its normal form
  kept_text_keeps_itself : (t normal kept : Text) → Keeps edition t normal kept → Keeps edition kept normal kept
  kept_text_keeps_itself t normal kept a = record {
    there = a.there;
    places = a.places;
    gaps_are = a.gaps_are;
    places_are = a.settled;
    is_made = a.is_made;
    reads = a.reads;
    settled = a.settled;
  }

  tiled_text_keeps_itself : (t : Text) (tiles : List Tile) → Tiling edition t tiles → Keeps edition t t t
  tiled_text_keeps_itself t tiles tiling =
      let found : List Gap = gaps t tiles in
      let are : HasGaps edition t found = (tiles, tiling, refl) in
      let places : HasPlaces edition t found [] = (found, are, sym (equal_gaps_have_no_places found)) in
      record {
        there = found;
        places = [];
        gaps_are = are;
        places_are = places;
        is_made = sym (no_line_ends t);
        reads = (tiles, tiles, tiling, tiling, refl);
        settled = places;
      }

  -- ---- the text that was made

  module _ (t normal made : Text) (there : List Gap) (places : List ℕ) (gaps_are : HasGaps edition normal there)
      (places_are : HasPlaces edition t there places) (is_made : made ≡ with_line_ends 0 normal places) where
    pub made_text_that_reads_alike_is_kept : HasPlaces edition made there places → ReadsAlike edition made normal →
        IsKept edition t normal made
    made_text_that_reads_alike_is_kept settled reads = inl (record {
      there = there;
      places = places;
      gaps_are = gaps_are;
      places_are = places_are;
      is_made = is_made;
      reads = reads;
      settled = settled;
    })

    -- what is kept could only be that
    pub normal_is_kept_if_made_reads_otherwise : (HasPlaces edition made there places → ReadsAlike edition made normal →
        ⊥) → IsKept edition t normal normal
    normal_is_kept_if_made_reads_otherwise not = inr (
      refl,
      λ other a.
          let same = kept_text_has_its_places t normal other there places a gaps_are places_are in
          let same_text = a.is_made ∙ (ap (with_line_ends 0 normal) same.1 ∙ sym is_made) in
          let settled = subst (λ g. HasPlaces edition other g a.places) same.0 a.settled in
          not (subst (λ u. HasPlaces edition u there places) same_text
          (subst (HasPlaces edition other there) same.1 settled))
          (subst (λ u. ReadsAlike edition u normal) same_text a.reads),
    )

    -- other places in what was made
    pub normal_is_kept_if_places_change : (now : List ℕ) → HasPlaces edition made there now → now ≢ places →
        IsKept edition t normal normal
    normal_is_kept_if_places_change now are other = normal_is_kept_if_made_reads_otherwise
        (λ settled reads. other (places_of_text_are_unique made there now places are settled))

  -- ---- a normal form that reads as a tree, and is its text

  module _ (t normal : Text) (tree : BodyTree Text) (reads : ReadsAs edition normal tree)
      (is_written : normal ≡ written false tree) where
    normal_text_has_the_tree : (tiles : List Tile) → Tiling edition normal tiles → tree_of normal tiles ≡ tree
    normal_text_has_the_tree tiles tiling =
        ap (tree_of normal) (tilings_of_text_are_same edition normal tiles reads.tiles tiling reads.tiling) ∙ reads.same

    kept_text_has_the_tree : (kept : Text) → IsKept edition t normal kept → (tiles : List Tile) →
        Tiling edition kept tiles → tree_of kept tiles ≡ tree
    kept_text_has_the_tree kept (inl a) tiles tiling =
        let (kept_tiles, normal_tiles, kept_tiling, normal_tiling, same) = a.reads in
        ap (tree_of kept) (tilings_of_text_are_same edition kept tiles kept_tiles tiling kept_tiling)
        ∙ (same ∙ normal_text_has_the_tree normal_tiles normal_tiling)
    kept_text_has_the_tree kept (inr a) tiles tiling =
        subst (λ k. (tiles : List Tile) → Tiling edition k tiles → tree_of k tiles ≡ tree)
        (sym a.0) normal_text_has_the_tree
        tiles tiling

    kept_text_is_kept_again : (kept again : Text) → IsKept edition t normal kept → IsKept edition kept normal again →
        again ≡ kept
    kept_text_is_kept_again kept again (inl a) is =
        kept_text_is_the_one_that_keeps kept normal kept again (kept_text_keeps_itself t normal kept a) is
    kept_text_is_kept_again kept again (inr a) is =
        let same = subst (λ k. IsKept edition k normal again) a.0 is in
        kept_text_is_the_one_that_keeps normal normal normal again
        (tiled_text_keeps_itself normal reads.tiles reads.tiling) same ∙ sym a.0

    kept_text_has_same_normal_text : (kept : Text) → IsKept edition t normal kept → (tiles : List Tile) →
        Tiling edition kept tiles → normal_text kept tiles ≡ normal
    kept_text_has_same_normal_text kept is tiles tiling =
        ap (written false) (kept_text_has_the_tree kept is tiles tiling) ∙ sym is_written

-- ---- the law

normal_text_reads_as_tree : (edition : Edition) (t : Text) (tiles : List Tile) → Tiling edition t tiles →
    faults tiles ≡ [] → is_lossless edition (tree_of t tiles) ≡ true →
    ReadsAs edition (normal_text t tiles) (reread_tree edition (tree_of t tiles))
    × (normal_text t tiles ≡ written false (reread_tree edition (tree_of t tiles)))
normal_text_reads_as_tree One t tiles tiling clean lossless =
    let law = text_is_written_again t tiles tiling lossless in (law.0, sym (law.2 clean))
normal_text_reads_as_tree Two t tiles tiling clean lossless =
    (written_is_read_back Two (tree_of t tiles) false lossless, refl)

pub keeping_is_idempotent : (t : Text) → KeepsAgain t
keeping_is_idempotent t edition tiles tiling clean lossless kept is others others_tiling =
    let normal = normal_text t tiles in
    let tree = reread_tree edition (tree_of t tiles) in
    let (reads, is_written) = normal_text_reads_as_tree edition t tiles tiling clean lossless in
    record {
      reads_as = kept_text_has_the_tree edition t normal tree reads is_written kept is others others_tiling;
      same_normal = kept_text_has_same_normal_text edition t normal tree reads is_written kept is others others_tiling;
      settled = λ again so. kept_text_is_kept_again edition t normal tree reads is_written kept again is so;
    }
