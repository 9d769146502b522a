use Rattle.std.proofs.Common.{◌≡◌, ◌++◌, ◌+◌, ◌<◌, ◌≤◌, ◌∙◌, ℕ, List, [], ◌∷◌, zero, suc, ap, arith, append_assoc, drop}
use Rattle.std.proofs.Common.{get_or, length, refl, sym}
use Rattle.std.proofs.Math.Seq.{drop-nil}
use Rattle.std.proofs.lemmas.List.{append-nil, drop_more}
use Rattle.std.specs.Prelude.{min}
use Rattle.ftl.specs.BlankLines.{place_in, places_of}
use Rattle.ftl.specs.declared.blank_lines.Gap.{Gap}
use Rattle.ftl.proofs.blank_lines.places_of.Goals as goal

places_grow_by_next_gap : (xs ys : List Gap) (i : ℕ) (d e : Gap) (before now all : List ℕ) → i < length xs →
    i < length ys → now ≡ before ++ place_in (get_or xs i d) (get_or ys i e) →
    before ++ places_of (drop i xs) (drop i ys) ≡ all →
    now ++ places_of (drop (i + 1) xs) (drop (i + 1) ys) ≡ all
places_grow_by_next_gap xs ys i d e before now all a b is so =
    let x = get_or xs i d in
    let y = get_or ys i e in
    let more = places_of (drop (i + 1) xs) (drop (i + 1) ys) in
    let step : places_of (drop i xs) (drop i ys) ≡ place_in x y ++ more =
    ap (λ zs. places_of zs (drop i ys)) (drop_more xs i d a)
    ∙ ap (places_of (x ∷ drop (i + 1) xs)) (drop_more ys i e b) in
    ap (λ ps. ps ++ more) is
    ∙ (append_assoc before (place_in x y) more ∙ (ap (λ ps. before ++ ps) (sym step) ∙ so))

no_gaps_there_have_no_places : (xs : List Gap) → places_of xs [] ≡ []
no_gaps_there_have_no_places [] = refl
no_gaps_there_have_no_places (x ∷ xs) = refl

no_places_are_past_shorter_list : (xs ys : List Gap) (i : ℕ) → min (length xs) (length ys) ≤ i →
    places_of (drop i xs) (drop i ys) ≡ []
no_places_are_past_shorter_list [] ys i h = ap (λ zs. places_of zs (drop i ys)) (drop-nil i)
no_places_are_past_shorter_list (x ∷ xs) [] i h =
    ap (places_of (drop i (x ∷ xs))) (drop-nil i) ∙ no_gaps_there_have_no_places (drop i (x ∷ xs))
no_places_are_past_shorter_list (x ∷ xs) (y ∷ ys) zero h = absurd (omega (arith, h))
no_places_are_past_shorter_list (x ∷ xs) (y ∷ ys) (suc i) h = no_places_are_past_shorter_list xs ys i (omega (arith, h))

pub loop-index-preserved : goal.loop-index-preserved
loop-index-preserved c = record {
  rest = places_grow_by_next_gap _ _ c.loop-index.index _ _ _ _ _ (omega arith) (omega arith) c.in_ok-add_place.ensures
      c.loop-index.invariant.rest;
}

pub returns : goal.returns
returns c =
    let w = c.args.wanted.now in
    let t = c.args.there.now in
    let i = c.loop-index.index in
    let none = no_places_are_past_shorter_list w t i (omega arith) in
    sym (append-nil c.loop-index.places.items)
    ∙ (ap (λ ps. c.loop-index.places.items ++ ps) (sym none) ∙ c.loop-index.invariant.rest)
