-- The rest of a list, item by item.
use Rattle.std.proofs.Common.{◌≡◌, ℕ, suc, ◌+◌, ◌<◌, List, ◌∷◌, drop, length, map, get_or, sym, ◌∙◌, ap, arith}
use Rattle.std.proofs.Math.Seq.{drop-cons}

pub rest_is_item_and_rest : {X : Type 0} (xs : List X) (i n : ℕ) (x : X) → i < length xs → x ≡ get_or xs i x →
    n ≡ i + 1 → drop i xs ≡ x ∷ drop n xs
rest_is_item_and_rest xs i n x l at more =
    let same : n ≡ suc i = omega arith in
    drop-cons xs i x l ∙ (ap (λ y. y ∷ drop (suc i) xs) (sym at) ∙ ap (λ k. x ∷ drop k xs) (sym same))

pub mapped_rest_is_item_and_rest : {X Y : Type 0} (f : X → Y) (xs : List X) (i n : ℕ) (x : X) → i < length xs →
    x ≡ get_or xs i x → n ≡ i + 1 → map f (drop i xs) ≡ f x ∷ map f (drop n xs)
mapped_rest_is_item_and_rest f xs i n x l at more = ap (map f) (rest_is_item_and_rest xs i n x l at more)
