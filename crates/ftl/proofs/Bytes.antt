-- Several reads or writes after one another, as one.
use Rattle.std.proofs.Common.{◌≡◌, ℕ, List, [], ◌++◌, Option, Some, None, IfSome, sym, ap, ◌∙◌, append_assoc}
use Rattle.std.proofs.lemmas.List.{append-nil}
use Rattle.std.specs.Io.KnownBytes.{Appends, Consumes, IsAtEnd}

pub Appends-nothing : (a : Option (List ℕ)) → Appends a a []
Appends-nothing None = tt
Appends-nothing (Some xs) = sym (append-nil xs)

pub Appends-more : (a b c : Option (List ℕ)) (xs ys : List ℕ) → Appends a b xs → Appends b c ys → Appends a c (xs ++ ys)
Appends-more None b c xs ys h k = tt
Appends-more (Some u) None c xs ys h k = absurd h
Appends-more (Some u) (Some v) None xs ys h k = absurd k
Appends-more (Some u) (Some v) (Some w) xs ys h k = k ∙ ap (λ l. l ++ ys) h ∙ append_assoc u xs ys

pub Consumes-more : (a b c : Option (List ℕ)) (xs ys : List ℕ) → Consumes a b xs → Consumes b c ys →
    Consumes a c (xs ++ ys)
Consumes-more None b c xs ys h k = tt
Consumes-more (Some u) None c xs ys h k = absurd h
Consumes-more (Some u) (Some v) None xs ys h k = absurd k
Consumes-more (Some u) (Some v) (Some w) xs ys h k = h ∙ ap (λ l. xs ++ l) k ∙ sym (append_assoc xs ys w)

-- what was read up to the end is all that there was
pub Consumes-end : (a b c : Option (List ℕ)) (xs ys : List ℕ) → Consumes a b xs → Consumes b c ys → ys ≡ [] →
    IsAtEnd c → IfSome a (λ bytes. xs ≡ bytes)
Consumes-end None b c xs ys h k e end = tt
Consumes-end (Some u) None c xs ys h k e end = absurd h
Consumes-end (Some u) (Some v) None xs ys h k e end = absurd k
Consumes-end (Some u) (Some v) (Some w) xs ys h k e end =
    sym (h ∙ ap (λ l. xs ++ l) (k ∙ ap (λ l. l ++ w) e ∙ end) ∙ append-nil xs)
