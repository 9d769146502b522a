-- Calls, one after another.
use Rattle.std.proofs.Common.{◌∙◌, ℕ, List, Option, Some, arith, inl, inr, ⊎_elim, subst, sym}
use Rattle.ftl_files.specs.Files.{Changes, Files, GoesOn}

-- each of the first is one of the second
abbrev pub AreSomeOf : (some all : Changes) → Type 0
AreSomeOf some all = (path : List ℕ) (left : Option (List ℕ)) → some path left → all path left

-- one call, and then another
pub GoesOn-trans : (old mid new : Files) (first next all : Changes) → GoesOn old mid first → GoesOn mid new next →
    AreSomeOf first all → AreSomeOf next all → GoesOn old new all
GoesOn-trans old mid new first next all one two is_first is_next = record {
  later = omega (arith, one.later, two.later);
  bytes = λ path. ⊎_elim
      (λ same. ⊎_elim (λ was. inl (same ∙ was)) (λ came. inr (is_first path (new.bytes_at path)
      (subst (first path) (sym same) came))) (one.bytes path))
      (λ came. inr (is_next path (new.bytes_at path) came)) (two.bytes path);
  hold = λ path bytes held. ⊎_elim
      (λ was. ⊎_elim inl (λ came. inr (is_first path (Some bytes) came)) (one.hold path bytes was))
      (λ came. inr (is_next path (Some bytes) came)) (two.hold path bytes held);
  leave = λ path left is. ⊎_elim
      (λ was. ⊎_elim inl (λ came. inr (is_first path left came)) (one.leave path left was))
      (λ came. inr (is_next path left came)) (two.leave path left is);
  since = λ t path left le is. ⊎_elim
      (λ was. ⊎_elim inl (λ came. inr (is_first path left came)) (one.since t path left le was))
      (λ came. inr (is_next path left came)) (two.since t path left (omega (arith, le, one.later)) is);
  keeps = λ t path left le is. two.keeps t path left (omega (arith, le, one.later)) (one.keeps t path left le is);
}
