-- How errors move, replacement by replacement.
use Rattle.std.proofs.Common.{◌≡◌, ℕ, ◌+◌, ◌-◌, ◌<◌, ◌≤◌, List, length, drop, get_or, Bool, true, false, nat_le}
use Rattle.std.proofs.Common.{Option, Some, None, option_map, string_bytes, refl, sym, ◌∙◌, ap, arith}
use Rattle.std.specs.Prelude.{if◌then◌else◌}
use Rattle.std.proofs.lemmas.Bool.Decides.{nat_tests}
use Rattle.std.proofs.lemmas.List.{drop_all}
use Rattle.fluent_syntax_grammar.specs.Tiling.{Fault}
use Rattle.fluent_syntax_edits.specs.Passed.{MoveBy, junk_end}
use Rattle.fluent_syntax_edits.specs.SeveralEdits.{moved_by, shifted_fault}
use Rattle.fluent_syntax_edits.specs.declared.drafts.Replacement.{Replacement}
use Rattle.fluent_syntax_edits.specs.declared.moved_errors.Passed.{Passed}
use Rattle.fluent_syntax_edits.proofs.Dropped.{rest_is_item_and_rest}

module _ (rs : List Replacement) (from to : ℕ) (f : Fault) where
  -- the next one starts before the end of the junk
  pub error_moves_by_next : (i n : ℕ) (r : Replacement) → i < length rs → r ≡ get_or rs i r → n ≡ i + 1 →
      r.span.start < f.slice.end →
      moved_by from to (drop i rs) f
      ≡ moved_by r.span.end (to + (r.span.start - from) + length (string_bytes r.text)) (drop n rs) f
  error_moves_by_next i n r l at more before =
      let passes : nat_le f.slice.end r.span.start ≡ false = grind (arith, nat_tests) in
      ap (λ xs. moved_by from to xs f) (rest_is_item_and_rest rs i n r l at more)
      ∙ ap (λ (b : Bool).
      if b then shifted_fault from to f
      else moved_by r.span.end (to + (r.span.start - from) + length (string_bytes r.text)) (drop n rs) f)
      passes

  -- it does not
  pub error_moves_no_more : (i : ℕ) (r : Replacement) → i < length rs → r ≡ get_or rs i r →
      f.slice.end ≤ r.span.start → moved_by from to (drop i rs) f ≡ shifted_fault from to f
  error_moves_no_more i r l at after =
      let stays : nat_le f.slice.end r.span.start ≡ true = grind (arith, nat_tests) in
      ap (λ xs. moved_by from to xs f) (rest_is_item_and_rest rs i (i + 1) r l at refl)
      ∙ ap (λ (b : Bool).
      if b then shifted_fault from to f
      else moved_by r.span.end (to + (r.span.start - from) + length (string_bytes r.text)) (drop (i + 1) rs) f)
      stays

  -- there is no next one
  pub error_moves_by_none : (i : ℕ) → length rs ≤ i → moved_by from to (drop i rs) f ≡ shifted_fault from to f
  error_moves_by_none i l = ap (λ xs. moved_by from to xs f) (drop_all i rs l)

pub shifted_error_is_moved : (rs : List Replacement) (p : Passed) (place : ℕ) (o : Option Fault) →
    p.end ≡ junk_end o place → MoveBy rs p →
    option_map (shifted_fault p.from p.to) o ≡ option_map (moved_by 0 0 rs) o
shifted_error_is_moved rs p place None e by = refl
shifted_error_is_moved rs p place (Some f) e by = ap Some (sym (by f (sym e)))
