-- A part of a text that is trimmed is no longer than it was.
use Rattle.std.proofs.Common.{ℕ, ◌-◌, ◌≤◌, List, length, arith, length-drop}
use Rattle.std.specs.Prelude.{slice_range}
use Rattle.std.proofs.lemmas.List.{length-take}
use Rattle.fluent_syntax_tree.specs.Text.{trimmed_len}
use Rattle.fluent_syntax_tree.proofs.Trimmed.{trimmed_len_below-le}

pub trimmed_len_is_bounded : (t : List ℕ) (from to : ℕ) → trimmed_len (slice_range t from to) ≤ length t - from
trimmed_len_is_bounded t from to =
    let part = trimmed_len_below-le (slice_range t from to) (length (slice_range t from to)) in
    omega (arith, part, length-take {A = ℕ}, length-drop {A = ℕ})
