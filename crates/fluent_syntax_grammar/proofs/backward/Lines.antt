-- The lines of a pattern that was read, with their places, and the shape of the items that they give.
use Rattle.std.proofs.Common.{◌≡◌, ℕ, zero, suc, ◌+◌, ◌-◌, ◌<◌, ◌≤◌, List, [], ◌∷◌, ◌++◌, length, drop, take, get_or}
use Rattle.std.proofs.Common.{Some, None, Bool, true, false, refl, sym, ◌∙◌, subst, ap, arith}
use Rattle.std.specs.Prelude.{◌==◌, ◌⊎◌, nat_lt, slice_get, slice_range}
use Rattle.std.specs.List.{list_all}
use Rattle.std.proofs.lemmas.Option.{slice_get_within, slice_get-get_or}
use Rattle.fluent_syntax_tree.specs.declared.spans.Span.{Span}
use Rattle.fluent_syntax_tree.specs.Tree.{ExpressionTree}
use Rattle.fluent_syntax_grammar.specs.Bytes.{lf, cr, is_space}
use Rattle.fluent_syntax_grammar.specs.Places.{LongestRun, has, has_byte, has_eol, InlineBlank}
use Rattle.fluent_syntax_grammar.specs.Layout.{Piece, run, placed, Ending, lf_at, crlf_at, text_end, Line, Layout}
use Rattle.fluent_syntax_grammar.specs.Lines.{is_run_place, belongs}
use Rattle.fluent_syntax_grammar.proofs.Facts.{byte_exists, same_by_test, byte_that_passes_is_in_text}
use Rattle.fluent_syntax_grammar.proofs.SuffixAt.{SuffixAt, first, first_of_suffix, next_of_suffix}
use Rattle.fluent_syntax_grammar.proofs.backward.Taken.{taken_bytes_are_in_set}
use Rattle.fluent_syntax_grammar.proofs.backward.Shapes.{IsReadExpression}

-- ---- ranges

module _ (t : List ℕ) where
  suffix_at_byte_begins_with_it : (i b : ℕ) → slice_get t i ≡ Some b → SuffixAt t i (b ∷ drop (i + 1) t)
  suffix_at_byte_begins_with_it i b e =
      let l = slice_get_within t i b e in
      let here : SuffixAt t i (drop i t) = record { within = omega arith; rest = refl } in
      let f : first (drop i t) ≡ Some b = sym (first_of_suffix here) ∙ e in
      at_first (drop i t) here f
    where
      at_first : (bs : List ℕ) → SuffixAt t i bs → first bs ≡ Some b → SuffixAt t i (b ∷ drop (i + 1) t)
      at_first [] h f = absurd cc
      at_first (c ∷ cs) h f = let same : c ≡ b = cc in
          record { within = h.within; rest = h.rest ∙ cc (same, sym ((next_of_suffix h).rest)) }

  -- a range begins with the byte at its start
  pub range_begins_with_byte_at_start : (i j b : ℕ) → i < j → slice_get t i ≡ Some b →
      slice_range t i j ≡ b ∷ slice_range t (i + 1) j
  range_begins_with_byte_at_start i j b l e =
      let n : j - i ≡ suc (j - (i + 1)) = omega arith in
      ap (λ n. take n (drop i t)) n ∙ ap (take (suc (j - (i + 1)))) ((suffix_at_byte_begins_with_it i b e).rest)

  pub empty_range_is_empty : (i : ℕ) → slice_range t i i ≡ []
  empty_range_is_empty i = let n : i - i ≡ 0 = omega arith in ap (λ n. take n (drop i t)) n

  -- and ends with the byte before its end
  longer_range_ends_with_next_byte : (n i b : ℕ) → slice_get t (i + n) ≡ Some b →
      slice_range t i ((i + n) + 1) ≡ slice_range t i (i + n) ++ (b ∷ [])
  longer_range_ends_with_next_byte zero i b e =
      let s : i + 0 ≡ i = omega arith in
      let f : slice_get t i ≡ Some b = subst (λ k. slice_get t k ≡ Some b) s e in
      subst (λ k. slice_range t i (k + 1) ≡ slice_range t i k ++ (b ∷ [])) (sym s)
      (range_begins_with_byte_at_start i (i + 1) b (omega arith) f
      ∙ (ap (λ bs. b ∷ bs) (empty_range_is_empty (i + 1)) ∙ ap (λ bs. bs ++ (b ∷ [])) (sym (empty_range_is_empty i))))
  longer_range_ends_with_next_byte (suc n) i b e =
      let l = slice_get_within t (i + suc n) b e in
      let s : (i + 1) + n ≡ i + suc n = omega arith in
      let f : slice_get t ((i + 1) + n) ≡ Some b = subst (λ k. slice_get t k ≡ Some b) (sym s) e in
      let far : i < (i + suc n) + 1 = omega arith in
      let on : i < i + suc n = omega arith in
      let near : i < length t = omega arith in
      let c = place_in_text_has_some_byte i near in
      let r : slice_range t (i + 1) ((i + suc n) + 1) ≡ slice_range t (i + 1) (i + suc n) ++ (b ∷ []) =
      subst (λ k. slice_range t (i + 1) (k + 1) ≡ slice_range t (i + 1) k ++ (b ∷ [])) s
      (longer_range_ends_with_next_byte n (i + 1) b f) in
      range_begins_with_byte_at_start i ((i + suc n) + 1) c.0 far c.1
      ∙ (ap (λ bs. c.0 ∷ bs) r ∙
      ap (λ bs. bs ++ (b ∷ [])) (sym (range_begins_with_byte_at_start i (i + suc n) c.0 on c.1)))
    where
      place_in_text_has_some_byte : (k : ℕ) → k < length t → (b : ℕ) × (slice_get t k ≡ Some b)
      place_in_text_has_some_byte k l = (get_or t k 0, slice_get-get_or t k 0 l)

  pub range_ends_with_its_last_byte : (i j b : ℕ) → i ≤ j → slice_get t j ≡ Some b →
      slice_range t i (j + 1) ≡ slice_range t i j ++ (b ∷ [])
  range_ends_with_its_last_byte i j b l e = let s : i + (j - i) ≡ j = omega arith in
      subst (λ k. slice_range t i (k + 1) ≡ slice_range t i k ++ (b ∷ [])) s
      (longer_range_ends_with_next_byte (j - i) i b (subst (λ k. slice_get t k ≡ Some b) (sym s) e))

  pub range_of_one_byte_is_that_byte : (i b : ℕ) → slice_get t i ≡ Some b → slice_range t i (i + 1) ≡ b ∷ []
  range_of_one_byte_is_that_byte i b e =
      range_begins_with_byte_at_start i (i + 1) b (omega arith) e ∙ ap (λ bs. b ∷ bs) (empty_range_is_empty (i + 1))

  -- each byte of a range is in a set
  pub range_passes_where_each_place_passes : (set : ℕ → Bool) (i j : ℕ) → i ≤ j →
      ((k : ℕ) → i ≤ k → k < j → has t set k ≡ true) →
      list_all set (slice_range t i j) ≡ true
  range_passes_where_each_place_passes set i j l e = at (j - i) i (λ k a b. e k a (omega arith))
    where
      at : (n i : ℕ) → ((k : ℕ) → i ≤ k → k < i + n → has t set k ≡ true) → list_all set (take n (drop i t)) ≡ true
      at zero i e = refl
      at (suc n) i e =
          let l : i < length t = byte_that_passes_is_in_text set t i (e i (omega arith) (omega arith)) in
          taken_bytes_are_in_set set (suc n) (drop i t) i (record { within = omega arith; rest = refl }) e

  pub tested_byte_is_at_place : (c i : ℕ) → has_byte t c i ≡ true → slice_get t i ≡ Some c
  tested_byte_is_at_place c i e = let b = byte_exists (λ b. b == c) (slice_get t i) e in b.1 ∙
      ap Some (same_by_test b.0 c b.2)

-- ---- the places of lines

-- a line end, or the text's end
abbrev pub IsEnd : List ℕ → ℕ → Type 0
IsEnd t i = (has_eol t i ≡ true) ⊎ (slice_get t i ≡ None)

module _ (t : List ℕ) (Joins : Type 0) where
  -- the rest of a line, from its first piece to where its ending begins
  pub data PiecesAt : ℕ → List Piece → ℕ → Type 0 where
    no_piece : {i : ℕ} → IsEnd t i → PiecesAt i [] i
    a_run : {i to j : ℕ} {ps : List Piece} → i < to → LongestRun (is_run_place t) i to → PiecesAt to ps j →
        PiecesAt i (run i to ∷ ps) j
    a_placeable : {i m j : ℕ} {e : ExpressionTree Span} {ps : List Piece} → IsReadExpression t Joins e → PiecesAt m ps j
        → PiecesAt i (placed e ∷ ps) j

  -- an ending, from its place to the next line
  pub data EndingAt : ℕ → Ending → ℕ → Type 0 where
    lf_ends : {i : ℕ} → has_byte t lf i ≡ true → EndingAt i (lf_at i) (i + 1)
    crlf_ends : {i : ℕ} → has_byte t cr i ≡ true → has_byte t lf (i + 1) ≡ true → EndingAt i (crlf_at i) (i + 2)
    text_ends : {i : ℕ} → slice_get t i ≡ None → EndingAt i text_end i

  -- a line that belongs, with its leading spaces
  pub record LineAt (i : ℕ) (l : Line) (j : ℕ) : Type 0 where
    pub first : ℕ
    pub byte : ℕ
    pub end : ℕ
    pub start : l.start ≡ i
    pub spaces : l.spaces ≡ first - i
    pub leading : InlineBlank t i first
    pub in_place : slice_get t first ≡ Some byte
    pub own : belongs t (nat_lt i first) first ≡ true
    pub pieces : PiecesAt first l.pieces end
    pub ending : EndingAt end l.ending j

  pub data LinesAt : ℕ → List Line → Type 0 where
    no_line : {i : ℕ} → LinesAt i []
    a_line : {i j : ℕ} {l : Line} {ls : List Line} → LineAt i l j → LinesAt j ls → LinesAt i (l ∷ ls)

  -- a pattern's source: on its first line, or from the next on, where a line that is not blank is first
  pub data LayoutAt : Layout → Type 0 where
    on_line : {i m j : ℕ} {ps : List Piece} {e : Ending} {ls : List Line} → has t is_space i ≡ false →
        has_eol t i ≡ false → PiecesAt i ps m → EndingAt m e j → LinesAt j ls →
        LayoutAt (record { opening = Some (record { start = i; spaces = 0; pieces = ps; ending = e }); lines = ls })
    below : {i k : ℕ} {ls : List Line} → InlineBlank t i k → has_eol t k ≡ false → LinesAt i ls →
        LayoutAt (record { opening = None; lines = ls })
