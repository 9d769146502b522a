-- Blank lines: they belong to a pattern, and none of their items stays where nothing follows them.
use Rattle.std.proofs.Common.{◌≡◌, ℕ, zero, suc, ◌+◌, ◌-◌, ◌<◌, ◌≤◌, List, [], ◌∷◌, ◌++◌, length, take, drop, get_or}
use Rattle.std.proofs.Common.{Option, Some, None, Bool, true, false, refl, sym, subst, arith}
use Rattle.std.specs.Prelude.{slice_get, slice_range, ◌==◌, ◌||◌, ◌&&◌, if◌then◌else◌, min, nat_lt}
use Rattle.std.specs.List.{flat_map}
use Rattle.std.proofs.Math.Seq.{drop-cons}
use Rattle.std.proofs.lemmas.Bool.Decides.{nat_tests}
use Rattle.std.proofs.lemmas.Option.{slice_get-get_or, slice_get_within}
use Rattle.fluent_syntax_tree.specs.declared.edition.Edition.{Edition}
use Rattle.fluent_syntax_grammar.specs.Bytes.{lf, cr, left_brace, space}
use Rattle.fluent_syntax_grammar.specs.Construct.{Read, at_place, chosen, first, given, goes_on, item_and_more}
use Rattle.fluent_syntax_grammar.specs.Construct.{list_ends, passed}
use Rattle.fluent_syntax_grammar.specs.Elements.{Item, cut, is_nonblank, line_items}
use Rattle.fluent_syntax_grammar.specs.Family.{Family}
use Rattle.fluent_syntax_grammar.specs.Grammar.{within}
use Rattle.fluent_syntax_grammar.specs.Layout.{Line, crlf_at, lf_at}
use Rattle.fluent_syntax_grammar.specs.Lines.{belongs, more_lines, more_pieces, own_line}
use Rattle.fluent_syntax_grammar.specs.Places.{BlankBlock, InlineBlank, after_eol, has_byte, has_eol, line, no_line}
use Rattle.fluent_syntax_grammar.proofs.Facts.{byte_exists, same_by_test}
use Rattle.fluent_syntax_grammar.proofs.LineEnds.{no_bytes_no_eol}
use Rattle.fluent_syntax_grammar.proofs.Tests.{false_or_left}
use Rattle.fluent_syntax_parser.proofs.patterns.LineEndings.{line_ending_read}
use Rattle.fluent_syntax_parser.specs.OneLine.{EndsBlank}

-- ---- line ends

pub end_of_eol_means_eol : (a b : Bool) (i k : ℕ) →
    (if a then Some (i + 1) else if b then Some (i + 2) else None) ≡ Some k → (a || b) ≡ true
end_of_eol_means_eol true b i k e = refl
end_of_eol_means_eol false true i k e = refl
end_of_eol_means_eol false false i k e = cc

pub crlf_has_lf : (a b c : Bool) (i k : ℕ) →
    (if a then Some (i + 1) else if b && c then Some (i + 2) else None) ≡ Some k → (k ≡ i + 1 → ⊥) → c ≡ true
crlf_has_lf true b c i k e other = let same : i + 1 ≡ k = cc in absurd (other (sym same))
crlf_has_lf false true true i k e other = refl
crlf_has_lf false true false i k e other = cc
crlf_has_lf false false c i k e other = cc

one_byte_eol_is_lf : (a b : Bool) (i k : ℕ) → (if a then Some (i + 1) else if b then Some (i + 2) else None) ≡ Some k →
    k ≡ i + 1 → a ≡ true
one_byte_eol_is_lf true b i k e same = refl
one_byte_eol_is_lf false true i k e same = let two : i + 2 ≡ k = cc in absurd (omega (arith, two, same))
one_byte_eol_is_lf false false i k e same = cc

-- ---- texts that are blank

module _ (t : List ℕ) (i j : ℕ) (l : i < j) (within : j ≤ length t) where
  pub range_is_first_byte_and_rest : (n : ℕ) → j - i ≡ suc n →
      slice_range t i j ≡ get_or t i 0 ∷ take n (drop (suc i) t)
  range_is_first_byte_and_rest n e = rw (drop-cons t i 0 (omega arith), e) refl

pub lf_is_blank : (t : List ℕ) (i j : ℕ) → j ≡ i + 1 → has_byte t lf i ≡ true → is_nonblank (slice_range t i j) ≡ false
lf_is_blank t i j l e =
    let f = byte_exists (λ c. c == lf) (slice_get t i) e in
    let within = slice_get_within t i f.0 f.1 in
    let same : get_or t i 0 ≡ lf = let h = slice_get-get_or t i 0 within in let b : f.0 ≡ lf =
    same_by_test f.0 lf f.2 in cc in
    let n : j - i ≡ suc 0 = omega arith in
    rw (range_is_first_byte_and_rest t i j (omega arith) (omega arith) 0 n, same) refl

is_nonblank-space : (b : ℕ) (bs : List ℕ) → (b == space) ≡ true → is_nonblank (b ∷ bs) ≡ is_nonblank bs
is_nonblank-space b [] e =
    let other : (b == lf) ≡ false = grind (arith, nat_tests) in
    rw (other, e) refl
is_nonblank-space b (c ∷ bs) e = rw e refl

module _ (t : List ℕ) (k : ℕ) (there : has_byte t lf k ≡ true) where
  place_of_line_end_is_inside_text : k < length t
  place_of_line_end_is_inside_text =
      let f = byte_exists (λ c. c == lf) (slice_get t k) there in slice_get_within t k f.0 f.1

  -- spaces and an LF
  range_of_spaces_is_blank : (n i : ℕ) → n ≡ k - i → i ≤ k → ((j : ℕ) → i ≤ j → j < k → has_byte t space j ≡ true) →
      is_nonblank (slice_range t i (k + 1)) ≡ false
  range_of_spaces_is_blank zero i size l spaces =
      let same : k ≡ i = omega (arith, size, l) in
      lf_is_blank t i (k + 1) (omega (arith, same)) (subst (λ p. has_byte t lf p ≡ true) same there)
  range_of_spaces_is_blank (suc m) i size l spaces =
      let some : i < k = omega (arith, size) in
      let f = byte_exists (λ c. c == space) (slice_get t i) (spaces i (omega arith) some) in
      let same : get_or t i 0 ≡ f.0 =
      let h = slice_get-get_or t i 0 (omega (arith, place_of_line_end_is_inside_text, some)) in let e = f.1 in cc
      in
      rw (
        range_is_first_byte_and_rest t i (k + 1) (omega (arith, some)) (omega (arith, place_of_line_end_is_inside_text))
            (k + 1 - suc i) (omega (arith, some)),
        same,
        is_nonblank-space f.0 (slice_range t (suc i) (k + 1)) f.2,
      )
      (range_of_spaces_is_blank m (suc i) (omega (arith, size)) (omega (arith, some))
      (λ j a b. spaces j (omega (arith, a)) b))

-- ---- lines that are blank

-- a blank line from i to m, whose line end begins at k
abbrev blank_line : (i k m : ℕ) → Line
blank_line i k m =
    record { start = i; spaces = k - i; pieces = []; ending = if m == k + 1 then lf_at k else crlf_at k }

module _ (edition : Edition) (t : List ℕ) (common : Option ℕ) (i k m : ℕ) (blank : InlineBlank t i k)
    (eol : after_eol t k ≡ Some m) (rest : List Item) (none : cut t rest ≡ []) where
  blank_line_items_cut : (c : Option ℕ) → m ≡ k + 1 →
      cut t (line_items edition c (record { start = i; spaces = k - i; pieces = []; ending = lf_at k }) ++ rest) ≡ []
  blank_line_items_cut None same =
      let there = one_byte_eol_is_lf (has_byte t lf k) _ k m eol same in
      let forward = blank.forward in
      let empty = range_of_spaces_is_blank t k there 0 (i + (k - i)) (omega (arith, forward)) (omega (arith, forward))
      (λ j a b. absurd (omega (arith, a, b, forward))) in
      rw (none, empty) refl
  blank_line_items_cut (Some c) same =
      let there = one_byte_eol_is_lf (has_byte t lf k) _ k m eol same in
      let forward = blank.forward in
      let empty =
      range_of_spaces_is_blank t k there (k - (i + min (k - i) c)) (i + min (k - i) c) refl (omega (arith, forward))
      (λ j a b. blank.each j (omega (arith, a)) b) in
      rw (none, empty) refl

  items_of_blank_line_are_cut_by_test : (b : Bool) → (m == k + 1) ≡ b →
      cut t (line_items edition common (record {
        start = i;
        spaces = k - i;
        pieces = [];
        ending = if b then lf_at k else crlf_at k;
      }) ++ rest) ≡ []
  items_of_blank_line_are_cut_by_test true is = blank_line_items_cut common (same_by_test m (k + 1) is)
  items_of_blank_line_are_cut_by_test false is =
      let other : m ≡ k + 1 → ⊥ = λ same. grind (arith, nat_tests) in
      let empty = lf_is_blank t (k + 1) (k + 2) (omega arith)
      (crlf_has_lf (has_byte t lf k) (has_byte t cr k) _ k m eol other) in
      rw (none, empty) refl

  items_of_one_blank_line_are_cut : cut t (line_items edition common (blank_line i k m) ++ rest) ≡ []
  items_of_one_blank_line_are_cut = items_of_blank_line_are_cut_by_test (m == k + 1) refl

module _ (t : List ℕ) (R : Family) where
  pub no_pieces_are_read_at_eol : (i : ℕ) (o : Option ℕ) → slice_get t i ≡ o → has_eol t i ≡ true →
      more_pieces t R i (Read [] i)
  no_pieces_are_read_at_eol i None e eol = list_ends (chosen (rw e given))
  no_pieces_are_read_at_eol i (Some b) e eol = list_ends (chosen (rw e (chosen (first eol given))))

module _ (edition : Edition) (t : List ℕ) where
  place_of_eol_has_byte : (k : ℕ) (o : Option ℕ) → slice_get t k ≡ o → has_eol t k ≡ true →
      (b : ℕ) × (slice_get t k ≡ Some b)
  place_of_eol_has_byte k None e eol = let f = rw e at eol in cc
  place_of_eol_has_byte k (Some b) e eol = (b, e)

  line_with_eol_belongs_to_pattern : (k : ℕ) (b : Bool) → has_eol t k ≡ true → belongs t b k ≡ true
  line_with_eol_belongs_to_pattern k true eol = rw eol refl
  line_with_eol_belongs_to_pattern k false eol = rw eol refl

  -- the lines of a blank block
  blank_lines_of_block : (i j : ℕ) → BlankBlock t i j → List Line
  blank_lines_of_block i j (no_line blank none) = []
  blank_lines_of_block i j (line {k = k} {m = m} blank eol more) = blank_line i k m ∷ blank_lines_of_block m j more

  blank_lines_of_block_are_read : (R : Family) (i j end : ℕ) (block : BlankBlock t i j) →
      more_lines t R j (Read [] end) → more_lines t R i (Read (blank_lines_of_block i j block) end)
  unfolding blank_lines_of_block
  blank_lines_of_block_are_read R i j end (no_line blank none) last = last
  blank_lines_of_block_are_read R i j end (line {k = k} {m = m} blank eol more) last =
      let there = end_of_eol_means_eol (has_byte t lf k) _ k m eol in
      let byte = place_of_eol_has_byte k (slice_get t k) refl there in
      item_and_more
      (own_line blank byte.1 (line_with_eol_belongs_to_pattern k (nat_lt i k) there)
      (goes_on
      (goes_on at_place
      (goes_on (passed blank)
      (goes_on at_place
      (goes_on (no_pieces_are_read_at_eol t R k (slice_get t k) refl there)
      (goes_on (line_ending_read t k m eol)
      given)))))
      given))
      (blank_lines_of_block_are_read R m j end more last)

  items_of_blank_lines_are_cut : (i j : ℕ) (block : BlankBlock t i j) (common : Option ℕ) →
      cut t (flat_map (line_items edition common) (blank_lines_of_block i j block)) ≡ []
  unfolding blank_lines_of_block
  items_of_blank_lines_are_cut i j (no_line blank none) common = refl
  items_of_blank_lines_are_cut i j (line {k = k} {m = m} blank eol more) common =
      items_of_one_blank_line_are_cut edition t common i k m blank eol
      (flat_map (line_items edition common) (blank_lines_of_block m j more))
      (items_of_blank_lines_are_cut m j more common)

  -- All lines of the pattern that are left from the place on are blank, and it ends there. So nothing nests in them.
  pub record BlankRest (i end : ℕ) : Type 0 where
    pub lines : List Line
    pub read : (n : ℕ) → more_lines t (within edition t n) i (Read lines end)
    pub blank : (common : Option ℕ) → cut t (flat_map (line_items edition common) lines) ≡ []

  -- the blank lines of a blank block, where no line of a pattern follows them
  pub end_after_blanks_has_blank_rest : (i end : ℕ) → EndsBlank edition t i end → BlankRest i end
  end_after_blanks_has_blank_rest i end ends = record {
    lines = blank_lines_of_block i ends.place ends.block;
    read = λ n. blank_lines_of_block_are_read (within edition t n) i ends.place end ends.block (ends.none n);
    blank = items_of_blank_lines_are_cut i ends.place ends.block;
  }

-- ---- no blank line comes after a pattern

module _ (t : List ℕ) {i k : ℕ} (blank : InlineBlank t i k) where
  pub block_at_no_byte_is_empty : slice_get t k ≡ None → BlankBlock t k k
  block_at_no_byte_is_empty end =
      let no_spaces : InlineBlank t k k = record {
        forward = omega arith;
        each = λ j a b. absurd (omega (arith, a, b));
        longest = blank.longest;
      } in
      let no_eol : has_eol t k ≡ false = rw end refl in
      no_line no_spaces (no_bytes_no_eol (has_byte t lf k) (has_byte t cr k && has_byte t lf (k + 1)) _ _ no_eol)

  pub block_before_other_line_is_empty : (indented : Bool) → belongs t indented k ≡ false → BlankBlock t i i
  block_before_other_line_is_empty true other =
      no_line blank (no_bytes_no_eol (has_byte t lf k) _ _ _ (false_or_left (has_eol t k) _ other))
  block_before_other_line_is_empty false other =
      let no_brace = false_or_left (has_eol t k || has_byte t left_brace k) _ other in
      no_line blank (no_bytes_no_eol (has_byte t lf k) _ _ _ (false_or_left (has_eol t k) _ no_brace))
