-- Comments, read forwards.
use Rattle.std.proofs.Common.{◌≡◌, ◌≢◌, ℕ, suc, ◌+◌, List, [], ◌∷◌, ◌++◌, length, map, Some, None, Bool, true, false}
use Rattle.std.proofs.Common.{refl, sym, ◌∙◌, subst, ap, arith}
use Rattle.std.specs.Prelude.{slice_get, ◌==◌, ◌&&◌, ◌||◌, not}
use Rattle.std.specs.List.{list_all}
use Rattle.fluent_syntax_tree.specs.Entry.{entry_map, comment, Level, regular, group, resource}
use Rattle.fluent_syntax_tree.specs.Spans.{bytes_at}
use Rattle.fluent_syntax_tree.specs.declared.spans.Span.{Span}
use Rattle.fluent_syntax_grammar.specs.PatternTexts.{is_empty}
use Rattle.fluent_syntax_grammar.specs.Bytes.{lf, cr, space}
use Rattle.fluent_syntax_grammar.specs.Places.{LongestRun, holds, is_line_place}
use Rattle.fluent_syntax_grammar.specs.Construct.{peek}
use Rattle.fluent_syntax_grammar.specs.Tokens.{optional_eol}
use Rattle.fluent_syntax_grammar.specs.Comments.{level_of, hashes, comment_rest, comment_line, comment_lines}
use Rattle.fluent_syntax_grammar.specs.Comments.{other_level, one_more, comment_entry}
use Rattle.fluent_syntax_grammar.specs.Written.{Text, has_lf, last_of, is_last, is_nonblank_line, hashes_of}
use Rattle.fluent_syntax_grammar.specs.Readable.{are_lines}
use Rattle.fluent_syntax_grammar.specs.Canonical.{is_plain_line, is_plain_comment}
use Rattle.fluent_syntax_grammar.proofs.Facts.{and_gives_left, and_gives_right, one_and_one_on_is_two_on}
use Rattle.fluent_syntax_grammar.proofs.Stretches.{run_ends_here, run_goes_on}
use Rattle.fluent_syntax_grammar.proofs.SuffixAt.{SuffixAt, first, first_of_suffix, next_of_suffix, rest_past_front}
use Rattle.fluent_syntax_grammar.proofs.SuffixAt.{test_of_suffix}
use Rattle.fluent_syntax_grammar.proofs.forward.Reading.{Reads, Passes, reads_bind, yields_reads_its_view, reads_peek}
use Rattle.fluent_syntax_grammar.proofs.forward.Reading.{here_reads_as_part_at_place, passes_then}
use Rattle.fluent_syntax_grammar.proofs.forward.Reading.{skip_passes_over_relation, token_passes_its_byte}
use Rattle.fluent_syntax_grammar.proofs.forward.Reading.{span_reads_its_bytes}
use Rattle.fluent_syntax_grammar.proofs.marks.WrittenEntries.{doubled, after_hashes, comment_bytes}
use Rattle.fluent_syntax_grammar.proofs.Tests.{false_or_left, false_or_right, not_true_is_false}

-- ---- the end of a line

doubled_ends_line : (t : List ℕ) (b : Bool) (i : ℕ) (tail : List ℕ) → SuffixAt t i (doubled b tail) →
    is_line_place t i ≡ false
doubled_ends_line t false i tail l = rw (first_of_suffix l) refl
doubled_ends_line t true i tail l = rw (first_of_suffix l, first_of_suffix (next_of_suffix l)) refl

optional_eol_passes_doubled : (t : List ℕ) (b : Bool) (i : ℕ) (tail : List ℕ) → SuffixAt t i (doubled b tail) →
    Passes t (optional_eol t) i tail
optional_eol_passes_doubled t false i tail l =
    reads_peek (Some (i + 1)) (rw (first_of_suffix l) refl)
    (skip_passes_over_relation {j = i + 1} (record { there = refl }) (next_of_suffix l))
optional_eol_passes_doubled t true i tail l =
    reads_peek (Some (i + 2)) (rw (first_of_suffix l, first_of_suffix (next_of_suffix l)) refl)
    (skip_passes_over_relation {j = i + 2} (record { there = refl })
    (subst (λ n. SuffixAt t n tail) (one_and_one_on_is_two_on i) (next_of_suffix (next_of_suffix l))))

-- no line end begins at the byte
byte_is_line_place : (t : List ℕ) (i x : ℕ) (bs : List ℕ) → (x == lf) ≡ false →
    ((x == cr) && holds (λ b. b == lf) (first bs)) ≡ false → SuffixAt t i (x ∷ bs) → is_line_place t i ≡ true
byte_is_line_place t i x bs e f l = rw (first_of_suffix l, first_of_suffix (next_of_suffix l), e, f) refl

and_with_false_is_false : (b : Bool) (c : Bool) → c ≡ false → (b && c) ≡ false
and_with_false_is_false true c e = e
and_with_false_is_false false c e = refl

doubled_lf_begins_with_no_lf : (b : Bool) (tail : List ℕ) → (b && holds (λ b. b == lf) (first (doubled b tail))) ≡ false
doubled_lf_begins_with_no_lf true tail = refl
doubled_lf_begins_with_no_lf false tail = refl

-- a line reaches to its end
suffix_line_is_longest_run : (t line tail : List ℕ) (i : ℕ) → has_lf line ≡ false →
    SuffixAt t i (line ++ doubled (is_last cr (last_of None line)) tail) →
    LongestRun (is_line_place t) i (i + length line)
suffix_line_is_longest_run t [] tail i e l = let s : i ≡ i + 0 = omega arith in
    subst (λ n. LongestRun (is_line_place t) i n) s (run_ends_here (is_line_place t) i
    (doubled_ends_line t false i tail l))
suffix_line_is_longest_run t (x ∷ []) tail i e l =
    let n = next_of_suffix l in
    run_goes_on (is_line_place t) i (i + 1)
    (byte_is_line_place t i x (doubled (x == cr) tail) (false_or_left (x == lf) false e)
    (doubled_lf_begins_with_no_lf (x == cr) tail) l)
    (run_ends_here (is_line_place t) (i + 1) (doubled_ends_line t (x == cr) (i + 1) tail n))
suffix_line_is_longest_run t (x ∷ y ∷ xs) tail i e l =
    let s : (i + 1) + length (y ∷ xs) ≡ i + length (x ∷ y ∷ xs) = omega arith in
    let more = false_or_right (x == lf) (has_lf (y ∷ xs)) e in
    subst (λ n. LongestRun (is_line_place t) i n) s
    (run_goes_on (is_line_place t) i
    _ (byte_is_line_place t i x _ (false_or_left (x == lf) (has_lf (y ∷ xs)) e)
    (and_with_false_is_false (x == cr) (y == lf) (false_or_left (y == lf) (has_lf xs) more)) l)
    (suffix_line_is_longest_run t (y ∷ xs) tail (i + 1) more (next_of_suffix l)))

-- ---- hashes

-- how many hashes the level has
abbrev pub hashes_in_level : Level → ℕ
hashes_in_level level = length (hashes_of level)

hashes_of_level_are_counted : (t : List ℕ) (level : Level) (i : ℕ) (more : List ℕ) →
    holds (λ b. b == 35) (first more) ≡ false →
    SuffixAt t i (hashes_of level ++ more) → hashes t i ≡ hashes_in_level level
hashes_of_level_are_counted t regular i more e l =
    rw (first_of_suffix l, test_of_suffix (λ b. b == 35) (next_of_suffix l), e) refl
hashes_of_level_are_counted t group i more e l =
    let two : SuffixAt t (i + 2) more =
    subst (λ n. SuffixAt t n more) (one_and_one_on_is_two_on i) (next_of_suffix (next_of_suffix l)) in
    rw (first_of_suffix l, first_of_suffix (next_of_suffix l), test_of_suffix (λ b. b == 35) two, e) refl
hashes_of_level_are_counted t resource i more e l =
    let two : SuffixAt t (i + 2) (35 ∷ more) =
    subst (λ n. SuffixAt t n (35 ∷ more)) (one_and_one_on_is_two_on i) (next_of_suffix (next_of_suffix l)) in
    rw (first_of_suffix l, first_of_suffix (next_of_suffix l), first_of_suffix two) refl

zero_is_not_suc : (n : ℕ) → 0 ≡ suc n → ⊥
zero_is_not_suc n e = cc

no_hash_no_level : (t : List ℕ) (level : Level) (i : ℕ) (more : List ℕ) → holds (λ b. b == 35) (first more) ≡ false →
    SuffixAt t i more → hashes t i ≢ hashes_in_level level
no_hash_no_level t regular i more e l f = let none : hashes t i ≡ 0 = rw (test_of_suffix (λ b. b == 35) l, e) refl in
    zero_is_not_suc 0 (sym none ∙ f)
no_hash_no_level t group i more e l f = let none : hashes t i ≡ 0 = rw (test_of_suffix (λ b. b == 35) l, e) refl in
    zero_is_not_suc 1 (sym none ∙ f)
no_hash_no_level t resource i more e l f = let none : hashes t i ≡ 0 = rw (test_of_suffix (λ b. b == 35) l, e) refl in
    zero_is_not_suc 2 (sym none ∙ f)

level_of_count_is_same : (level : Level) → level_of (hashes_in_level level) ≡ level
level_of_count_is_same regular = refl
level_of_count_is_same group = refl
level_of_count_is_same resource = refl

-- ---- lines

-- what a line may be
pub data LineForm : Text → Bool → Type 0 where
  blank_line : LineForm [] false
  shown_line : {line : Text} → LineForm line true

line_has_form : (line : Text) (shown : Bool) → (is_empty line || shown) ≡ true → LineForm line shown
line_has_form line true e = shown_line
line_has_form [] false e = blank_line
line_has_form (b ∷ bs) false e = absurd cc

map_of_one_is_one : {X Y : Type 0} (f : X → Y) (x : X) (y : Y) → f x ≡ y → map f (x ∷ []) ≡ y ∷ []
map_of_one_is_one f x y e = rw e refl

map_of_append_is_append : {X Y : Type 0} (f : X → Y) (xs ys : List X) → map f (xs ++ ys) ≡ map f xs ++ map f ys
map_of_append_is_append f [] ys = refl
map_of_append_is_append f (x ∷ xs) ys = ap (λ zs. f x ∷ zs) (map_of_append_is_append f xs ys)

module _ (t : List ℕ) where
  -- the rest of a line after its hashes
  comment_rest_reads_back : (line : Text) (shown : Bool) (i : ℕ) (tail : List ℕ) → LineForm line shown →
      has_lf line ≡ false → SuffixAt t i (after_hashes shown line tail) →
      Reads t (peek (slice_get t) (comment_rest t)) (map (bytes_at t)) i (line ∷ []) tail
  comment_rest_reads_back [] false i tail blank_line e l =
      reads_peek (Some lf) (first_of_suffix l)
      (reads_bind
      (reads_peek true (rw (first_of_suffix l) refl)
      (here_reads_as_part_at_place (span_reads_its_bytes [] (lf ∷ tail) l l)))
      (λ x j f m. passes_then (optional_eol_passes_doubled t false j tail m)
      (λ k n. yields_reads_its_view (map_of_one_is_one (bytes_at t) x [] f) n)))
  comment_rest_reads_back (b ∷ line) false i tail x e l = elim x [ ]
  comment_rest_reads_back line true i tail shown_line e l =
      let end = doubled (is_last cr (last_of None line)) tail in
      reads_peek (Some space) (first_of_suffix l)
      (reads_bind (reads_peek false (rw (first_of_suffix l) refl)
      (passes_then (token_passes_its_byte 32 refl l)
      (λ j m. here_reads_as_part_at_place
      (passes_then (skip_passes_over_relation (suffix_line_is_longest_run t line tail j e m) (rest_past_front line m))
      (λ k n. span_reads_its_bytes line end m n)))))
      (λ x j f m. passes_then (optional_eol_passes_doubled t (is_last cr (last_of None line)) j tail m)
      (λ k n. yields_reads_its_view (map_of_one_is_one (bytes_at t) x line f) n)))

  comment_line_reads_back : (level : Level) (line : Text) (i : ℕ) (tail : List ℕ) → is_plain_line line ≡ true →
      has_lf line ≡ false →
      SuffixAt t i (hashes_of level ++ after_hashes (is_nonblank_line line) line tail) →
      Reads t (comment_line t (hashes_in_level level)) (map (bytes_at t)) i (line ∷ []) tail
  comment_line_reads_back level line i tail p e l =
      passes_then
      (skip_passes_over_relation {j = i + hashes_in_level level} (record { by = refl })
      (rest_past_front (hashes_of level) l))
      (λ j m. comment_rest_reads_back line (is_nonblank_line line) j tail
      (line_has_form line (is_nonblank_line line) p) e m)

  no_hash_is_after_hashes : (line : Text) (shown : Bool) (tail : List ℕ) →
      holds (λ b. b == 35) (first (after_hashes shown line tail)) ≡ false
  no_hash_is_after_hashes line true tail = refl
  no_hash_is_after_hashes line false tail = refl

  spelled_lines_append : (xs ys : List Span) (line : Text) (lines : List Text) → map (bytes_at t) xs ≡ line ∷ [] →
      map (bytes_at t) ys ≡ lines → map (bytes_at t) (xs ++ ys) ≡ line ∷ lines
  spelled_lines_append xs ys line lines e f =
      map_of_append_is_append (bytes_at t) xs ys ∙ ap (λ zs. zs ++ map (bytes_at t) ys) e ∙ ap (λ zs. line ∷ zs) f

  comment_lines_read_back : (level : Level) (lines : List Text) (i : ℕ) (tail : List ℕ) →
      list_all is_plain_line lines ≡ true → are_lines lines ≡ true → holds (λ b. b == 35) (first tail) ≡ false →
      SuffixAt t i (comment_bytes (hashes_of level) lines tail) →
      Reads t (comment_lines t (hashes_in_level level)) (map (bytes_at t)) i lines tail
  comment_lines_read_back level [] i tail p a e l =
      record { value = []; end = i; reads = other_level (no_hash_no_level t level i tail e l); spells = refl; rest = l }
  comment_lines_read_back level (line ∷ lines) i tail p a e l =
      let one =
      comment_line_reads_back level line i (comment_bytes (hashes_of level) lines tail)
      (and_gives_left (is_plain_line line) _ p)
      (not_true_is_false (has_lf line) (and_gives_left (not (has_lf line)) _ a)) l in
      let others =
      comment_lines_read_back level lines one.end tail (and_gives_right (is_plain_line line) _ p)
      (and_gives_right (not (has_lf line)) _ a)
      e one.rest in
      record {
        value = one.value ++ others.value;
        end = others.end;
        reads =
            one_more (hashes_of_level_are_counted t level i
            (after_hashes (is_nonblank_line line) line (comment_bytes (hashes_of level) lines tail))
            (no_hash_is_after_hashes line (is_nonblank_line line) (comment_bytes (hashes_of level) lines tail)) l)
            one.reads
            others.reads;
        spells = spelled_lines_append one.value others.value line lines one.spells others.spells;
        rest = others.rest;
      }

  spelled_comment_lines_append : (level : Level) (xs ys : List Span) (line : Text) (lines : List Text) →
      map (bytes_at t) xs ≡ line ∷ [] → map (bytes_at t) ys ≡ lines →
      entry_map (bytes_at t) (comment (level_of (hashes_in_level level)) (xs ++ ys)) ≡ comment level (line ∷ lines)
  spelled_comment_lines_append level xs ys line lines e f =
      rw (level_of_count_is_same level, spelled_lines_append xs ys line lines e f) refl

  -- a comment, before a byte that is no hash
  pub comment_reads_back : (level : Level) (content : List Text) (i : ℕ) (tail : List ℕ) →
      is_plain_comment content ≡ true →
      are_lines content ≡ true → holds (λ b. b == 35) (first tail) ≡ false →
      SuffixAt t i (comment_bytes (hashes_of level) content tail) →
      Reads t (comment_entry t) (entry_map (bytes_at t)) i (comment level content) tail
  comment_reads_back level [] i tail p a e l = absurd cc
  comment_reads_back level (line ∷ lines) i tail p a e l =
      reads_peek (hashes_in_level level)
      (hashes_of_level_are_counted t level i
      (after_hashes (is_nonblank_line line) line (comment_bytes (hashes_of level) lines tail))
      (no_hash_is_after_hashes line (is_nonblank_line line) (comment_bytes (hashes_of level) lines tail)) l)
      (reads_bind (comment_line_reads_back level line i (comment_bytes (hashes_of level) lines tail)
      (and_gives_left (is_plain_line line) _ p)
      (not_true_is_false (has_lf line) (and_gives_left (not (has_lf line)) _ a)) l)
      (λ x j f m.
      reads_bind (comment_lines_read_back level lines j tail (and_gives_right (is_plain_line line) _ p)
      (and_gives_right (not (has_lf line)) _ a) e m)
      (λ y k g n. yields_reads_its_view (spelled_comment_lines_append level x y line lines f g) n)))
