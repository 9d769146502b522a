-- An entry has an outcome at each place from which on patterns have one.
use Rattle.std.proofs.Common.{◌≡◌, ℕ, zero, suc, ◌+◌, ◌<◌, ◌≤◌, List, [], ◌∷◌, ◌++◌, length, Option, Some, None, Bool}
use Rattle.std.proofs.Common.{true, false, refl, arith, inl, inr}
use Rattle.std.specs.Prelude.{slice_get, ◌==◌}
use Rattle.fluent_syntax_tree.specs.Tree.{PatternTree}
use Rattle.fluent_syntax_tree.specs.Entry.{AttributeTree, EntryTree}
use Rattle.fluent_syntax_grammar.specs.Grammar.{family}
use Rattle.fluent_syntax_grammar.specs.Places.{has_byte}
use Rattle.fluent_syntax_grammar.specs.Construct.{Outcome, Read, Refused, stops, goes_on, given, chosen, branch_on}
use Rattle.fluent_syntax_grammar.specs.Construct.{first, second}
use Rattle.fluent_syntax_grammar.specs.Entries.{attribute_with, message_with, term_with, no_more, one_more}
use Rattle.fluent_syntax_grammar.specs.Comments as comments
use Rattle.fluent_syntax_grammar.specs.Comments.{hashes, comment_text, comment_rest, comment_line, comment_lines}
use Rattle.fluent_syntax_grammar.specs.Comments.{other_level, no_comment_line, comment_of, comment_entry}
use Rattle.fluent_syntax_grammar.specs.Tiling.{entry_of}
use Rattle.fluent_syntax_tree.specs.declared.edition.Edition.{Edition}
use Rattle.fluent_syntax_tree.specs.declared.spans.Span.{Span}
use Rattle.fluent_syntax_grammar.proofs.HoareTriple.{HoareTriple}
use Rattle.fluent_syntax_grammar.proofs.SoundStrings.{InText}
use Rattle.fluent_syntax_grammar.proofs.SoundEntries.{attributes_are_sound}
use Rattle.fluent_syntax_grammar.proofs.SoundComments.{place_after_hashes, comment_line_reads_soundly}
use Rattle.fluent_syntax_grammar.proofs.Boundaries.{places_in_text_are_boundaries}
use Rattle.fluent_syntax_grammar.proofs.CommentFaults.{hashes_at_hash_are_at_least_one}
use Rattle.fluent_syntax_grammar.proofs.Total.{From, AnyFault, TotalOnward, TotalConsuming, bind_decides, fails_decides}
use Rattle.fluent_syntax_grammar.proofs.Total.{fails_from_decides, skip_decides, any_peek_decides}
use Rattle.fluent_syntax_grammar.proofs.Total.{yields_is_total_onward}
use Rattle.fluent_syntax_grammar.proofs.Total.{here_is_total_onward, strict_is_total_onward}
use Rattle.fluent_syntax_grammar.proofs.TotalWords.{blank_block_is_total_onward, inline_blank_is_total_onward}
use Rattle.fluent_syntax_grammar.proofs.TotalWords.{sound_construct_goes_onward}
use Rattle.fluent_syntax_grammar.proofs.TotalWords.{token_is_consuming, identifier_is_consuming}
use Rattle.fluent_syntax_grammar.proofs.TotalWords.{optional_eol_is_total_onward}
use Rattle.fluent_syntax_grammar.proofs.TotalWords.{spanned_is_total_onward, rest_of_line_is_total_onward}
use Rattle.fluent_syntax_grammar.proofs.Facts.{same_by_test, eq_false_is_unequal}
use Rattle.std.proofs.Common.{◌-◌}
use Rattle.std.specs.Prelude.{◌⊎◌}
use Rattle.fluent_syntax_grammar.specs.Entries.{attribute_of, attributes_of, message_of, term_of}
use Rattle.fluent_syntax_grammar.specs.Family.{Family}
use Rattle.fluent_syntax_grammar.specs.Grammar.{within}
use Rattle.fluent_syntax_grammar.specs.Nesting.{TooDeep}
use Rattle.fluent_syntax_grammar.specs.Patterns.{pattern}
use Rattle.fluent_syntax_grammar.specs.Tiling.{entry_in}
use Rattle.fluent_syntax_grammar.proofs.Included.{IsIncludedFamily}
use Rattle.fluent_syntax_grammar.proofs.IncludedEntries.{attributes_are_included}
use Rattle.fluent_syntax_grammar.proofs.Nesting.{within_family}
use Rattle.fluent_syntax_grammar.proofs.TotalFamily.{pattern_within_depth_is_total_onward}

attribute_with_is_total_onward : {t : List ℕ} {s : ℕ} (id : Span) (value : Option (PatternTree Span)) →
    TotalOnward t s (attribute_with id value)
attribute_with_is_total_onward id None = fails_decides
attribute_with_is_total_onward id (Some value) = yields_is_total_onward

message_with_is_onward :
    {s : ℕ} (t : List ℕ) (start : ℕ) (id : Span) (value : Option (PatternTree Span))
    (rest : List (AttributeTree Span)) → TotalOnward t s (message_with t start id value rest)
message_with_is_onward t start id None [] = fails_from_decides
message_with_is_onward t start id None (a ∷ rest) = yields_is_total_onward
message_with_is_onward t start id (Some value) rest = yields_is_total_onward

term_with_is_onward :
    {s : ℕ} (t : List ℕ) (start : ℕ) (id : Span) (value : Option (PatternTree Span))
    (rest : List (AttributeTree Span)) → TotalOnward t s (term_with t start id value rest)
term_with_is_onward t start id None rest = fails_from_decides
term_with_is_onward t start id (Some value) rest = yields_is_total_onward

module _ (edition : Edition) (t : List ℕ) (R : Family) (h : IsIncludedFamily R (family edition t)) (low : ℕ)
    (patterns : (s : ℕ) → low ≤ s → TotalOnward t s (pattern edition t R)) where
  attribute_is_consuming : (s : ℕ) → low ≤ s → TotalConsuming t s (attribute_of edition t R)
  attribute_is_consuming s l =
      bind_decides (inline_blank_is_total_onward t)
      (λ u. bind_decides (token_is_consuming t 46)
      (λ u. bind_decides (strict_is_total_onward (identifier_is_consuming t))
      (λ id. bind_decides (inline_blank_is_total_onward t) (λ u.
      bind_decides (strict_is_total_onward (token_is_consuming t 61))
      (λ u. bind_decides (patterns (s + 1) (omega arith)) (λ value. attribute_with_is_total_onward id value))))))

  -- a list of attributes, and where it ends
  record Attributes (i : ℕ) : Type 0 where
    list : List (AttributeTree Span)
    end : ℕ
    read : attributes_of edition t R i (Read list end)

  attributes_are_total_at_place : (i : ℕ) → low ≤ i → i ≤ length t → ((j : ℕ) → i < j → j ≤ length t → Attributes j) →
      (o : Outcome (AttributeTree Span)) → attribute_of edition t R i o → Attributes i
  attributes_are_total_at_place i b l more (Refused k from to) x = record { list = []; end = i; read = no_more x }
  attributes_are_total_at_place i b l more (Read a j) x =
      let p = (attribute_is_consuming i b).on.on_read i j a (record { late = omega arith; in_text = l }) x in
      let late = p.late in
      let r = more j (omega arith) p.in_text in
      record { list = a ∷ r.list; end = r.end; read = one_more x r.read }

  attributes_are_read_somehow : (m i : ℕ) → length t ≤ i + m → low ≤ i → i ≤ length t → Attributes i
  attributes_are_read_somehow zero i a b l =
      let x = (attribute_is_consuming i b).has i (record { late = omega arith; in_text = l }) in
      attributes_are_total_at_place i b l (λ j d c. absurd (omega arith)) x.0 x.1
  attributes_are_read_somehow (suc m) i a b l =
      let x = (attribute_is_consuming i b).has i (record { late = omega arith; in_text = l }) in
      attributes_are_total_at_place i b l (λ j d c. attributes_are_read_somehow m j (omega arith) (omega arith) c) x.0
      x.1

  -- the list goes on as that of the grammar does
  attributes_go_on : (s : ℕ) → HoareTriple (From t s) (attributes_of edition t R) (λ a j. From t s j) AnyFault
  attributes_go_on s =
      let part = attributes_are_included edition t R (family edition t) h in
      let whole =
      sound_construct_goes_onward
      (attributes_are_sound edition t (InText t) (places_in_text_are_boundaries t) {s = s}) in
      record {
        on_read = λ i j a p x. whole.on_read i j a p (part.part i _ x);
        on_refused = λ i from to k p x. whole.on_refused i from to k p (part.part i _ x);
      }

  attributes_are_total_onward : (s : ℕ) → low ≤ s → TotalOnward t s (attributes_of edition t R)
  attributes_are_total_onward s l = record {
    has = λ i p. (let late = p.late in let r =
        attributes_are_read_somehow (length t) i (omega arith) (omega arith) p.in_text in
        (Read r.list r.end, r.read));
    on = attributes_go_on s;
  }

  message_is_total_onward : (s : ℕ) → low ≤ s → TotalOnward t s (message_of edition t R)
  message_is_total_onward s l =
      bind_decides here_is_total_onward
      (λ start. bind_decides (strict_is_total_onward (identifier_is_consuming t))
      (λ id. bind_decides (inline_blank_is_total_onward t)
      (λ u. bind_decides (strict_is_total_onward (token_is_consuming t 61))
      (λ u.
      bind_decides (patterns s l)
      (λ value. bind_decides (blank_block_is_total_onward t)
      (λ u. bind_decides (attributes_are_total_onward s l) (λ rest. message_with_is_onward t start id value rest)))))))

  term_is_total_onward : (s : ℕ) → low ≤ s → TotalOnward t s (term_of edition t R)
  term_is_total_onward s l =
      bind_decides here_is_total_onward
      (λ start. bind_decides (strict_is_total_onward (token_is_consuming t 45))
      (λ u. bind_decides (strict_is_total_onward (identifier_is_consuming t))
      (λ id. bind_decides (inline_blank_is_total_onward t)
      (λ u. bind_decides (strict_is_total_onward (token_is_consuming t 61))
      (λ u.
      bind_decides (patterns s l)
      (λ value. bind_decides (blank_block_is_total_onward t)
      (λ u. bind_decides (attributes_are_total_onward s l) (λ rest. term_with_is_onward t start id value rest))))))))

module _ (t : List ℕ) where
  comment_text_is_total_onward : {s : ℕ} (eol : Bool) → TotalOnward t s (comment_text t eol)
  comment_text_is_total_onward true = bind_decides here_is_total_onward (λ i. spanned_is_total_onward t)
  comment_text_is_total_onward false =
      bind_decides (strict_is_total_onward (token_is_consuming t 32)) (λ u. rest_of_line_is_total_onward t)

  comment_rest_is_total_onward : {s : ℕ} (b : Option ℕ) → TotalOnward t s (comment_rest t b)
  comment_rest_is_total_onward None = yields_is_total_onward
  comment_rest_is_total_onward (Some b) =
      bind_decides (any_peek_decides comment_text_is_total_onward)
      (λ content. bind_decides (optional_eol_is_total_onward t)
      (λ u. yields_is_total_onward))

  comment_line_has_outcome : (i level : ℕ) → i ≤ length t → hashes t i ≡ level →
      (o : Outcome (List Span)) × comment_line t level i o
  comment_line_has_outcome i level l e =
      let inside = place_after_hashes t (InText t) (places_in_text_are_boundaries t) i l in
      let whole =
      bind_decides {pre = λ j. j ≡ i} {mid = λ u. From t 0}
      (skip_decides (λ j p. (j + level, record { by = refl }))
      (λ j m p w. let by = w.by in record { late = omega arith; in_text = omega arith }))
      (λ u. any_peek_decides comment_rest_is_total_onward) in
      whole.has i refl

  record Lines (level i : ℕ) : Type 0 where
    list : List Span
    end : ℕ
    read : comment_lines t level i (Read list end)

  comment_lines_are_read_by_first_outcome : (level i : ℕ) → 1 ≤ level → i ≤ length t → hashes t i ≡ level →
      ((j : ℕ) → i < j → j ≤ length t → Lines level j) → (o : Outcome (List Span)) → comment_line t level i o →
      Lines level i
  comment_lines_are_read_by_first_outcome level i one l e more (Refused k from to) x =
      record { list = []; end = i; read = no_comment_line e x }
  comment_lines_are_read_by_first_outcome level i one l e more (Read c j) x =
      let p = (comment_line_reads_soundly t (InText t) (places_in_text_are_boundaries t) (i + level) i level
      (omega arith) l e).on_read i j
      c refl x in
      let late = p.late in
      let r = more j (omega arith) p.place in
      record { list = c ++ r.list; end = r.end; read = comments.one_more e x r.read }

  comment_lines_are_read_by_level_test : (level i : ℕ) (b : Bool) → (hashes t i == level) ≡ b → 1 ≤ level →
      i ≤ length t → ((j : ℕ) → i < j → j ≤ length t → Lines level j) → Lines level i
  comment_lines_are_read_by_level_test level i false e one l more =
      record { list = []; end = i; read = other_level (eq_false_is_unequal (hashes t i) level e) }
  comment_lines_are_read_by_level_test level i true e one l more =
      let x = comment_line_has_outcome i level l (same_by_test (hashes t i) level e) in
      comment_lines_are_read_by_first_outcome level i one l (same_by_test (hashes t i) level e) more x.0 x.1

  comment_lines_are_read_somehow : (level m i : ℕ) → 1 ≤ level → length t ≤ i + m → i ≤ length t → Lines level i
  comment_lines_are_read_somehow level zero i one a l =
      comment_lines_are_read_by_level_test level i (hashes t i == level) refl one l (λ j b c. absurd (omega arith))
  comment_lines_are_read_somehow level (suc m) i one a l =
      comment_lines_are_read_by_level_test level i (hashes t i == level) refl one l
      (λ j b c. comment_lines_are_read_somehow level m j one (omega arith) c)

  comment_has_outcome_after_line : (level i : ℕ) → 1 ≤ level → i ≤ length t → hashes t i ≡ level →
      (o : Outcome (List Span)) → comment_line t level i o → (o : Outcome (EntryTree Span)) × comment_of t level i o
  comment_has_outcome_after_line level i one l e (Refused k from to) x = (Refused k from to, stops x)
  comment_has_outcome_after_line level i one l e (Read c j) x =
      let p = (comment_line_reads_soundly t (InText t) (places_in_text_are_boundaries t) i i level (omega arith) l
      e).on_read i j c refl
      x in
      let r = comment_lines_are_read_somehow level (length t) j one (omega arith) p.place in
      (Read _ r.end, goes_on x (goes_on r.read given))

  pub comment_at_hash_has_outcome : (i : ℕ) → i ≤ length t → has_byte t 35 i ≡ true →
      (o : Outcome (EntryTree Span)) × comment_entry t i o
  comment_at_hash_has_outcome i l h =
      let x = comment_line_has_outcome i (hashes t i) l refl in
      let y = comment_has_outcome_after_line (hashes t i) i (hashes_at_hash_are_at_least_one t i h) l refl x.0 x.1 in
      (y.0, chosen y.1)

module _ (edition : Edition) (t : List ℕ) (R : Family) (h : IsIncludedFamily R (family edition t)) (low : ℕ)
    (patterns : (s : ℕ) → low ≤ s → TotalOnward t s (pattern edition t R)) where
  byte_equal_to_hash_is_hash_there : (i b : ℕ) → slice_get t i ≡ Some b → (b == 35) ≡ true → has_byte t 35 i ≡ true
  byte_equal_to_hash_is_hash_there i b e f = rw e f

  message_or_term_has_outcome : (i b : ℕ) (minus : Bool) → low ≤ i → i ≤ length t → (b == 45) ≡ minus →
      (o : Outcome (EntryTree Span)) × branch_on (b == 45) (term_of edition t R) (message_of edition t R) i o
  message_or_term_has_outcome i b true g l e =
      let x = (term_is_total_onward edition t R h low patterns i g).has i (record { late = omega arith; in_text = l })
      in
      (x.0, first e x.1)
  message_or_term_has_outcome i b false g l e =
      let x = (message_is_total_onward edition t R h low patterns i g).has i
      (record { late = omega arith; in_text = l }) in
      (x.0, second e x.1)

  entry_of_byte_has_outcome : (i b : ℕ) (hash : Bool) → low ≤ i → i ≤ length t → slice_get t i ≡ Some b →
      (b == 35) ≡ hash → (o : Outcome (EntryTree Span)) × entry_of edition t R (Some b) i o
  entry_of_byte_has_outcome i b true g l e f =
      let x = comment_at_hash_has_outcome t i l (byte_equal_to_hash_is_hash_there i b e f) in (x.0, first f x.1)
  entry_of_byte_has_outcome i b false g l e f =
      let x = message_or_term_has_outcome i b (b == 45) g l refl in (x.0, second f x.1)

  entry_of_byte_or_end_has_outcome : (i : ℕ) (o : Option ℕ) → low ≤ i → i ≤ length t → slice_get t i ≡ o →
      (p : Outcome (EntryTree Span)) × entry_of edition t R o i p
  entry_of_byte_or_end_has_outcome i None g l e =
      (message_is_total_onward edition t R h low patterns i g).has i (record { late = omega arith; in_text = l })
  entry_of_byte_or_end_has_outcome i (Some b) g l e = entry_of_byte_has_outcome i b (b == 35) g l e refl

  pub entry_has_outcome : (i : ℕ) → low ≤ i → i ≤ length t → (o : Outcome (EntryTree Span)) × entry_in edition t R i o
  entry_has_outcome i g l = let x = entry_of_byte_or_end_has_outcome i (slice_get t i) g l refl in (x.0, chosen x.1)

number_is_less_or_not : (a b : ℕ) → (a < b) ⊎ (b ≤ a)
number_is_less_or_not zero zero = inr (omega arith)
number_is_less_or_not zero (suc b) = inl (omega arith)
number_is_less_or_not (suc a) zero = inr (omega arith)
number_is_less_or_not (suc a) (suc b) =
    elim (number_is_less_or_not a b) [ inl e ↦ inl (omega arith) | inr e ↦ inr (omega arith) ]

module _ (edition : Edition) (t : List ℕ) (n i : ℕ) (l : i ≤ length t) where
  patterns_are_total_within_depth : length t - i ≤ n → (s : ℕ) → i ≤ s →
      TotalOnward t s (pattern edition t (within edition t n))
  patterns_are_total_within_depth e s g = pattern_within_depth_is_total_onward edition t n s (omega (arith, e))

  -- Where an entry nests deeper than n, more bytes are left than n.
  pub too_deep_entry_has_more_bytes_than_depth : TooDeep (entry_in edition t (within edition t n)) i → n < length t - i
  too_deep_entry_has_more_bytes_than_depth d =
      elim (number_is_less_or_not n (length t - i)) [
        | inl e ↦ e
        | inr e ↦ (
            let has = entry_has_outcome edition t (within edition t n) (within_family edition t n) i
            (patterns_are_total_within_depth e) i
            (omega arith) l in
            absurd (d has.0 has.1)
            )
      ]

  -- And so it is with an attribute.
  pub attribute_too_deep_left : TooDeep (attribute_of edition t (within edition t n)) i → n < length t - i
  attribute_too_deep_left d =
      elim (number_is_less_or_not n (length t - i)) [
        | inl e ↦ e
        | inr e ↦ (
            let all = attribute_is_consuming edition t (within edition t n) (within_family edition t n) i
            (patterns_are_total_within_depth e)
            i (omega arith) in
            let has = all.has i (record { late = omega arith; in_text = l }) in
            absurd (d has.0 has.1)
            )
      ]
