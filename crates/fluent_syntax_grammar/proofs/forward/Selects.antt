-- Selects are read back, if their selectors and the patterns of their variants are.
use Rattle.std.proofs.Common.{◌≡◌, ℕ, zero, suc, ◌+◌, ◌*◌, ◌-◌, List, [], ◌∷◌, ◌++◌, replicate, Option, Some, None}
use Rattle.std.proofs.Common.{Bool, true, false, refl, sym, ◌∙◌, subst, ap, append_assoc, inl, inr}
use Rattle.std.specs.Prelude.{◌==◌, ◌||◌, ◌&&◌, option_map, is_none}
use Rattle.std.specs.List.{list_all}
use Rattle.fluent_syntax_tree.specs.Tree.{KeyTree, key_map, name_key, number_key, select, expression_map, InlineTree}
use Rattle.fluent_syntax_tree.specs.Tree.{inline_map, PatternTree, pattern_map, VariantTrees, variants_map, no_variants}
use Rattle.fluent_syntax_tree.specs.Tree.{variants, variant, VariantTree, variant_map}
use Rattle.fluent_syntax_tree.specs.Spans.{bytes_at}
use Rattle.fluent_syntax_tree.specs.declared.spans.Span.{Span}
use Rattle.fluent_syntax_tree.specs.declared.edition.Edition.{Edition}
use Rattle.fluent_syntax_tree.specs.declared.edition.Edition.TheVariants.{One, Two}
use Rattle.fluent_syntax_grammar.specs.Bytes.{lf, cr, space, is_space, is_letter, is_digit, is_name_byte}
use Rattle.fluent_syntax_grammar.specs.Places.{after_eol}
use Rattle.fluent_syntax_grammar.specs.Construct.{peek, More, no_item, item}
use Rattle.fluent_syntax_grammar.specs.Written.{Text, indent, star_indent, key_text}
use Rattle.fluent_syntax_grammar.specs.Spellings.{is_name, is_number, is_number_rest, is_unsigned}
use Rattle.fluent_syntax_grammar.specs.Expressions.{arrow_line_end, has_arrow, selector_fault, select_with}
use Rattle.fluent_syntax_grammar.specs.Variants.{is_number_start, variant_key, variants_end, variant_of, variant_after}
use Rattle.fluent_syntax_grammar.specs.Grammar as grammar
use Rattle.fluent_syntax_grammar.specs.Grammar.{family}
use Rattle.fluent_syntax_grammar.proofs.Facts.{and_gives_left, and_gives_right, same_by_test}
use Rattle.fluent_syntax_grammar.proofs.Facts.{equal_somes_have_equal_items}
use Rattle.fluent_syntax_grammar.proofs.Tests.{true_and_true, or_has_true_side, parted_by_test}
use Rattle.fluent_syntax_grammar.proofs.SuffixAt.{SuffixAt, suffix_by_equality, first_of_suffix, next_of_suffix}
use Rattle.fluent_syntax_grammar.proofs.SuffixAt.{test_of_suffix}
use Rattle.fluent_syntax_grammar.proofs.forward.Reading.{Reads, Passes, reads_bind, yields_reads_its_view}
use Rattle.fluent_syntax_grammar.proofs.forward.Reading.{yields_passes_nothing}
use Rattle.fluent_syntax_grammar.proofs.forward.Reading.{passes_then, skip_passes_over_relation, reads_peek}
use Rattle.fluent_syntax_grammar.proofs.forward.Reading.{look_reads_what_follows}
use Rattle.fluent_syntax_grammar.proofs.forward.Reading.{first_branch_reads}
use Rattle.fluent_syntax_grammar.proofs.forward.Reading.{second_branch_reads, present_byte_is_read, more_map}
use Rattle.fluent_syntax_grammar.proofs.forward.Reading.{list_reads_its_end, list_reads_item_and_rest}
use Rattle.fluent_syntax_grammar.proofs.forward.Reading.{optional_reads_that_byte_is_absent, token_passes_its_byte}
use Rattle.fluent_syntax_grammar.proofs.forward.Reading.{two_bytes_pass}
use Rattle.fluent_syntax_grammar.proofs.forward.Reading.{passes_inline_blank}
use Rattle.fluent_syntax_grammar.proofs.forward.Words.{identifier_reads_back, number_reads_back_its_bytes}
use Rattle.fluent_syntax_grammar.proofs.marks.WrittenBytes.{inline_bytes, variants_bytes, pattern_bytes}
use Rattle.fluent_syntax_grammar.proofs.forward.Inline.{Follows, passes_blanks, letter_is_no_digit}
use Rattle.fluent_syntax_grammar.proofs.forward.Arguments.{Begins, InlineReadsBack, canonical_inline_begins_inline}
use Rattle.fluent_syntax_grammar.proofs.forward.Arguments.{name_begins_inline}
use Rattle.fluent_syntax_grammar.proofs.forward.Arguments.{number_begins_inline, beginning_of_inline_is_no_other_byte}
use Rattle.fluent_syntax_grammar.proofs.forward.Expressions.{ExpressionReadsBack, gap_after_inline_is_passed}
use Rattle.fluent_syntax_grammar.proofs.forward.Expressions.{map_keeps_fault}
use Rattle.fluent_syntax_grammar.proofs.forward.Expressions.{spaces_are_blank}
use Rattle.fluent_syntax_grammar.proofs.forward.Lines.{line_end_at_lf_is_one_byte, stop, EndsPattern, column, indented}
use Rattle.fluent_syntax_grammar.proofs.forward.Lines.{is_mark_byte}
use Rattle.fluent_syntax_grammar.proofs.forward.Lines.{is_column_byte}
use Rattle.fluent_syntax_grammar.proofs.forward.Entries.{PatternReadsBack}
use Rattle.fluent_syntax_grammar.proofs.Tests.{and_with_false_is_false, true_by_left, true_by_right}

-- a line that begins, perhaps after spaces, with a mark that is no pattern's
mark_ends_pattern : (gap : List ℕ) (b : ℕ) (bs : List ℕ) → list_all is_space gap ≡ true → is_mark_byte b ≡ true →
    is_column_byte b ≡ true → EndsPattern (gap ++ (b ∷ bs))
mark_ends_pattern [] b bs a e f = column f
mark_ends_pattern (x ∷ gap) b bs a e f =
    let s : x ≡ space = same_by_test x space (and_gives_left (is_space x) (list_all is_space gap) a) in
    subst (λ x. EndsPattern (x ∷ (gap ++ (b ∷ bs)))) (sym s)
    (indented gap b bs (and_gives_right (is_space x) (list_all is_space gap) a) e)

pub replicated_spaces_are_spaces : (n : ℕ) → list_all is_space (replicate n space) ≡ true
replicated_spaces_are_spaces zero = refl
replicated_spaces_are_spaces (suc n) = replicated_spaces_are_spaces n

pub appended_spaces_are_spaces : (xs ys : List ℕ) → list_all is_space xs ≡ true → list_all is_space ys ≡ true →
    list_all is_space (xs ++ ys) ≡ true
appended_spaces_are_spaces [] ys e f = f
appended_spaces_are_spaces (x ∷ xs) ys e f =
    true_and_true (and_gives_left (is_space x) (list_all is_space xs) e)
    (appended_spaces_are_spaces xs ys (and_gives_right (is_space x) (list_all is_space xs) e) f)

-- the variants from the first one's mark on
abbrev pub bare_bytes : ℕ → VariantTrees Text → (close more : Text) → Text
bare_bytes level no_variants close more = 125 ∷ more
bare_bytes level (variants (variant key value true) vs) close more =
    42 ∷ 91 ∷ (key_text key ++ (93 ∷ pattern_bytes level value (lf ∷ variants_bytes level vs (close ++ (125 ∷ more)))))
bare_bytes level (variants (variant key value false) vs) close more =
    91 ∷ (key_text key ++ (93 ∷ pattern_bytes level value (lf ∷ variants_bytes level vs (close ++ (125 ∷ more)))))

variants_end_pattern : (level : ℕ) (vs : VariantTrees Text) (close more : Text) → list_all is_space close ≡ true →
    EndsPattern (variants_bytes level vs (close ++ (125 ∷ more)))
variants_end_pattern level no_variants close more a = mark_ends_pattern close 125 more a refl refl
variants_end_pattern level (variants (variant key value true) vs) close more a =
    mark_ends_pattern (star_indent level) 42 _ (replicated_spaces_are_spaces (4 * level - 1)) refl refl
variants_end_pattern level (variants (variant key value false) vs) close more a =
    mark_ends_pattern (indent level) 91 _ (replicated_spaces_are_spaces (4 * level)) refl refl

-- The rest of a list of variants is read back; the flag says whether there was a default before.
pub record VariantsReadBack (edition : Edition) (t : List ℕ) (level : ℕ) (starred : Bool) (vs : VariantTrees Text) :
    Type 0 where
  pub back : (i : ℕ) (close more : List ℕ) → list_all is_space close ≡ true →
      SuffixAt t i (bare_bytes level vs close more) →
      Reads t (grammar.more_variants edition t starred) (variants_map (bytes_at t)) i vs (125 ∷ more)

abbrev pub key_obeys' : KeyTree Text → Bool
key_obeys' (name_key v) = is_name v
key_obeys' (number_key v) = is_number v

module _ (edition : Edition) (t : List ℕ) where
  -- the blank before variants
  indent_of_variants_is_passed : (level : ℕ) (vs : VariantTrees Text) (close more : Text) (i : ℕ) →
      list_all is_space close ≡ true → SuffixAt t i (variants_bytes level vs (close ++ (125 ∷ more))) →
      Passes t (Rattle.fluent_syntax_grammar.specs.Tokens.blank t) i (bare_bytes level vs close more)
  indent_of_variants_is_passed level no_variants close more i a l =
      passes_blanks close (125 ∷ more) (spaces_are_blank close a) refl refl refl l
  indent_of_variants_is_passed level (variants (variant key value true) vs) close more i a l =
      passes_blanks (star_indent level) _
      (spaces_are_blank (star_indent level) (replicated_spaces_are_spaces (4 * level - 1))) refl refl
      refl l
  indent_of_variants_is_passed level (variants (variant key value false) vs) close more i a l =
      passes_blanks (indent level) _ (spaces_are_blank (indent level) (replicated_spaces_are_spaces (4 * level))) refl
      refl refl l

  -- what an item says
  abbrev said : More (VariantTree Span) Bool → More (VariantTree Text) Bool
  said = more_map (variant_map (bytes_at t)) (λ b. b)

  -- the rest of the list, after an item
  variants_read_back_with_equal_star : (level : ℕ) (starred : Bool) (vs : VariantTrees Text) (q : Bool) → q ≡ starred →
      VariantsReadBack edition t level starred vs → VariantsReadBack edition t level q vs
  variants_read_back_with_equal_star level starred vs q e h =
      subst (λ b. VariantsReadBack edition t level b vs) (sym e) h

  added_variant_spells_its_tree : (v : VariantTree Span) (ws : VariantTrees Span) (x : VariantTree Text)
      (vs : VariantTrees Text) → variant_map (bytes_at t) v ≡ x → variants_map (bytes_at t) ws ≡ vs →
      variants_map (bytes_at t) (variants v ws) ≡ variants x vs
  added_variant_spells_its_tree v ws x vs f g = cc

  -- the end of the list, which has a default
  pub variants_end_reads_back : (level : ℕ) → VariantsReadBack edition t level true no_variants
  variants_end_reads_back level =
      record {
        back =
            λ i close more a l.
            list_reads_its_end {f = variant_map (bytes_at t)} {g = λ b. b}
            (reads_bind (optional_reads_that_byte_is_absent 42 refl l)
            (λ b j e m. rw e
            (passes_then (second_branch_reads refl (yields_passes_nothing m))
            (λ k n. reads_bind (optional_reads_that_byte_is_absent 91 refl n)
            (λ c p f o. rw f (second_branch_reads refl (ends_with edition o))))))) refl;
      }
    where
      ends_with : (d : Edition) {p : ℕ} {left : List ℕ} → SuffixAt t p left →
          Reads t (variants_end d true false) said p no_item left
      ends_with One o = first_branch_reads refl (yields_reads_its_view refl o)
      ends_with Two o = first_branch_reads refl (yields_reads_its_view refl o)

  -- a key before its bracket
  key_reads_back : (key : KeyTree Text) (i : ℕ) (tail : Text) → key_obeys' key ≡ true →
      SuffixAt t i (key_text key ++ (93 ∷ tail)) → Reads t (variant_key t) (key_map (bytes_at t)) i key (93 ∷ tail)
  key_reads_back (name_key []) i tail e l = absurd cc
  key_reads_back (name_key (b ∷ bs)) i tail e l =
      reads_peek false
      (test_of_suffix is_number_start l ∙ no_number b (and_gives_left (is_letter b) (list_all is_name_byte bs) e))
      (second_branch_reads refl
      (reads_bind (identifier_reads_back (b ∷ bs) (93 ∷ tail) e refl l)
      (λ s j f m. yields_reads_its_view (ap name_key f) m)))
    where
      no_number : (b : ℕ) → is_letter b ≡ true → is_number_start b ≡ false
      no_number b e = rw (letter_is_no_digit b e, parted_by_test is_letter b 45 e refl) refl
  key_reads_back (number_key []) i tail e l = absurd cc
  key_reads_back (number_key (b ∷ bs)) i tail e l =
      reads_peek true (test_of_suffix is_number_start l ∙ starts_number b bs e)
      (first_branch_reads refl
      (reads_bind (number_reads_back_its_bytes (b ∷ bs) (93 ∷ tail) e refl refl l)
      (λ s j f m. yields_reads_its_view (ap number_key f) m)))
    where
      starts_number : (b : ℕ) (bs : List ℕ) → is_number (b ∷ bs) ≡ true → is_number_start b ≡ true
      starts_number b bs e = elim (or_has_true_side (b == 45 && is_unsigned bs) (is_unsigned (b ∷ bs)) e) [
        | inl f ↦ true_by_right (is_digit b) (b == 45) (and_gives_left (b == 45) (is_unsigned bs) f)
        | inr f ↦ true_by_left (is_digit b) (b == 45) (and_gives_left (is_digit b) (is_number_rest bs) f)
      ]

  bytes_of_key_begin_inline : (key : KeyTree Text) (tail : Text) → key_obeys' key ≡ true → Begins (key_text key ++ tail)
  bytes_of_key_begin_inline (name_key v) tail e = name_begins_inline v tail e
  bytes_of_key_begin_inline (number_key v) tail e = number_begins_inline v tail e

  -- from the end of a variant's pattern on
  variant_is_read_after_its_value :
      (level : ℕ) (starred star : Bool) (key : KeyTree Text) (value : PatternTree Text) (vs : VariantTrees Text)
      (k : KeyTree Span) (v : Option (PatternTree Span)) (i : ℕ) (close more : Text) →
      list_all is_space close ≡ true → key_map (bytes_at t) k ≡ key →
      option_map (pattern_map (bytes_at t)) v ≡ Some value →
      SuffixAt t i (variants_bytes level vs (close ++ (125 ∷ more))) →
      Reads t (variant_of t starred star k v) said i (item (variant key value star) (starred || star))
      (bare_bytes level vs close more)
  variant_is_read_after_its_value level starred star key value vs k None i close more a e f l = absurd cc
  variant_is_read_after_its_value level starred star key value vs k (Some v) i close more a e f l =
      passes_then (indent_of_variants_is_passed level vs close more i a l)
      (λ j m. yields_reads_its_view (same_variant k v e (equal_somes_have_equal_items f)) m)
    where
      same_variant : (k : KeyTree Span) (v : PatternTree Span) → key_map (bytes_at t) k ≡ key →
          pattern_map (bytes_at t) v ≡ value →
          said (item (variant k v star) (starred || star)) ≡ item (variant key value star) (starred || star)
      same_variant k v e f = cc

  -- a variant from its key on
  variant_reads_back_from_bracket :
      (level : ℕ) (starred star : Bool) (key : KeyTree Text) (value : PatternTree Text) (vs : VariantTrees Text) (i : ℕ)
      (close more : Text) → list_all is_space close ≡ true → key_obeys' key ≡ true →
      PatternReadsBack edition t level value →
      SuffixAt t i (key_text key ++
      (93 ∷ pattern_bytes level value (lf ∷ variants_bytes level vs (close ++ (125 ∷ more))))) →
      Reads t (variant_after edition t (family edition t) starred star) said i
      (item (variant key value star) (starred || star)) (bare_bytes level vs close more)
  variant_reads_back_from_bracket level starred star key value vs i close more a o p l =
      let b =
      bytes_of_key_begin_inline key
      (93 ∷ pattern_bytes level value (lf ∷ variants_bytes level vs (close ++ (125 ∷ more)))) o in
      passes_then
      (passes_blanks [] _ refl (beginning_of_inline_is_no_other_byte 32 b refl)
      (beginning_of_inline_is_no_other_byte lf b refl) (beginning_of_inline_is_no_other_byte cr b refl) l)
      (λ j m. reads_bind (key_reads_back key j _ o m) (λ k q e n.
      passes_then (passes_blanks [] _ refl refl refl refl n)
      (λ r x. passes_then (token_passes_its_byte 93 refl x) (λ y z.
      reads_bind (p.back y (variants_bytes level vs (close ++ (125 ∷ more)))
      (variants_bytes level vs (close ++ (125 ∷ more))) (stop (variants_end_pattern level vs close more a)) z)
      (λ v w f u. variant_is_read_after_its_value level starred star key value vs k v w close more a e f u)))))

  -- one more variant, which is not the default
  pub variant_reads_back :
      (level : ℕ) (starred : Bool) (key : KeyTree Text) (value : PatternTree Text) (vs : VariantTrees Text) →
      key_obeys' key ≡ true → PatternReadsBack edition t level value → VariantsReadBack edition t level starred vs →
      VariantsReadBack edition t level starred (variants (variant key value false) vs)
  variant_reads_back level starred key value vs o p h = record {
    back = λ i close more a l. list_reads_item_and_rest {c = variant key value false} {q = starred || false}
        (reads_bind (optional_reads_that_byte_is_absent 42 refl l)
        (λ b j e m. rw e
        (passes_then (second_branch_reads (and_with_false_is_false starred) (yields_passes_nothing m))
        (λ k n. reads_bind (present_byte_is_read 91 refl n)
        (λ c q f x. rw f
        (first_branch_reads refl
        (variant_reads_back_from_bracket level starred false key value vs q close more a o p x)))))))
        (λ q j e m.
        (variants_read_back_with_equal_star level starred vs q (e ∙ or_false starred) h).back j close more a m)
        (λ v ws f g. added_variant_spells_its_tree v ws (variant key value false) vs f g);
  }
    where
      or_false : (b : Bool) → (b || false) ≡ b
      or_false true = refl
      or_false false = refl

  -- the default
  pub default_reads_back : (level : ℕ) (key : KeyTree Text) (value : PatternTree Text) (vs : VariantTrees Text) →
      key_obeys' key ≡ true → PatternReadsBack edition t level value → VariantsReadBack edition t level true vs →
      VariantsReadBack edition t level false (variants (variant key value true) vs)
  default_reads_back level key value vs o p h = record {
    back = λ i close more a l. list_reads_item_and_rest {c = variant key value true} {q = true}
        (reads_bind (present_byte_is_read 42 refl l)
        (λ b j e m. rw e
        (passes_then (second_branch_reads refl (yields_passes_nothing m))
        (λ k n. reads_bind (present_byte_is_read 91 refl n)
        (λ c q f x. rw f
        (first_branch_reads refl
        (variant_reads_back_from_bracket level false true key value vs q close more a o p x)))))))
        (λ q j e m. (variants_read_back_with_equal_star level true vs q e h).back j close more a m)
        (λ v ws f g. added_variant_spells_its_tree v ws (variant key value true) vs f g);
  }

  -- ---- the select

  arrow_is_at_its_bytes : (i : ℕ) (more : List ℕ) → SuffixAt t i (45 ∷ 62 ∷ more) → has_arrow t i ≡ true
  arrow_is_at_its_bytes i more l = rw (first_of_suffix l, first_of_suffix (next_of_suffix l)) refl

  arrow_follows_space : (more : List ℕ) → Follows (32 ∷ []) (45 ∷ 62 ∷ more)
  arrow_follows_space more =
      record {
        spaces = refl;
        no_name = refl;
        no_digit = refl;
        no_point = refl;
        no_space = refl;
        no_lf = refl;
        no_cr = refl;
        no_list = refl;
        no_attribute = refl;
      }

  option_that_is_none_equals_none : {X : Type 0} (o : Option X) → is_none o ≡ true → o ≡ None
  option_that_is_none_equals_none None e = refl
  option_that_is_none_equals_none (Some x) e = cc

  -- from the arrow on
  select_reads_back_from_arrow :
      (level : ℕ) (e : InlineTree Text) (vs : VariantTrees Text) (v : InlineTree Span) (i : ℕ) (close more : Text) →
      list_all is_space close ≡ true → inline_map (bytes_at t) v ≡ e → is_none (selector_fault e) ≡ true →
      VariantsReadBack edition t (level + 1) false vs →
      SuffixAt t i (45 ∷ 62 ∷ lf ∷ variants_bytes (level + 1) vs (close ++ (125 ∷ more))) →
      Reads t (select_with edition t (family edition t) v (selector_fault v)) (expression_map (bytes_at t)) i
      (select e vs)
      (125 ∷ more)
  select_reads_back_from_arrow level e vs v i close more a f g h l =
      let none : selector_fault v ≡ None =
      sym (map_keeps_fault (bytes_at t) v) ∙ ap selector_fault f
      ∙ option_that_is_none_equals_none (selector_fault e) g in
      rw none (reads_bind
      (passes_then (two_bytes_pass l)
      (λ j m. passes_then (passes_inline_blank [] _ refl refl m)
      (λ k n. passes_then (line_end_passes k n)
      (λ p o. passes_then (indent_of_variants_is_passed (level + 1) vs close more p a o)
      (λ q x. h.back q close more a x))))) (λ ws y d z. yields_reads_its_view (same_select ws d) z))
    where
      line_end_passes : {bs : List ℕ} (k : ℕ) → SuffixAt t k (lf ∷ bs) →
          Passes t (peek (after_eol t) arrow_line_end) k bs
      line_end_passes k n =
          reads_peek (Some (k + 1)) (line_end_at_lf_is_one_byte edition t n)
          (skip_passes_over_relation {j = k + 1} (record { there = refl }) (next_of_suffix n))

      same_select : (ws : VariantTrees Span) → variants_map (bytes_at t) ws ≡ vs →
          expression_map (bytes_at t) (select v ws) ≡ select e vs
      same_select ws d = cc

  pub select_reads_back : (level : ℕ) (e : InlineTree Text) (vs : VariantTrees Text) →
      is_none (selector_fault e) ≡ true →
      InlineReadsBack edition t level e → VariantsReadBack edition t (level + 1) false vs →
      ExpressionReadsBack edition t level (select e vs)
  select_reads_back level e vs g h k = record {
    begins = λ tail. canonical_inline_begins_inline edition level e _ h.obeys;
    back = λ i gap more a l.
        let close = indent level ++ gap in
        let spaces : list_all is_space close ≡ true =
        appended_spaces_are_spaces (indent level) gap (replicated_spaces_are_spaces (4 * level)) a in
        let m =
        suffix_by_equality (ap (λ x. inline_bytes level e (32 ∷ 45 ∷ 62 ∷ lf ∷ variants_bytes (level + 1) vs x))
        (sym (append_assoc (indent level) gap (125 ∷ more)))) l in
        reads_bind (h.back i (32 ∷ []) (45 ∷ 62 ∷ lf ∷ variants_bytes (level + 1) vs (close ++ (125 ∷ more)))
        (arrow_follows_space _) m) (λ v j f n.
        passes_then (gap_after_inline_is_passed edition t e (32 ∷ []) _ j (arrow_follows_space _) n)
        (λ p o. look_reads_what_follows true (arrow_is_at_its_bytes p _ o)
        (first_branch_reads refl (select_reads_back_from_arrow level e vs v p close more spaces f g k o))));
  }
