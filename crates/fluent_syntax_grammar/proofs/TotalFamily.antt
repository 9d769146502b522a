-- What nests has an outcome at each place of the text, by induction on the bytes that are left.
use Rattle.std.proofs.Common.{◌≡◌, ℕ, zero, suc, ◌+◌, ◌<◌, ◌≤◌, List, [], length, Option, Some, None, Bool, true, false}
use Rattle.std.proofs.Common.{refl, ◌∙◌, subst, arith}
use Rattle.std.specs.Prelude.{slice_get, ◌==◌, nat_lt}
use Rattle.fluent_syntax_tree.specs.Kind.{Kind, TermAttributeAsPlaceable}
use Rattle.fluent_syntax_tree.specs.Tree.{ExpressionTree, inline, InlineTree, KeyTree, PatternTree, VariantTree}
use Rattle.fluent_syntax_grammar.specs.Bytes.{is_space}
use Rattle.fluent_syntax_grammar.specs.Places.{after_eol, has_byte, InlineBlank, Steps}
use Rattle.fluent_syntax_grammar.specs.Construct.{Outcome, Read, Construct, ◌>>=◌, goes_on, yields, at_place, passed}
use Rattle.fluent_syntax_grammar.specs.Construct.{peek, branch_on, fails, More, no_item, item}
use Rattle.fluent_syntax_grammar.specs.Tokens.{optional, blank, blank_block, inline_blank}
use Rattle.fluent_syntax_grammar.specs.Family.{Family}
use Rattle.fluent_syntax_grammar.specs.Grammar.{family, within}
use Rattle.fluent_syntax_grammar.specs.Grammar as grammar
use Rattle.fluent_syntax_grammar.specs.Layout.{Line, Layout}
use Rattle.fluent_syntax_grammar.specs.Lines.{belongs, line, next_line, more_lines, no_byte, other_line, own_line}
use Rattle.fluent_syntax_grammar.specs.Patterns.{layout_at, layout, pattern}
use Rattle.fluent_syntax_grammar.specs.Expressions.{arrow_line_end, expression, has_arrow, is_term_attribute}
use Rattle.fluent_syntax_grammar.specs.Expressions.{select_with, selector_fault, variants_of_select}
use Rattle.fluent_syntax_grammar.specs.Variants.{only_star, variants_end, variant_of, variant_after, next_variant}
use Rattle.fluent_syntax_grammar.specs.Variants.{more_variants}
use Rattle.fluent_syntax_tree.specs.declared.edition.Edition.{Edition}
use Rattle.fluent_syntax_tree.specs.declared.spans.Span.{Span}
use Rattle.fluent_syntax_grammar.proofs.Functional.{longest_run_is_functional}
use Rattle.fluent_syntax_grammar.proofs.HoareTriple.{yields_reads_its_value_in_place}
use Rattle.fluent_syntax_grammar.proofs.Facts.{byte_that_passes_is_in_text, and_gives_right}
use Rattle.fluent_syntax_grammar.proofs.SoundStrings.{InText}
use Rattle.fluent_syntax_grammar.proofs.SoundLines.{family_is_sound}
use Rattle.fluent_syntax_grammar.proofs.Boundaries.{places_in_text_are_boundaries}
use Rattle.fluent_syntax_grammar.proofs.Total.{From, Decides, TotalOnward, TotalConsumingItem, bind_decides}
use Rattle.fluent_syntax_grammar.proofs.Total.{weakened_construct_decides, yields_decides, fails_decides, skip_decides}
use Rattle.fluent_syntax_grammar.proofs.Total.{peek_decides, branch_on_decides, any_branch_decides}
use Rattle.fluent_syntax_grammar.proofs.Total.{yields_is_total_onward}
use Rattle.fluent_syntax_grammar.proofs.Total.{here_is_total_onward, strict_is_total_onward, more_on, more_earlier}
use Rattle.fluent_syntax_grammar.proofs.Total.{none_past_end}
use Rattle.fluent_syntax_grammar.proofs.Total.{many_is_total_onward}
use Rattle.fluent_syntax_grammar.proofs.TotalWords.{eol_decides, blank_is_total_onward, blank_block_is_total_onward}
use Rattle.fluent_syntax_grammar.proofs.TotalWords.{inline_blank_is_total_onward, optional_is_total_onward}
use Rattle.fluent_syntax_grammar.proofs.TotalWords.{optional_decides}
use Rattle.fluent_syntax_grammar.proofs.TotalWords.{sound_construct_goes_onward, token_is_consuming, byte_run_is_total}
use Rattle.fluent_syntax_grammar.proofs.TotalRules.{TotalOnwardFamily, key_is_total_onward, arrow_is_total_onward}
use Rattle.fluent_syntax_grammar.proofs.TotalRules.{ending_is_total_onward}
use Rattle.fluent_syntax_grammar.proofs.TotalRules.{inline_is_consuming}
use Rattle.fluent_syntax_grammar.proofs.TotalRules.{arguments_are_total_onward, pieces_are_total_onward}
use Rattle.fluent_syntax_grammar.proofs.TotalRules.{read_pieces_end_after_piece, ending_after_pieces_goes_on}

-- from a place on, over a family that has outcomes from there on
module _ (edition : Edition) (t : List ℕ) (R : Family) (low : ℕ) (h : (s : ℕ) → low ≤ s → TotalOnwardFamily t s R) where
  -- ---- lines

  line_is_total_onward : (s : ℕ) → low ≤ s + 1 → TotalOnward t s (line t R)
  line_is_total_onward s l =
      bind_decides here_is_total_onward
      (λ start. bind_decides (inline_blank_is_total_onward t)
      (λ u. bind_decides here_is_total_onward
      (λ first. bind_decides (pieces_are_total_onward t R low h s l) (λ ps. bind_decides (ending_is_total_onward t)
      (λ e. yields_is_total_onward)))))

  line_with_byte_goes_on : (s : ℕ) → low ≤ s + 1 → (i j k b : ℕ) (x : Line) → From t s i → InlineBlank t i k →
      slice_get t k ≡ Some b → line t R i (Read x j) → From t (s + 1) j
  line_with_byte_goes_on s l i j k b x p w e
      (goes_on at_place
      (goes_on (passed {j = f} v) (goes_on at_place (goes_on {j = m} {a = ps} y (goes_on {j = n} {a = end} z g))))) =
      let late = p.late in
      let same : k ≡ f = longest_run_is_functional.same i k f w v in
      let forward = v.forward in
      let at_f : slice_get t f ≡ Some b = subst (λ k. slice_get t k ≡ Some b) same e in
      let inside = (byte_run_is_total t is_space).in_text i f p.in_text v in
      let q = read_pieces_end_after_piece t R low h s l f m b ps
      (record { late = omega arith; in_text = inside }) at_f y in
      let r = ending_after_pieces_goes_on t R low h s l m n end q z in
      let same = yields_reads_its_value_in_place _ x n j g in
      subst (λ j. From t (s + 1) j) same.1 r

  own_line_has_outcome : (s : ℕ) → low ≤ s + 1 → (i : ℕ) → From t s i → (o : Outcome (More Line (Unit {0}))) ×
      (line t R >>= λ x. yields (item x tt)) i o
  own_line_has_outcome s l i p =
      (bind_decides (line_is_total_onward s l) (λ x. yields_is_total_onward {a = item x tt})).has i p

  next_line_has_outcome_by_owner : (s : ℕ) → low ≤ s + 1 → (i k b : ℕ) (own : Bool) → From t s i → InlineBlank t i k →
      slice_get t k ≡ Some b → belongs t (nat_lt i k) k ≡ own → (o : Outcome (More Line (Unit {0}))) × next_line t R i o
  next_line_has_outcome_by_owner s l i k b true p w e f =
      let x = own_line_has_outcome s l i p in (x.0, own_line w e f x.1)
  next_line_has_outcome_by_owner s l i k b false p w e f = (Read no_item i, other_line w e f)

  next_line_has_outcome_by_byte : (s : ℕ) → low ≤ s + 1 → (i k : ℕ) (o : Option ℕ) → From t s i → InlineBlank t i k →
      slice_get t k ≡ o → (o : Outcome (More Line (Unit {0}))) × next_line t R i o
  next_line_has_outcome_by_byte s l i k None p w e = (Read no_item k, no_byte w e)
  next_line_has_outcome_by_byte s l i k (Some b) p w e =
      next_line_has_outcome_by_owner s l i k b (belongs t (nat_lt i k) k) p w e refl

  next_line_goes_on : (s : ℕ) → low ≤ s + 1 → (i j : ℕ) (x : More Line (Unit {0})) → From t s i →
      next_line t R i (Read x j) →
      more_on t s x j
  next_line_goes_on s l i j x p (no_byte w e) = let late = p.late in let forward = w.forward in
      record { late = omega arith; in_text = (byte_run_is_total t is_space).in_text i j p.in_text w }
  next_line_goes_on s l i j x p (other_line w e f) = p
  next_line_goes_on s l i j x p (own_line {k = k} {b = b} w e f (goes_on {j = m} {a = y} z g)) =
      let same = yields_reads_its_value_in_place (item y tt) x m j g in
      subst (λ x. more_on t s x j) same.0
      (subst (λ j. From t (s + 1) j) same.1 (line_with_byte_goes_on s l i m k b y p w e z))

  item_line_is_consuming : (s : ℕ) → low ≤ s + 1 → TotalConsumingItem t s (next_line t R)
  item_line_is_consuming s l = record {
    has = λ i p. (let w = (byte_run_is_total t is_space).exists i p.in_text in
        next_line_has_outcome_by_byte s l i w.0 (slice_get t w.0) p w.1 refl);
    on = record { on_read = next_line_goes_on s l; on_refused = λ i from to k p x. tt };
  }

  lines_are_total_onward : (s : ℕ) → low ≤ s + 1 → TotalOnward t s (more_lines t R)
  lines_are_total_onward s l =
      many_is_total_onward t (λ u. next_line t R) _ _ s (λ m k u. item_line_is_consuming m (omega arith)) s
      (omega arith) tt

  -- ---- patterns and variants

  layout_below_is_total_onward : (s : ℕ) → low ≤ s + 1 →
      TotalOnward {A = Layout} t s
      (blank_block t >>= λ u. more_lines t R >>= λ ls. yields (record { opening = None; lines = ls }))
  layout_below_is_total_onward s l =
      bind_decides (blank_block_is_total_onward t) (λ u. bind_decides (lines_are_total_onward s l)
      (λ ls. yields_is_total_onward))

  layout_without_eol_is_total_onward : (s : ℕ) → low ≤ s + 1 → TotalOnward t s (layout_at t R None)
  layout_without_eol_is_total_onward s l =
      bind_decides here_is_total_onward
      (λ start. bind_decides (pieces_are_total_onward t R low h s l)
      (λ ps. bind_decides (ending_is_total_onward t)
      (λ e. bind_decides (lines_are_total_onward s l) (λ ls. yields_is_total_onward))))

  layout_decides : (s : ℕ) → low ≤ s + 1 → (o : Option ℕ) →
      Decides (λ i. From t s i × (after_eol t i ≡ o)) (layout_at t R o) (λ y. From t s)
  layout_decides s l None =
      weakened_construct_decides (λ i p. p.0) (λ a j x. x) (layout_without_eol_is_total_onward s l)
  layout_decides s l (Some k) = bind_decides (eol_decides t s k) (λ u. layout_below_is_total_onward s l)

  layout_is_total_onward : (s : ℕ) → low ≤ s + 1 → TotalOnward t s (layout t R)
  layout_is_total_onward s l = bind_decides (inline_blank_is_total_onward t) (λ u. peek_decides (layout_decides s l))

  pub pattern_of_family_is_total_onward : (s : ℕ) → low ≤ s + 1 → TotalOnward t s (pattern edition t R)
  pattern_of_family_is_total_onward s l = bind_decides (layout_is_total_onward s l) (λ y. yields_is_total_onward)

  variant_of_is_total_onward : (s : ℕ) (starred star : Bool) (key : KeyTree Span) (p : Option (PatternTree Span)) →
      TotalOnward t s (variant_of t starred star key p)
  variant_of_is_total_onward s starred star key None = fails_decides
  variant_of_is_total_onward s starred star key (Some p) =
      bind_decides (blank_is_total_onward t) (λ u. yields_is_total_onward)

  variant_after_is_total_onward : (s : ℕ) → low ≤ s + 1 → (starred star : Bool) →
      TotalOnward t s (variant_after edition t R starred star)
  variant_after_is_total_onward s l starred star =
      bind_decides (blank_is_total_onward t)
      (λ u. bind_decides (key_is_total_onward t)
      (λ key. bind_decides (blank_is_total_onward t)
      (λ u. bind_decides (strict_is_total_onward (token_is_consuming t 93))
      (λ u. bind_decides (pattern_of_family_is_total_onward s l)
      (λ value. variant_of_is_total_onward s starred star key value)))))

  variants_end_decides : (s : ℕ) (starred star : Bool) →
      Decides (From t s) (variants_end edition starred star) (more_on {S = Bool} t s)
  variants_end_decides s starred star = any_branch_decides (yields_decides (λ i p. p)) fails_decides

  -- where there is a `[`, the variant goes on after it
  abbrev Bracket : (starred star : Bool) → Construct (More (VariantTree Span) Bool)
  Bracket starred star =
      optional t 91 >>= λ bracket.
      branch_on bracket (variant_after edition t R starred star) (variants_end edition starred star)

  item_bracket_is_consuming : (s : ℕ) → low ≤ s + 1 → (starred star : Bool) → TotalConsumingItem t s
      (Bracket starred star)
  item_bracket_is_consuming s l starred star =
      bind_decides (optional_decides t s 91) (λ bracket. branch_on_decides
      (λ e. weakened_construct_decides (λ i p. p.past e) (more_earlier t s)
      (variant_after_is_total_onward (s + 1) (omega arith) starred star))
      (λ e. weakened_construct_decides (λ i p. p.at) (λ a j x. x) (variants_end_decides s starred star)))

  only_star_is_total_onward : (s : ℕ) (starred star : Bool) → TotalOnward t s (only_star starred star)
  only_star_is_total_onward s starred star = any_branch_decides fails_decides yields_is_total_onward

  item_variant_is_consuming : (s : ℕ) → low ≤ s + 1 → (starred : Bool) →
      TotalConsumingItem t s (next_variant edition t R starred)
  item_variant_is_consuming s l starred =
      bind_decides (optional_is_total_onward t 42)
      (λ star. bind_decides (only_star_is_total_onward s starred star)
      (λ u. item_bracket_is_consuming s l starred star))

  variants_are_total_onward : (s : ℕ) → low ≤ s + 1 → (starred : Bool) →
      TotalOnward t s (more_variants edition t R starred)
  variants_are_total_onward s l starred =
      many_is_total_onward t (next_variant edition t R) _ _ s (λ m k starred. item_variant_is_consuming m (omega arith)
      starred) s
      (omega arith)
      starred

  -- ---- expressions

  abbrev AtArrow : ℕ → Bool → ℕ → Type 0
  AtArrow s arrow i = From t s i × (has_arrow t i ≡ arrow)

  place_after_arrow_is_onward : (s i j : ℕ) → AtArrow s true i → Steps 2 i j → From t s j
  place_after_arrow_is_onward s i j p w =
      let q = p.0 in
      let late = q.late in
      let by = w.by in
      let l =
      byte_that_passes_is_in_text (λ c. c == 62) t (i + 1)
      (and_gives_right (has_byte t 45 i) (has_byte t 62 (i + 1)) p.1) in
      record { late = omega arith; in_text = omega arith }

  variants_after_arrow_are_total_onward : (s : ℕ) → low ≤ s + 1 →
      TotalOnward t s
      (inline_blank t >>= λ u. peek (after_eol t) arrow_line_end >>= λ u. blank t >>= λ u.
      more_variants edition t R false)
  variants_after_arrow_are_total_onward s l =
      bind_decides (inline_blank_is_total_onward t)
      (λ u. bind_decides (arrow_is_total_onward t) (λ u. bind_decides (blank_is_total_onward t)
      (λ u. variants_are_total_onward s l false)))

  variants_decides : (s : ℕ) → low ≤ s + 1 →
      Decides (AtArrow s true) (variants_of_select edition t R) (λ vs. From t s)
  variants_decides s l =
      bind_decides (skip_decides (λ i p. (i + 2, record { by = refl })) (place_after_arrow_is_onward s))
      (λ u. variants_after_arrow_are_total_onward s l)

  select_decides : (s : ℕ) → low ≤ s + 1 → (e : InlineTree Span) (o : Option Kind) →
      Decides (AtArrow s true) (select_with edition t R e o) (λ x. From t s)
  select_decides s l e None = bind_decides (variants_decides s l) (λ vs. yields_decides (λ i p. p))
  select_decides s l e (Some k) = fails_decides

  expression_without_arrow_is_total_onward : (s : ℕ) (e : InlineTree Span) →
      TotalOnward t s (branch_on (is_term_attribute e) (fails TermAttributeAsPlaceable) (yields (inline e)))
  expression_without_arrow_is_total_onward s e = any_branch_decides fails_decides yields_is_total_onward

  abbrev AfterBlank : InlineTree Span → Bool → Construct (ExpressionTree Span)
  AfterBlank e arrow =
      branch_on arrow (select_with edition t R e (selector_fault e))
      (branch_on (is_term_attribute e) (fails TermAttributeAsPlaceable) (yields (inline e)))

  expression_by_arrow_is_total_onward : (s : ℕ) → low ≤ s + 1 → (e : InlineTree Span) →
      TotalOnward t s (peek (has_arrow t) yields >>= λ arrow. AfterBlank e arrow)
  expression_by_arrow_is_total_onward s l e =
      bind_decides {mid = AtArrow s} (peek_decides (λ a. yields_decides (λ i p. p))) (λ arrow. branch_on_decides
      (λ y. weakened_construct_decides (λ i p. (p.0, p.1 ∙ y)) (λ a j x. x) (select_decides s l e (selector_fault e)))
      (λ y. weakened_construct_decides (λ i p. p.0) (λ a j x. x) (expression_without_arrow_is_total_onward s e)))

  pub expression_is_total_onward : (s : ℕ) → low ≤ s + 1 → TotalOnward t s (expression edition t R)
  expression_is_total_onward s l =
      bind_decides (strict_is_total_onward (inline_is_consuming t R low h s l))
      (λ e. bind_decides (blank_is_total_onward t) (λ u. expression_by_arrow_is_total_onward s l e))

-- ---- the family

module _ (edition : Edition) (t : List ℕ) where
  family_past_end_is_total_onward : (s : ℕ) → length t < s → TotalOnwardFamily t s (within edition t zero)
  family_past_end_is_total_onward s l = record { expression = none_past_end s l; argument_list = none_past_end s l }

  next_depth_is_total_onward : (n s : ℕ) → ((m : ℕ) → s + 1 ≤ m → TotalOnwardFamily t m (within edition t n)) →
      TotalOnwardFamily t s (within edition t (suc n))
  unfolding within
  next_depth_is_total_onward n s h = record {
    expression = expression_is_total_onward edition t (within edition t n) (s + 1) h s (omega arith);
    argument_list = arguments_are_total_onward t (within edition t n) (s + 1) h s (omega arith) [];
  }

  -- What nests no deeper than a number has an outcome at each place after which no more bytes are left than the
  -- number.
  pub deep_enough_family_is_total_onward : (n s : ℕ) → length t < s + n → TotalOnwardFamily t s (within edition t n)
  deep_enough_family_is_total_onward zero s l = family_past_end_is_total_onward s (omega arith)
  deep_enough_family_is_total_onward (suc n) s l =
      next_depth_is_total_onward n s (λ m k. deep_enough_family_is_total_onward n m (omega arith))

  -- so a pattern has
  pub pattern_within_depth_is_total_onward : (n s : ℕ) → length t ≤ s + n →
      TotalOnward t s (pattern edition t (within edition t n))
  pattern_within_depth_is_total_onward n s l =
      pattern_of_family_is_total_onward edition t (within edition t n) (s + 1)
      (λ m k. deep_enough_family_is_total_onward n m (omega arith)) s (omega arith)

  -- what nests has an outcome at each place of the text
  family_is_onward : (s : ℕ) → TotalOnwardFamily t s (family edition t)
  unfolding family
  family_is_onward s =
      let w = deep_enough_family_is_total_onward (length t + 1) s (omega arith) in
      let u = family_is_sound edition t (InText t) (places_in_text_are_boundaries t) in
      record {
        expression = record {
          has = λ i p. (let x = w.expression.has i p in (x.0, (length t + 1, x.1)));
          on = sound_construct_goes_onward (u.expression s);
        };
        argument_list = record {
          has = λ i p. (let x = w.argument_list.has i p in (x.0, (length t + 1, x.1)));
          on = sound_construct_goes_onward (u.argument_list s);
        };
      }

  -- a pattern has an outcome at each place of the text
  pub pattern_is_total_onward : {s : ℕ} → TotalOnward t s (grammar.pattern edition t)
  pattern_is_total_onward {s = s} =
      pattern_of_family_is_total_onward edition t (family edition t) 0 (λ s l. family_is_onward s) s
      (omega arith)
