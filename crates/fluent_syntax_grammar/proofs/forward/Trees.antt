-- Each node is read back: down the tree.
use Rattle.std.proofs.Common.{◌≡◌, ℕ, ◌+◌, List, [], ◌∷◌, Option, Bool, true, false, refl, arith}
use Rattle.std.specs.Prelude.{◌&&◌, ◌==◌, not, nat_le, is_none}
use Rattle.std.specs.List.{list_all}
use Rattle.fluent_syntax_tree.specs.Tree.{KeyTree, name_key, number_key, ExpressionTree, select, inline, InlineTree}
use Rattle.fluent_syntax_tree.specs.Tree.{string_literal, number_literal, function_reference, message_reference}
use Rattle.fluent_syntax_tree.specs.Tree.{term_reference, variable_reference, inline_placeable, ArgumentsTree}
use Rattle.fluent_syntax_tree.specs.Tree.{arguments, MaybeArguments, no_arguments, some_arguments, InlineTrees}
use Rattle.fluent_syntax_tree.specs.Tree.{no_inlines, inlines, NamedTrees, no_named, nameds, named_argument}
use Rattle.fluent_syntax_tree.specs.Tree.{VariantTrees, no_variants, variants, variant, PatternTree, no_elements}
use Rattle.fluent_syntax_tree.specs.Tree.{elements, text_element, placeable}
use Rattle.fluent_syntax_tree.specs.declared.edition.Edition.{Edition}
use Rattle.fluent_syntax_grammar.specs.Written.{Text, is_multiline}
use Rattle.fluent_syntax_grammar.specs.Spellings.{is_name}
use Rattle.fluent_syntax_grammar.specs.Inline.{is_callee_byte}
use Rattle.fluent_syntax_grammar.specs.Arguments.{is_used}
use Rattle.fluent_syntax_grammar.specs.Expressions.{is_term_attribute, selector_fault}
use Rattle.fluent_syntax_grammar.specs.Rules.{inline_obeys, optional_arguments_obey, arguments_obey, inlines_obey}
use Rattle.fluent_syntax_grammar.specs.Rules.{named_arguments_obey, named_obeys, expression_obeys, variants_obey}
use Rattle.fluent_syntax_grammar.specs.Rules.{variant_obeys, key_obeys, option_obeys, elements_obey, pattern_obeys}
use Rattle.fluent_syntax_grammar.specs.Readable.{are_named_well, is_argument_value, is_expression, is_pattern, defaults}
use Rattle.fluent_syntax_grammar.specs.Canonical.{canonical_rules, is_flush}
use Rattle.fluent_syntax_grammar.proofs.Obeys.{expression_obeys_inline, parts_of_canonical_select_obey}
use Rattle.fluent_syntax_grammar.proofs.Facts.{and_gives_left, and_gives_right, same_by_test}
use Rattle.fluent_syntax_grammar.proofs.forward.Arguments.{InlineReadsBack, ArgumentListReadsBack}
use Rattle.fluent_syntax_grammar.proofs.forward.Arguments.{empty_argument_list_reads_back}
use Rattle.fluent_syntax_grammar.proofs.forward.Arguments.{positional_reads_back, named_reads_back}
use Rattle.fluent_syntax_grammar.proofs.forward.References.{MaybeArgumentsReadBack, string_literal_reads_back}
use Rattle.fluent_syntax_grammar.proofs.forward.References.{number_literal_reads_back, variable_reference_reads_back}
use Rattle.fluent_syntax_grammar.proofs.forward.References.{message_reference_reads_back, function_reference_reads_back}
use Rattle.fluent_syntax_grammar.proofs.forward.References.{term_reference_reads_back}
use Rattle.fluent_syntax_grammar.proofs.forward.References.{no_arguments_read_back, some_arguments_read_back}
use Rattle.fluent_syntax_grammar.proofs.forward.Expressions.{ExpressionReadsBack, inline_expression_reads_back}
use Rattle.fluent_syntax_grammar.proofs.forward.Expressions.{inline_placeable_reads_back}
use Rattle.fluent_syntax_grammar.proofs.forward.Expressions.{placeable_reads_back, double_placeable_reads_back}
use Rattle.fluent_syntax_grammar.proofs.forward.Selects.{VariantsReadBack, select_reads_back, variants_end_reads_back}
use Rattle.fluent_syntax_grammar.proofs.forward.Selects.{variant_reads_back, default_reads_back, key_obeys'}
use Rattle.fluent_syntax_grammar.proofs.forward.OneLine.{ElementReadsBack, ElementsReadBack}
use Rattle.fluent_syntax_grammar.proofs.forward.OneLinePatterns.{one_line_reads_back}
use Rattle.fluent_syntax_grammar.proofs.forward.Patterns.{multiline_reads_back}
use Rattle.fluent_syntax_grammar.proofs.forward.Entries.{PatternReadsBack}
use Rattle.fluent_syntax_grammar.proofs.Tests.{not_true_is_false}

-- An argument list is read back.
abbrev ArgumentsReadBack : (edition : Edition) (t : List ℕ) (level : ℕ) → ArgumentsTree Text → Type 0
ArgumentsReadBack edition t level (arguments ps ns) = ArgumentListReadsBack edition t level [] ps ns

module _ (edition : Edition) (t : List ℕ) where
  -- a pattern by whether it is multiline
  pattern_reads_back_by_lines : (p : PatternTree Text) (x : Bool) → is_multiline p ≡ x → is_pattern edition p ≡ true →
      is_flush edition p ≡ true → ((level : ℕ) → ElementsReadBack edition t level p) → (level : ℕ) →
      PatternReadsBack edition t level p
  pattern_reads_back_by_lines p true e g f h level = multiline_reads_back edition t level p e g f (h (level + 1))
  pattern_reads_back_by_lines p false e g f h level = one_line_reads_back edition t level p e g (h level)

  select_reads_back_as_element : (level : ℕ) (e : InlineTree Text) (vs : VariantTrees Text) →
      ExpressionReadsBack edition t level (select e vs) → ElementReadsBack edition t level (select e vs)
  select_reads_back_as_element level e vs h =
      record { back = λ i tail l. placeable_reads_back edition t level (select e vs) (32 ∷ []) [] tail i refl refl h l }

  placeable_in_placeable_reads_back : (level : ℕ) (e : ExpressionTree Text) → ExpressionReadsBack edition t level e →
      ElementReadsBack edition t level (inline (inline_placeable e))
  placeable_in_placeable_reads_back level e h =
      record { back = λ i tail l. double_placeable_reads_back edition t level e i tail h l }

  string_reads_back_as_element : (level : ℕ) (v : Text) → InlineReadsBack edition t level (string_literal v) →
      ElementReadsBack edition t level (inline (string_literal v))
  string_reads_back_as_element level v h =
      record {
        back =
            λ i tail l. placeable_reads_back edition t level (inline (string_literal v)) (32 ∷ [])
            (32 ∷ []) tail i refl refl
            (inline_expression_reads_back edition t level (string_literal v) refl h) l;
      }

  number_reads_back_as_element : (level : ℕ) (v : Text) → InlineReadsBack edition t level (number_literal v) →
      ElementReadsBack edition t level (inline (number_literal v))
  number_reads_back_as_element level v h =
      record {
        back =
            λ i tail l. placeable_reads_back edition t level (inline (number_literal v)) (32 ∷ [])
            (32 ∷ []) tail i refl refl
            (inline_expression_reads_back edition t level (number_literal v) refl h) l;
      }

  function_reads_back_as_element : (level : ℕ) (id : Text) (a : ArgumentsTree Text) →
      InlineReadsBack edition t level (function_reference id a) →
      ElementReadsBack edition t level (inline (function_reference id a))
  function_reads_back_as_element level id a h =
      record {
        back =
            λ i tail l. placeable_reads_back edition t level (inline (function_reference id a)) (32 ∷ [])
            (32 ∷ []) tail i
            refl
            refl (inline_expression_reads_back edition t level (function_reference id a) refl h) l;
      }

  message_reads_back_as_element : (level : ℕ) (id : Text) (a : Option Text) →
      InlineReadsBack edition t level (message_reference id a) →
      ElementReadsBack edition t level (inline (message_reference id a))
  message_reads_back_as_element level id a h =
      record {
        back =
            λ i tail l. placeable_reads_back edition t level (inline (message_reference id a)) (32 ∷ [])
            (32 ∷ []) tail i refl
            refl (inline_expression_reads_back edition t level (message_reference id a) refl h) l;
      }

  term_reads_back_as_element : (level : ℕ) (id : Text) (a : Option Text) (c : MaybeArguments Text) →
      is_term_attribute (term_reference id a c) ≡ false → InlineReadsBack edition t level (term_reference id a c) →
      ElementReadsBack edition t level (inline (term_reference id a c))
  term_reads_back_as_element level id a c e h =
      record {
        back =
            λ i tail l. placeable_reads_back edition t level (inline (term_reference id a c)) (32 ∷ [])
            (32 ∷ []) tail i refl
            refl
            (inline_expression_reads_back edition t level (term_reference id a c) e h) l;
      }

  variable_reads_back_as_element : (level : ℕ) (id : Text) → InlineReadsBack edition t level (variable_reference id) →
      ElementReadsBack edition t level (inline (variable_reference id))
  variable_reads_back_as_element level id h =
      record {
        back =
            λ i tail l. placeable_reads_back edition t level (inline (variable_reference id)) (32 ∷ [])
            (32 ∷ []) tail i refl
            refl
            (inline_expression_reads_back edition t level (variable_reference id) refl h) l;
      }

  -- what an expression is asked
  canonical_inline_is_no_term_attribute : (e : InlineTree Text) →
      expression_obeys (canonical_rules edition) (inline e) ≡ true → is_term_attribute e ≡ false
  canonical_inline_is_no_term_attribute e h =
      not_true_is_false (is_term_attribute e)
      (and_gives_left (not (is_term_attribute e)) true (and_gives_left (not (is_term_attribute e) && true) _ h))

  canonical_selector_has_no_fault : (e : InlineTree Text) (vs : VariantTrees Text) →
      expression_obeys (canonical_rules edition) (select e vs) ≡ true → is_none (selector_fault e) ≡ true
  canonical_selector_has_no_fault e vs h =
      and_gives_left (is_none (selector_fault e)) (nat_le (defaults vs) 1)
      (and_gives_left (is_expression (select e vs)) (defaults vs == 1)
      (and_gives_left (is_expression (select e vs) && (defaults vs == 1)) _ h))

  canonical_select_has_one_default : (e : InlineTree Text) (vs : VariantTrees Text) →
      expression_obeys (canonical_rules edition) (select e vs) ≡ true → defaults vs ≡ 1
  canonical_select_has_one_default e vs h =
      same_by_test (defaults vs) 1
      (and_gives_right (is_expression (select e vs)) (defaults vs == 1)
      (and_gives_left (is_expression (select e vs) && (defaults vs == 1)) _ h))

  pub canonical_key_obeys_its_form : (key : KeyTree Text) → key_obeys (canonical_rules edition) key ≡ true →
      key_obeys' key ≡ true
  canonical_key_obeys_its_form (name_key v) h = h
  canonical_key_obeys_its_form (number_key v) h = h

  canonical_pattern_is_pattern_and_flush : (p : PatternTree Text) (b : Bool) →
      ((is_pattern edition p && is_flush edition p) && b) ≡ true →
      (is_pattern edition p ≡ true) × (is_flush edition p ≡ true) × (b ≡ true)
  canonical_pattern_is_pattern_and_flush p b h =
      let c = and_gives_left (is_pattern edition p && is_flush edition p) b h in (
        and_gives_left (is_pattern edition p) (is_flush edition p) c,
        and_gives_right (is_pattern edition p) (is_flush edition p) c,
        and_gives_right (is_pattern edition p && is_flush edition p) b h,
      )

  mutual
    expression_reads_back : (level : ℕ) (e : ExpressionTree Text) →
        expression_obeys (canonical_rules edition) e ≡ true →
        ExpressionReadsBack edition t level e
    expression_reads_back level (inline e) h =
        inline_expression_reads_back edition t level e
        (not_true_is_false (is_term_attribute e)
        (and_gives_left (not (is_term_attribute e)) true (and_gives_left (not (is_term_attribute e) && true) _ h)))
        (inline_reads_back level e (and_gives_right (not (is_term_attribute e) && true) _ h))
    expression_reads_back level (select e vs) h =
        select_reads_back edition t level e vs (canonical_selector_has_no_fault e vs h)
        (inline_reads_back level e (and_gives_left (inline_obeys (canonical_rules edition) e) _
        (parts_of_canonical_select_obey edition e vs h)))
        (variants_with_one_default_read_back (level + 1) vs (canonical_select_has_one_default e vs h)
        (and_gives_right (inline_obeys (canonical_rules edition) e) _ (parts_of_canonical_select_obey edition e vs h)))

    inline_reads_back : (level : ℕ) (e : InlineTree Text) → inline_obeys (canonical_rules edition) e ≡ true →
        InlineReadsBack edition t level e
    inline_reads_back level (string_literal v) h = string_literal_reads_back edition t level v h
    inline_reads_back level (number_literal v) h = number_literal_reads_back edition t level v h
    inline_reads_back level (function_reference id (arguments ps ns)) h =
        function_reference_reads_back edition t level id ps ns h
        (argument_list_reads_back level (arguments ps ns) (and_gives_right (list_all is_callee_byte id) _
        (and_gives_right (is_name id) _ h)))
    inline_reads_back level (message_reference id a) h = message_reference_reads_back edition t level id a h
    inline_reads_back level (term_reference id a c) h =
        term_reference_reads_back edition t level id a c h
        (optional_arguments_read_back level c
        (and_gives_right (option_obeys is_name a) _ (and_gives_right (is_name id) _ h)))
    inline_reads_back level (variable_reference id) h = variable_reference_reads_back edition t level id h
    inline_reads_back level (inline_placeable e) h =
        inline_placeable_reads_back edition t level e h (expression_reads_back level e h)

    optional_arguments_read_back : (level : ℕ) (a : MaybeArguments Text) →
        optional_arguments_obey (canonical_rules edition) a ≡ true →
        MaybeArgumentsReadBack edition t level a
    optional_arguments_read_back level no_arguments h = no_arguments_read_back edition t level
    optional_arguments_read_back level (some_arguments (arguments ps ns)) h =
        some_arguments_read_back edition t level ps ns (argument_list_reads_back level (arguments ps ns) h)

    argument_list_reads_back : (level : ℕ) (a : ArgumentsTree Text) →
        arguments_obey (canonical_rules edition) a ≡ true → ArgumentsReadBack edition t level a
    argument_list_reads_back level (arguments ps ns) h =
        let rest = and_gives_right (are_named_well [] ns) _ h in
        positionals_read_back level ps ns (and_gives_left (inlines_obey (canonical_rules edition) ps) _ rest)
        (nameds_read_back level [] ns (and_gives_left (are_named_well [] ns) _ h)
        (and_gives_right (inlines_obey (canonical_rules edition) ps) _ rest))

    positionals_read_back : (level : ℕ) (ps : InlineTrees Text) (ns : NamedTrees Text) →
        inlines_obey (canonical_rules edition) ps ≡ true → ArgumentListReadsBack edition t level [] no_inlines ns →
        ArgumentListReadsBack edition t level [] ps ns
    positionals_read_back level no_inlines ns h k = k
    positionals_read_back level (inlines e es) ns h k =
        positional_reads_back edition t level e es ns
        (inline_reads_back level e (and_gives_left (inline_obeys (canonical_rules edition) e) _ h))
        (positionals_read_back level es ns (and_gives_right (inline_obeys (canonical_rules edition) e) _ h) k)

    nameds_read_back : (level : ℕ) (names : List Text) (ns : NamedTrees Text) → are_named_well names ns ≡ true →
        named_arguments_obey (canonical_rules edition) ns ≡ true →
        ArgumentListReadsBack edition t level names no_inlines ns
    nameds_read_back level names no_named g h = empty_argument_list_reads_back edition t level names
    nameds_read_back level names (nameds (named_argument name e) ns) g h =
        let this = and_gives_left (named_obeys (canonical_rules edition) (named_argument name e)) _ h in
        let more = and_gives_right (not (is_used name names)) _ g in
        named_reads_back edition t level names name e ns (and_gives_left (is_name name) _ this)
        (inline_reads_back level e (and_gives_right (is_name name) _ this))
        (not_true_is_false (is_used name names) (and_gives_left (not (is_used name names)) _ g))
        (and_gives_left (is_argument_value e) _ more)
        (nameds_read_back level (name ∷ names) ns (and_gives_right (is_argument_value e) _ more)
        (and_gives_right (named_obeys (canonical_rules edition) (named_argument name e)) _ h))

    -- variants, of which one is the default
    variants_with_one_default_read_back : (level : ℕ) (vs : VariantTrees Text) → defaults vs ≡ 1 →
        variants_obey (canonical_rules edition) vs ≡ true → VariantsReadBack edition t level false vs
    variants_with_one_default_read_back level no_variants e h = absurd (omega arith)
    variants_with_one_default_read_back level (variants (variant key value false) vs) e h =
        let this = and_gives_left (variant_obeys (canonical_rules edition) (variant key value false)) _ h in
        variant_reads_back edition t level false key value vs
        (canonical_key_obeys_its_form key (and_gives_left (key_obeys (canonical_rules edition) key) _ this))
        (pattern_reads_back value (and_gives_right (key_obeys (canonical_rules edition) key) _ this) level)
        (variants_with_one_default_read_back level vs e
        (and_gives_right (variant_obeys (canonical_rules edition) (variant key value false)) _ h))
    variants_with_one_default_read_back level (variants (variant key value true) vs) e h =
        let this = and_gives_left (variant_obeys (canonical_rules edition) (variant key value true)) _ h in
        default_reads_back edition t level key value vs
        (canonical_key_obeys_its_form key (and_gives_left (key_obeys (canonical_rules edition) key) _ this))
        (pattern_reads_back value (and_gives_right (key_obeys (canonical_rules edition) key) _ this) level)
        (variants_without_default_read_back level vs (omega arith)
        (and_gives_right (variant_obeys (canonical_rules edition) (variant key value true)) _ h))

    -- variants after the default
    variants_without_default_read_back : (level : ℕ) (vs : VariantTrees Text) → defaults vs ≡ 0 →
        variants_obey (canonical_rules edition) vs ≡ true → VariantsReadBack edition t level true vs
    variants_without_default_read_back level no_variants e h = variants_end_reads_back edition t level
    variants_without_default_read_back level (variants (variant key value false) vs) e h =
        let this = and_gives_left (variant_obeys (canonical_rules edition) (variant key value false)) _ h in
        variant_reads_back edition t level true key value vs
        (canonical_key_obeys_its_form key (and_gives_left (key_obeys (canonical_rules edition) key) _ this))
        (pattern_reads_back value (and_gives_right (key_obeys (canonical_rules edition) key) _ this) level)
        (variants_without_default_read_back level vs e
        (and_gives_right (variant_obeys (canonical_rules edition) (variant key value false)) _ h))
    variants_without_default_read_back level (variants (variant key value true) vs) e h = absurd (omega arith)

    -- Every pattern is read back.
    pub pattern_reads_back : (p : PatternTree Text) → pattern_obeys (canonical_rules edition) p ≡ true → (level : ℕ) →
        PatternReadsBack edition t level p
    pattern_reads_back no_elements h level = absurd cc
    pattern_reads_back (elements (text_element v) es) h level =
        let c = canonical_pattern_is_pattern_and_flush (elements (text_element v) es) _ h in
        pattern_reads_back_by_lines (elements (text_element v) es) (is_multiline (elements (text_element v) es)) refl
        c.0 c.1
        (λ l. elements_read_back es c.2 l) level
    pattern_reads_back (elements (placeable x) es) h level =
        let c = canonical_pattern_is_pattern_and_flush (elements (placeable x) es) _ h in
        pattern_reads_back_by_lines (elements (placeable x) es) (is_multiline (elements (placeable x) es)) refl c.0 c.1
        (λ l. (
          element_reads_back x (and_gives_left (expression_obeys (canonical_rules edition) x) _ c.2) l,
          elements_read_back es (and_gives_right (expression_obeys (canonical_rules edition) x) _ c.2) l,
        )) level

    elements_read_back : (es : PatternTree Text) → elements_obey (canonical_rules edition) es ≡ true → (level : ℕ) →
        ElementsReadBack edition t level es
    elements_read_back no_elements h level = tt
    elements_read_back (elements (text_element v) es) h level = elements_read_back es h level
    elements_read_back (elements (placeable x) es) h level = (
      element_reads_back x (and_gives_left (expression_obeys (canonical_rules edition) x) _ h) level,
      elements_read_back es (and_gives_right (expression_obeys (canonical_rules edition) x) _ h) level,
    )

    element_reads_back : (e : ExpressionTree Text) → expression_obeys (canonical_rules edition) e ≡ true → (level : ℕ) →
        ElementReadsBack edition t level e
    element_reads_back (select e vs) h level =
        select_reads_back_as_element level e vs
        (select_reads_back edition t level e vs (canonical_selector_has_no_fault e vs h)
        (inline_reads_back level e (and_gives_left (inline_obeys (canonical_rules edition) e) _
        (parts_of_canonical_select_obey edition e vs h)))
        (variants_with_one_default_read_back (level + 1) vs (canonical_select_has_one_default e vs h)
        (and_gives_right (inline_obeys (canonical_rules edition) e) _ (parts_of_canonical_select_obey edition e vs h))))
    element_reads_back (inline (string_literal v)) h level =
        string_reads_back_as_element level v
        (string_literal_reads_back edition t level v (expression_obeys_inline edition (string_literal v) h))
    element_reads_back (inline (number_literal v)) h level =
        number_reads_back_as_element level v
        (number_literal_reads_back edition t level v (expression_obeys_inline edition (number_literal v) h))
    element_reads_back (inline (function_reference id (arguments ps ns))) h level =
        function_reads_back_as_element level id (arguments ps ns)
        (function_reference_reads_back edition t level id ps ns
        (expression_obeys_inline edition (function_reference id (arguments ps ns)) h)
        (argument_list_reads_back level (arguments ps ns)
        (and_gives_right (list_all is_callee_byte id)
        _ (and_gives_right (is_name id) _
        (expression_obeys_inline edition (function_reference id (arguments ps ns)) h)))))
    element_reads_back (inline (message_reference id a)) h level =
        message_reads_back_as_element level id a
        (message_reference_reads_back edition t level id a (expression_obeys_inline edition (message_reference id a) h))
    element_reads_back (inline (term_reference id a c)) h level =
        term_reads_back_as_element level id a c (canonical_inline_is_no_term_attribute (term_reference id a c) h)
        (term_reference_reads_back edition t level id a c (expression_obeys_inline edition (term_reference id a c) h)
        (optional_arguments_read_back level c
        (and_gives_right (option_obeys is_name a)
        _ (and_gives_right (is_name id) _ (expression_obeys_inline edition (term_reference id a c) h)))))
    element_reads_back (inline (variable_reference id)) h level =
        variable_reads_back_as_element level id (variable_reference_reads_back edition t level id
        (expression_obeys_inline edition (variable_reference id) h))
    element_reads_back (inline (inline_placeable e)) h level =
        placeable_in_placeable_reads_back level e
        (expression_reads_back level e (expression_obeys_inline edition (inline_placeable e) h))
