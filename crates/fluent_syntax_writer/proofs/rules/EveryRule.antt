-- The readable and the canonical rules are put together of each rule alone.
use Rattle.std.proofs.Common.{◌≡◌, ℕ, zero, suc, List, [], ◌∷◌, ◌++◌, take, drop, Option, Some, None, Bool, true, false}
use Rattle.std.proofs.Common.{◌&&◌, ◌||◌, ◌==◌, not, refl, sym, ap, ◌∙◌, arith, if◌then◌else◌}
use Rattle.std.proofs.lemmas.Bool.{lt-leb}
use Rattle.std.specs.Prelude.{nat_le, is_none}
use Rattle.std.specs.List.{list_all, list_any}
use Rattle.fluent_syntax_tree.specs.Tree.{ExpressionTree, select, inline, InlineTree, VariantTrees, ArgumentsTree}
use Rattle.fluent_syntax_tree.specs.Tree.{arguments, text_element, placeable, PatternTree, no_elements, elements}
use Rattle.fluent_syntax_tree.specs.Entry.{EntryTree}
use Rattle.fluent_syntax_tree.specs.declared.edition.Edition.{Edition}
use Rattle.fluent_syntax_grammar.specs.Expressions.{selector_fault, is_term_attribute}
use Rattle.fluent_syntax_grammar.specs.Elements.{is_nonblank, without_last_lf}
use Rattle.fluent_syntax_grammar.specs.Layout.{least}
use Rattle.fluent_syntax_grammar.specs.Written.{Text, has_lf, is_multiline, begins_with_mark}
use Rattle.fluent_syntax_grammar.specs.Spellings.{is_name, is_number, is_string}
use Rattle.fluent_syntax_grammar.specs.PatternTexts.{is_empty, is_brace, has_crlf, begins_with_space, after_spaces}
use Rattle.fluent_syntax_grammar.specs.Readable.{readable_rules, is_message, is_callee, is_text, are_lines}
use Rattle.fluent_syntax_grammar.specs.Readable.{ElementPosition, opening, after_line, within_line, after_placeable}
use Rattle.fluent_syntax_grammar.specs.Readable.{position_after, may_occur_at, may_precede, are_elements}
use Rattle.fluent_syntax_grammar.specs.Readable.{is_pattern, defaults, is_expression, are_arguments}
use Rattle.fluent_syntax_grammar.specs.Canonical.{canonical_rules, is_plain_comment, is_plain_line, hides_mark}
use Rattle.fluent_syntax_grammar.specs.Canonical.{line_indents, are_lone, are_flush, first_position, is_flush}
use Rattle.fluent_syntax_grammar.specs.Canonical.{has_one_default}
use Rattle.fluent_syntax_grammar.specs.Rules.{entry_obeys}
use Rattle.fluent_syntax_writer.specs.RuleSets.{number}
use Rattle.fluent_syntax_writer.specs.SingleRule.{every_rule, asks, single_rule, entry_keeps, has_line, comment_keeps}
use Rattle.fluent_syntax_writer.specs.SingleRule.{may_begin, is_tight, may_begin_line, spelling_keeps, place_keeps}
use Rattle.fluent_syntax_writer.specs.SingleRule.{texts_keep, has_element, flush_keeps, lines_keep, pattern_keeps}
use Rattle.fluent_syntax_writer.specs.SingleRule.{expression_keeps, have_values, have_new_names, arguments_keep}
use Rattle.fluent_syntax_writer.specs.declared.canonical.rules.Rule.{Rule}
use Rattle.fluent_syntax_writer.specs.declared.canonical.rules.Rule.TheVariants as rule
use Rattle.fluent_syntax_writer.proofs.rules.Named.{are_named_well_by_parts}
use Rattle.fluent_syntax_writer.proofs.rules.Sets.{and_is_associative, and_with_true_is_same}
use Rattle.fluent_syntax_grammar.proofs.RuleConjunction.{ArePartsOf, all_of_both_is_both_of_all}
use Rattle.fluent_syntax_grammar.proofs.RuleConjunction.{true_holds_of_all_parts}
use Rattle.fluent_syntax_grammar.proofs.RuleConjunction.{entry_obeys_each}

-- ---- What is asked of a node

-- all these rules are kept exactly where the whole test passes
record Are (ks : List Rule) (keeps : Rule → Bool) (whole : Bool) : Type 0 where
  each : whole ≡ list_all keeps ks

-- the test passes, or the rule that asks for it is not among these
abbrev asked : List Rule → Rule → Bool → Bool
asked ks asker passes = not (list_any (λ k. number asker == number k) ks) || passes

asked_now_or_later : (here later passes : Bool)
    → (not (here || later) || passes) ≡ ((if here then passes else true) && (not later || passes))
asked_now_or_later true true true = refl
asked_now_or_later true true false = refl
asked_now_or_later true false passes = sym (and_with_true_is_same passes)
asked_now_or_later false later passes = refl

asked_is_all_asks : (ks : List Rule) (asker : Rule) (passes : Bool)
    → asked ks asker passes ≡ list_all (λ k. asks asker k passes) ks
asked_is_all_asks [] asker passes = refl
asked_is_all_asks (k ∷ ks) asker passes =
    asked_now_or_later (number asker == number k) (list_any (λ k. number asker == number k) ks) passes
    ∙ ap (λ b. asks asker k passes && b) (asked_is_all_asks ks asker passes)

module _ {ks : List Rule} where
  asked_rule_passes_in_set : (asker : Rule) (passes : Bool) → Are ks (λ k. asks asker k passes) (asked ks asker passes)
  asked_rule_passes_in_set asker passes = record { each = asked_is_all_asks ks asker passes }

  true_is_right_by_each_rule : Are ks (λ k. true) true
  true_is_right_by_each_rule = record { each = true_holds_of_all_parts ks }

  -- of two parts of a node, or of two tests
  conjunction_passes_in_both_sets : {a b : Rule → Bool} {x y : Bool} → Are ks a x → Are ks b y →
      Are ks (λ k. a k && b k) (x && y)
  conjunction_passes_in_both_sets {a} {b} m n =
      record { each = rw (m.each, n.each) (sym (all_of_both_is_both_of_all a b ks)) }

  equal_tests_pass_in_same_sets : {a : Rule → Bool} {x y : Bool} → x ≡ y → Are ks a y → Are ks a x
  equal_tests_pass_in_same_sets same m = record { each = same ∙ m.each }

and_of_four_is_associative : (a b c d : Bool) → (a && (b && (c && d))) ≡ (((a && b) && c) && d)
and_of_four_is_associative a b c d = sym (and_is_associative (a && b) c d ∙ and_is_associative a b (c && d))

or_false : (b : Bool) → b ≡ (b || false)
or_false true = refl
or_false false = refl

-- ---- The rules of readable trees, and these more

module _ (more : List Rule) where
  abbrev ks : List Rule
  ks = take 23 every_rule ++ more

  comment_is_right_by_each_rule : (content : List Text) → Are ks (λ k. comment_keeps k content)
      ((are_lines content && asked more rule.EmptyComment (has_line content))
      && asked more rule.BlankCommentLine (list_all is_plain_line content))
  comment_is_right_by_each_rule content =
      conjunction_passes_in_both_sets
      (conjunction_passes_in_both_sets (asked_rule_passes_in_set rule.LfInComment (are_lines content))
      (asked_rule_passes_in_set rule.EmptyComment (has_line content)))
      (asked_rule_passes_in_set rule.BlankCommentLine (list_all is_plain_line content))

  -- ---- Patterns

  spelling_is_right_by_each_rule : (v : Text) → Are ks (λ k. spelling_keeps k v) (is_text v)
  spelling_is_right_by_each_rule v =
      let brace = not (list_any is_brace v) in
      let lf = not (has_lf (without_last_lf v)) in
      equal_tests_pass_in_same_sets (and_of_four_is_associative (not (is_empty v)) brace (not (has_crlf v)) lf)
      (conjunction_passes_in_both_sets
      (conjunction_passes_in_both_sets
      (conjunction_passes_in_both_sets (asked_rule_passes_in_set rule.EmptyText (not (is_empty v)))
      (asked_rule_passes_in_set rule.BraceInText brace))
      (asked_rule_passes_in_set rule.CrBeforeLf (not (has_crlf v)))) (asked_rule_passes_in_set rule.LfWithinText lf))

  module _ (edition : Edition) where
    place_is_right_by_each_rule : (multiline : Bool) (s : ElementPosition) (v : Text) (es : PatternTree Text)
        → Are ks (λ k. place_keeps edition k multiline s v es) (may_occur_at edition multiline s v es)
    place_is_right_by_each_rule true opening v es =
        equal_tests_pass_in_same_sets (sym (and_with_true_is_same (may_begin edition true v es)))
        (conjunction_passes_in_both_sets (asked_rule_passes_in_set rule.BlankFirstText (may_begin edition true v es))
        (asked_rule_passes_in_set rule.LeadingSpace (is_tight true v)))
    place_is_right_by_each_rule false opening v es =
        equal_tests_pass_in_same_sets (ap (λ b. b && not (begins_with_space v)) (or_false (is_nonblank v)))
        (conjunction_passes_in_both_sets (asked_rule_passes_in_set rule.BlankFirstText (may_begin edition false v es))
        (asked_rule_passes_in_set rule.LeadingSpace (is_tight false v)))
    place_is_right_by_each_rule multiline after_line v es =
        conjunction_passes_in_both_sets (asked_rule_passes_in_set rule.LineOfSpaces (may_begin_line edition v es))
        (asked_rule_passes_in_set rule.MarkedLine (not (begins_with_mark (after_spaces v))))
    place_is_right_by_each_rule multiline within_line v es = asked_rule_passes_in_set rule.TextAfterText false
    place_is_right_by_each_rule multiline after_placeable v es = true_is_right_by_each_rule

    texts_are_right_by_each_rule : (multiline : Bool) (s : ElementPosition) (p : PatternTree Text)
        → Are ks (λ k. texts_keep edition k multiline s p) (are_elements edition multiline s p)
    texts_are_right_by_each_rule multiline s no_elements = true_is_right_by_each_rule
    texts_are_right_by_each_rule multiline s (elements (placeable e) es) =
        texts_are_right_by_each_rule multiline after_placeable es
    texts_are_right_by_each_rule multiline s (elements (text_element v) es) =
        equal_tests_pass_in_same_sets
        (and_of_four_is_associative (is_text v) (may_occur_at edition multiline s v es) (may_precede v es)
        (are_elements edition multiline (position_after v) es))
        (conjunction_passes_in_both_sets
        (conjunction_passes_in_both_sets
        (conjunction_passes_in_both_sets (spelling_is_right_by_each_rule v)
        (place_is_right_by_each_rule multiline s v es))
        (asked_rule_passes_in_set rule.BlankEnd (may_precede v es)))
        (texts_are_right_by_each_rule multiline (position_after v) es))

    -- what is asked of the lines
    abbrev flush_asked : Option ℕ → ElementPosition → PatternTree Text → Bool
    flush_asked (Some n) s p = asked more rule.CommonIndent (n == 0)
    flush_asked None s p = asked more rule.SpacesOnBlankLine (are_lone s p)

    flush_is_right_by_each_rule : (o : Option ℕ) (s : ElementPosition) (p : PatternTree Text)
        → Are ks (λ k. flush_keeps k o s p) (flush_asked o s p)
    flush_is_right_by_each_rule (Some n) s p = asked_rule_passes_in_set rule.CommonIndent (n == 0)
    flush_is_right_by_each_rule None s p = asked_rule_passes_in_set rule.SpacesOnBlankLine (are_lone s p)

    abbrev lines_asked : (multiline : Bool) → PatternTree Text → Bool
    lines_asked multiline p =
        not multiline
        || asked more rule.HiddenMark (not (hides_mark p))
        && flush_asked (least (line_indents edition (first_position p) p)) (first_position p) p

    lines_are_right_by_each_rule : (multiline : Bool) (p : PatternTree Text)
        → Are ks (λ k. lines_keep edition k multiline p) (lines_asked multiline p)
    lines_are_right_by_each_rule false p = true_is_right_by_each_rule
    lines_are_right_by_each_rule true p =
        conjunction_passes_in_both_sets (asked_rule_passes_in_set rule.HiddenMark (not (hides_mark p)))
        (flush_is_right_by_each_rule (least (line_indents edition (first_position p) p)) (first_position p) p)

    pattern_test_is_of_its_form : (p : PatternTree Text)
        → is_pattern edition p ≡ (has_element p && are_elements edition (is_multiline p) opening p)
    pattern_test_is_of_its_form no_elements = refl
    pattern_test_is_of_its_form (elements e es) = refl

    pattern_is_right_by_each_rule : (p : PatternTree Text)
        → Are ks (λ k. pattern_keeps edition k p) (is_pattern edition p && lines_asked (is_multiline p) p)
    pattern_is_right_by_each_rule p =
        equal_tests_pass_in_same_sets (ap (λ b. b && lines_asked (is_multiline p) p) (pattern_test_is_of_its_form p))
        (conjunction_passes_in_both_sets
        (conjunction_passes_in_both_sets (asked_rule_passes_in_set rule.EmptyPattern (has_element p))
        (texts_are_right_by_each_rule (is_multiline p) opening p))
        (lines_are_right_by_each_rule (is_multiline p) p))

  -- ---- Expressions and arguments

  select_is_right_by_each_rule : (e : InlineTree Text) (vs : VariantTrees Text)
      → Are ks (λ k. expression_keeps k (select e vs))
      (is_expression (select e vs) && asked more rule.NoDefault (nat_le 1 (defaults vs)))
  select_is_right_by_each_rule e vs =
      conjunction_passes_in_both_sets
      (conjunction_passes_in_both_sets
      (asked_rule_passes_in_set rule.ForbiddenSelector (is_none (selector_fault e)))
      (asked_rule_passes_in_set rule.SecondDefault (nat_le (defaults vs) 1)))
      (asked_rule_passes_in_set rule.NoDefault (nat_le 1 (defaults vs)))

  arguments_are_right_by_each_rule : (a : ArgumentsTree Text) → Are ks (λ k. arguments_keep k a) (are_arguments a)
  arguments_are_right_by_each_rule (arguments ps ns) =
      equal_tests_pass_in_same_sets (are_named_well_by_parts [] ns)
      (conjunction_passes_in_both_sets (asked_rule_passes_in_set rule.ForbiddenArgument (have_values ns))
      (asked_rule_passes_in_set rule.RepeatedArgument (have_new_names [] ns)))

-- ---- Readable trees

abbrev pub readable : List Rule
readable = take 23 every_rule

readable_rules_ask_no_flush : (edition : Edition) (multiline : Bool) (o : Option ℕ) (s : ElementPosition)
    (p : PatternTree Text) → true ≡ (not multiline || flush_asked [] edition o s p)
readable_rules_ask_no_flush edition false o s p = refl
readable_rules_ask_no_flush edition true (Some n) s p = refl
readable_rules_ask_no_flush edition true None s p = refl

readable_rules_judge_pattern : (edition : Edition) (p : PatternTree Text)
    → Are readable (λ k. pattern_keeps edition k p) (is_pattern edition p)
readable_rules_judge_pattern edition p =
    let number = least (line_indents edition (first_position p) p) in
    equal_tests_pass_in_same_sets (sym (and_with_true_is_same (is_pattern edition p))
    ∙ ap (λ b. is_pattern edition p && b)
    (readable_rules_ask_no_flush edition (is_multiline p) number (first_position p) p))
    (pattern_is_right_by_each_rule [] edition p)

readable_rules_judge_expression : (e : ExpressionTree Text) → Are readable (λ k. expression_keeps k e) (is_expression e)
readable_rules_judge_expression (select e vs) =
    equal_tests_pass_in_same_sets (sym (and_with_true_is_same (is_expression (select e vs))))
    (select_is_right_by_each_rule [] e vs)
readable_rules_judge_expression (inline e) = asked_rule_passes_in_set rule.TermAttribute (not (is_term_attribute e))

readable_rules_judge_comment : (content : List Text) → Are readable (λ k. comment_keeps k content) (are_lines content)
readable_rules_judge_comment content =
    equal_tests_pass_in_same_sets
    (sym (and_with_true_is_same (are_lines content && true) ∙ and_with_true_is_same (are_lines content)))
    (comment_is_right_by_each_rule [] content)

single_rules_are_parts_of_readable : (edition : Edition)
    → ArePartsOf readable (single_rule edition) (readable_rules edition)
single_rules_are_parts_of_readable edition = record {
  junk_parts = asked_is_all_asks readable rule.Junk false;
  message_parts = λ m. asked_is_all_asks readable rule.EmptyMessage (is_message m);
  comment_parts = λ content. (readable_rules_judge_comment content).each;
  pattern_parts = λ p. (readable_rules_judge_pattern edition p).each;
  expression_parts = λ e. (readable_rules_judge_expression e).each;
  callee_parts = λ v. asked_is_all_asks readable rule.ForbiddenCallee (is_callee v);
  arguments_parts = λ a. (arguments_are_right_by_each_rule [] a).each;
  string_parts = λ v. asked_is_all_asks readable rule.MisspelledString (is_string v);
  number_parts = λ v. asked_is_all_asks readable rule.MisspelledNumber (is_number v);
  name_parts = λ v. asked_is_all_asks readable rule.MisspelledName (is_name v);
}

-- An entry is readable exactly where it keeps each of the first rules alone.
pub readable_entry_keeps_each : (edition : Edition) (e : EntryTree Text)
    → entry_obeys (readable_rules edition) e ≡ list_all (λ k. entry_keeps edition k e) readable
readable_entry_keeps_each edition e =
    entry_obeys_each readable (single_rule edition) (readable_rules edition)
    (single_rules_are_parts_of_readable edition) e

-- ---- Canonical trees

abbrev further : List Rule
further = drop 23 every_rule

canonical_rules_judge_comment : (content : List Text)
    → Are every_rule (λ k. comment_keeps k content) (are_lines content && is_plain_comment content)
canonical_rules_judge_comment [] = comment_is_right_by_each_rule further []
canonical_rules_judge_comment (line ∷ lines) =
    equal_tests_pass_in_same_sets
    (ap (λ b. b && list_all is_plain_line (line ∷ lines)) (sym (and_with_true_is_same (are_lines (line ∷ lines)))))
    (comment_is_right_by_each_rule further (line ∷ lines))

canonical_rules_judge_flush : (edition : Edition) (o : Option ℕ) (s : ElementPosition) (p : PatternTree Text)
    → are_flush o s p ≡ flush_asked further edition o s p
canonical_rules_judge_flush edition (Some n) s p = refl
canonical_rules_judge_flush edition None s p = refl

canonical_rules_judge_pattern : (edition : Edition) (p : PatternTree Text)
    → Are every_rule (λ k. pattern_keeps edition k p) (is_pattern edition p && is_flush edition p)
canonical_rules_judge_pattern edition p =
    let number = least (line_indents edition (first_position p) p) in
    equal_tests_pass_in_same_sets (ap (λ b. is_pattern edition p && (not (is_multiline p) || not (hides_mark p) && b))
    (canonical_rules_judge_flush edition number (first_position p) p)) (pattern_is_right_by_each_rule further edition p)

false_and_anything_is_same : (a b c : Bool) → a ≡ false → (a && b) ≡ (a && c)
false_and_anything_is_same true b c is = cc
false_and_anything_is_same false b c is = refl

one_default_is_bounded : (n : ℕ) → (nat_le n 1 && n == 1) ≡ (nat_le n 1 && nat_le 1 n)
one_default_is_bounded zero = refl
one_default_is_bounded (suc zero) = refl
one_default_is_bounded (suc (suc n)) =
    false_and_anything_is_same (nat_le (suc (suc n)) 1) _ _ (lt-leb (suc (suc n)) 1 (omega arith))

canonical_rules_judge_expression : (e : ExpressionTree Text)
    → Are every_rule (λ k. expression_keeps k e) (is_expression e && has_one_default e)
canonical_rules_judge_expression (select e vs) =
    let allowed = is_none (selector_fault e) in
    let n = defaults vs in
    equal_tests_pass_in_same_sets
    (and_is_associative allowed (nat_le n 1) (n == 1) ∙ ap (λ b. allowed && b) (one_default_is_bounded n)
    ∙ sym (and_is_associative allowed (nat_le n 1) (nat_le 1 n))) (select_is_right_by_each_rule further e vs)
canonical_rules_judge_expression (inline e) =
    equal_tests_pass_in_same_sets (and_with_true_is_same (not (is_term_attribute e)))
    (asked_rule_passes_in_set rule.TermAttribute (not (is_term_attribute e)))

single_rules_are_parts_of_canonical : (edition : Edition)
    → ArePartsOf every_rule (single_rule edition) (canonical_rules edition)
single_rules_are_parts_of_canonical edition = record {
  junk_parts = asked_is_all_asks every_rule rule.Junk false;
  message_parts = λ m. asked_is_all_asks every_rule rule.EmptyMessage (is_message m);
  comment_parts = λ content. (canonical_rules_judge_comment content).each;
  pattern_parts = λ p. (canonical_rules_judge_pattern edition p).each;
  expression_parts = λ e. (canonical_rules_judge_expression e).each;
  callee_parts = λ v. asked_is_all_asks every_rule rule.ForbiddenCallee (is_callee v);
  arguments_parts = λ a. (arguments_are_right_by_each_rule further a).each;
  string_parts = λ v. asked_is_all_asks every_rule rule.MisspelledString (is_string v);
  number_parts = λ v. asked_is_all_asks every_rule rule.MisspelledNumber (is_number v);
  name_parts = λ v. asked_is_all_asks every_rule rule.MisspelledName (is_name v);
}

-- An entry is canonical exactly where it keeps each rule alone.
pub canonical_entry_keeps_each : (edition : Edition) (e : EntryTree Text)
    → entry_obeys (canonical_rules edition) e ≡ list_all (λ k. entry_keeps edition k e) every_rule
canonical_entry_keeps_each edition e =
    entry_obeys_each every_rule (single_rule edition) (canonical_rules edition)
    (single_rules_are_parts_of_canonical edition) e
