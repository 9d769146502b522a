-- A pattern spans lines exactly where its joined pattern does.
use Rattle.std.proofs.Common.{◌≡◌, ◌++◌, Bool, true, false, refl, ◌∙◌, ap}
use Rattle.std.specs.Prelude.{◌||◌, ◌==◌, if◌then◌else◌}
use Rattle.std.proofs.lemmas.List.Folds.{list_any-append}
use Rattle.fluent_syntax_tree.specs.Tree.{ExpressionTree, select, inline, InlineTree, string_literal, number_literal}
use Rattle.fluent_syntax_tree.specs.Tree.{function_reference, message_reference, term_reference, variable_reference}
use Rattle.fluent_syntax_tree.specs.Tree.{inline_placeable, text_element, placeable, PatternTree, no_elements, elements}
use Rattle.fluent_syntax_grammar.specs.Bytes.{lf}
use Rattle.fluent_syntax_grammar.specs.Written.{Text, has_lf, is_select, holds_select, is_multiline}
use Rattle.fluent_syntax_grammar.specs.Joined.{is_joined, joined_expression, joined_inline, joined_pattern}
use Rattle.fluent_syntax_grammar.specs.Joined.{joined_after}

mutual
  joining_keeps_is_select : (e : ExpressionTree Text) → is_select (joined_expression e) ≡ is_select e
  joining_keeps_is_select (select e vs) = refl
  joining_keeps_is_select (inline e) = joining_keeps_holds_select e

  joining_keeps_holds_select : (e : InlineTree Text) → holds_select (joined_inline e) ≡ holds_select e
  joining_keeps_holds_select (string_literal v) = refl
  joining_keeps_holds_select (number_literal v) = refl
  joining_keeps_holds_select (function_reference id a) = refl
  joining_keeps_holds_select (message_reference id a) = refl
  joining_keeps_holds_select (term_reference id attribute a) = refl
  joining_keeps_holds_select (variable_reference id) = refl
  joining_keeps_holds_select (inline_placeable e) = joining_keeps_is_select e

or_is_congruent : (a b c d : Bool) → a ≡ b → c ≡ d → (a || c) ≡ (b || d)
or_is_congruent a b c d e f = rw (e, f) refl

or_assoc : (a b c : Bool) → ((a || b) || c) ≡ (a || (b || c))
or_assoc true b c = refl
or_assoc false b c = refl

multiline_after_text_is_lf_or_rest : (v w : Text) (es : PatternTree Text) (x : Bool) →
    is_multiline (joined_pattern es) ≡ is_multiline es →
    is_multiline (joined_after w es) ≡ (has_lf w || is_multiline es) →
    is_multiline (if x then elements (text_element (v ++ w)) (joined_pattern es) else elements (text_element v)
    (joined_after w es)) ≡ (has_lf v || (has_lf w || is_multiline es))
multiline_after_text_is_lf_or_rest v w es true g h =
    or_is_congruent (has_lf (v ++ w)) (has_lf v || has_lf w) _ _ (list_any-append (λ b. b == lf) v w) g
    ∙ or_assoc (has_lf v) (has_lf w) (is_multiline es)
multiline_after_text_is_lf_or_rest v w es false g h = ap (λ x. has_lf v || x) h

mutual
  pub joining_keeps_is_multiline : (p : PatternTree Text) → is_multiline (joined_pattern p) ≡ is_multiline p
  joining_keeps_is_multiline no_elements = refl
  joining_keeps_is_multiline (elements (placeable e) es) =
      or_is_congruent _ (is_select e) _ (is_multiline es) (joining_keeps_is_select e) (joining_keeps_is_multiline es)
  joining_keeps_is_multiline (elements (text_element v) es) = joined_after_is_multiline_by_lf_or_rest es v

  joined_after_is_multiline_by_lf_or_rest : (es : PatternTree Text) (v : Text) →
      is_multiline (joined_after v es) ≡ (has_lf v || is_multiline es)
  joined_after_is_multiline_by_lf_or_rest no_elements v = refl
  joined_after_is_multiline_by_lf_or_rest (elements (placeable e) es) v =
      ap (λ x. has_lf v || x)
      (or_is_congruent _ (is_select e) _ (is_multiline es) (joining_keeps_is_select e) (joining_keeps_is_multiline es))
  joined_after_is_multiline_by_lf_or_rest (elements (text_element w) es) v =
      multiline_after_text_is_lf_or_rest v w es (is_joined v w) (joining_keeps_is_multiline es)
      (joined_after_is_multiline_by_lf_or_rest es w)
