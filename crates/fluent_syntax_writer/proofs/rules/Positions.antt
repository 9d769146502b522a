-- The elements of a pattern, one by one.
use Rattle.std.proofs.Common.{◌≡◌, List, [], ◌∷◌, length, map, Bool, true, false, ◌&&◌}
use Rattle.std.proofs.Common.{◌||◌, ◌==◌, not, Some, None, refl, sym, ap, ◌∙◌, arith}
use Rattle.std.proofs.lemmas.Bool.{eqb-true}
use Rattle.std.specs.Prelude.{slice_get}
use Rattle.std.specs.List.{list_any}
use Rattle.fluent_syntax_tree.specs.Tree.{ElementTree, text_element, placeable, PatternTree, no_elements, elements}
use Rattle.fluent_syntax_tree.specs.Tree.{elements_of}
use Rattle.fluent_syntax_tree.specs.declared.edition.Edition.{Edition}
use Rattle.fluent_syntax_grammar.specs.Readable.{ElementPosition, is_line_start, begins_with_placeable, may_precede}
use Rattle.fluent_syntax_grammar.specs.Canonical.{hides_mark, are_lone}
use Rattle.fluent_syntax_grammar.specs.Written.{Text, is_multiline, spans_lines}
use Rattle.fluent_syntax_writer.specs.SingleRule.{has_element, texts_keep}
use Rattle.fluent_syntax_writer.specs.Places.{position_past, element_keeps, is_placeable, element_hides_mark}
use Rattle.fluent_syntax_writer.specs.Places.{is_lone_lf_at_line_start}
use Rattle.fluent_syntax_writer.specs.declared.canonical.rules.Rule.{Rule}

pub is_multiline-list : {E : Type 0} (view : E → ElementTree Text) (es : List E)
    → is_multiline (elements_of (map view es)) ≡ list_any (λ e. spans_lines (view e)) es
is_multiline-list view [] = refl
is_multiline-list view (e ∷ es) = ap (λ b. spans_lines (view e) || b) (is_multiline-list view es)

-- ---- Tests of the first element

pub first_is_tested : {E : Type 0} (view : E → ElementTree Text) (test : PatternTree Text → Bool)
    (one : ElementTree Text → Bool) → ((e : ElementTree Text) (es : PatternTree Text) → test (elements e es) ≡ one e)
    → (es : List E) (e : E) → slice_get es 0 ≡ Some e → test (elements_of (map view es)) ≡ one (view e)
first_is_tested view test one same [] e is = cc
first_is_tested view test one same (x ∷ es) e is =
    let first : x ≡ e = cc in
    same (view x) (elements_of (map view es)) ∙ ap (λ y. one (view y)) first

pub none_is_tested : {E : Type 0} (view : E → ElementTree Text) (test : PatternTree Text → Bool)
    → test no_elements ≡ false → (es : List E) → slice_get es 0 ≡ None → test (elements_of (map view es)) ≡ false
none_is_tested view test none [] is = none
none_is_tested view test none (x ∷ es) is = cc

pub begins_with_placeable-first : (e : ElementTree Text) (es : PatternTree Text)
    → begins_with_placeable (elements e es) ≡ is_placeable e
begins_with_placeable-first (text_element v) es = refl
begins_with_placeable-first (placeable e) es = refl

pub hides_mark-first : (e : ElementTree Text) (es : PatternTree Text)
    → hides_mark (elements e es) ≡ element_hides_mark e
hides_mark-first (text_element v) es = refl
hides_mark-first (placeable e) es = refl

-- ---- Each element by its place

true_is_or_with_true : (b : Bool) → true ≡ (b || true)
true_is_or_with_true true = refl
true_is_or_with_true false = refl

module _ {E : Type 0} (view : E → ElementTree Text) where
  abbrev pub tree : List E → PatternTree Text
  tree es = elements_of (map view es)

  -- where the element after this one is
  abbrev pub past : ElementPosition → E → ElementPosition
  past s e = position_past (view e)

  module _ (edition : Edition) (multiline : Bool) (rule : Rule) where
    abbrev pub keep : ElementPosition → List E → Bool
    keep s es = texts_keep edition rule multiline s (tree es)

    abbrev pub keeps : ElementPosition → E → List E → Bool
    keeps s e es = element_keeps edition rule multiline s (view e) (tree es)

    keep_by_form : (s : ElementPosition) (e : ElementTree Text) (es : PatternTree Text)
        → texts_keep edition rule multiline s (elements e es)
        ≡ (element_keeps edition rule multiline s e es && texts_keep edition rule multiline (position_past e) es)
    keep_by_form s (text_element v) es = refl
    keep_by_form s (placeable e) es = refl

    pub elements_keep_by_first_and_rest : (s : ElementPosition) (e : E) (es : List E)
        → keep s (e ∷ es) ≡ (keeps s e es && keep (past s e) es)
    elements_keep_by_first_and_rest s e es = keep_by_form s (view e) (tree es)

  abbrev pub lone : ElementPosition → List E → Bool
  lone s es = are_lone s (tree es)

  abbrev pub one_lone : ElementPosition → E → List E → Bool
  one_lone s e es = is_lone_lf_at_line_start s (view e)

  lone_elements_are_lone_first_and_rest : (s : ElementPosition) (e : ElementTree Text) (es : PatternTree Text)
      → are_lone s (elements e es) ≡ (is_lone_lf_at_line_start s e && are_lone (position_past e) es)
  lone_elements_are_lone_first_and_rest s (text_element v) es = refl
  lone_elements_are_lone_first_and_rest s (placeable e) es =
      ap (λ b. b && are_lone (position_past (placeable e)) es) (true_is_or_with_true (not (is_line_start s)))

  pub elements_are_lone_by_first_and_rest : (s : ElementPosition) (e : E) (es : List E)
      → lone s (e ∷ es) ≡ (one_lone s e es && lone (past s e) es)
  elements_are_lone_by_first_and_rest s e es = lone_elements_are_lone_first_and_rest s (view e) (tree es)

-- ---- Whether there are elements

pub may_precede-before : {E : Type 0} (view : E → ElementTree Text) (v : Text) (es : List E) → (length es == 0) ≡ false
    → true ≡ may_precede v (elements_of (map view es))
may_precede-before view v [] some = cc
may_precede-before view v (e ∷ es) some = refl

pub has_element-list : {E : Type 0} (view : E → ElementTree Text) (es : List E) (none : Bool)
    → none ≡ (length es == 0) → not none ≡ has_element (elements_of (map view es))
has_element-list view [] none is = ap not is
has_element-list view (e ∷ es) true is =
    let empty : length (e ∷ es) ≡ 0 = eqb-true _ _ (sym is) in
    absurd (omega arith)
has_element-list view (e ∷ es) false is = refl
