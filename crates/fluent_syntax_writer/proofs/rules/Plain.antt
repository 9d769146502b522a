-- A pattern that is one text on one line keeps each rule of patterns.
use Rattle.std.proofs.Common.{◌≡◌, ◌==◌, ℕ, List, [], ◌∷◌, length, get_or, map, Bool, true, false, ◌&&◌, ◌||◌, not}
use Rattle.std.proofs.Common.{refl, sym, ap, ◌∙◌, arith}
use Rattle.std.specs.Prelude.{if◌then◌else◌}
use Rattle.std.specs.List.{list_any}
use Rattle.fluent_syntax_tree.specs.Text.{is_trimmed}
use Rattle.fluent_syntax_tree.specs.Tree.{ElementTree, PatternTree, text_element, placeable, no_elements, elements}
use Rattle.fluent_syntax_tree.specs.Tree.{elements_of}
use Rattle.fluent_syntax_tree.specs.declared.edition.Edition.{Edition}
use Rattle.fluent_syntax_grammar.specs.Bytes.{lf, space, is_space}
use Rattle.fluent_syntax_grammar.specs.Elements.{without_last_lf}
use Rattle.fluent_syntax_grammar.specs.PatternTexts.{begins_with_space, ends_plainly, is_empty, is_brace, has_crlf}
use Rattle.fluent_syntax_grammar.specs.Readable.{opening, is_text}
use Rattle.fluent_syntax_grammar.specs.Written.{Text, has_lf}
use Rattle.fluent_syntax_writer.specs.RuleSets.{number}
use Rattle.fluent_syntax_writer.specs.SingleRule.{asks, spelling_keeps, texts_keep, lines_keep, pattern_keeps}
use Rattle.fluent_syntax_writer.specs.Texts.{is_plain_pattern, is_plain_text}
use Rattle.fluent_syntax_writer.specs.declared.canonical.rules.Rule.{Rule}
use Rattle.fluent_syntax_writer.specs.declared.canonical.rules.Rule.TheVariants as rule
use Rattle.fluent_syntax_grammar.proofs.Facts.{and_gives_left, and_gives_right}
use Rattle.fluent_syntax_grammar.proofs.Tests.{true_and_true, parted_by_test, not_true_is_false, true_by_right}

-- a text that ends plainly
record Ends (v : Text) : Type 0 where
  no_lf : without_last_lf v ≡ v
  shown : list_any (λ b. not (is_space b)) v ≡ true

ends_plainly_has_ends : (v : Text) → ends_plainly v ≡ true → Ends v
ends_plainly_has_ends [] ends = absurd cc
ends_plainly_has_ends (b ∷ []) ends =
    let other = λ (c : ℕ). parted_by_test (λ c. not (is_trimmed c)) b c ends in
    record {
      no_lf = ap (λ t. if t then [] else b ∷ []) (other lf refl);
      shown = ap (λ t. not t || false) (other space refl);
    }
ends_plainly_has_ends (b ∷ c ∷ bs) ends =
    let rest = ends_plainly_has_ends (c ∷ bs) ends in
    record { no_lf = ap (λ t. b ∷ t) rest.no_lf; shown = true_by_right (not (is_space b)) _ rest.shown }

if_of_trues_is_true : (b : Bool) → (if b then true else true) ≡ true
if_of_trues_is_true true = refl
if_of_trues_is_true false = refl

asker_passes_each_rule_that_holds : (asker k : Rule) (passes : Bool) → passes ≡ true → asks asker k passes ≡ true
asker_passes_each_rule_that_holds asker k passes e = ap (asks asker k) e ∙
    if_of_trues_is_true (number asker == number k)

pub text_keeps_every_spelling_rule : (k : Rule) (v : Text) → is_text v ≡ true → spelling_keeps k v ≡ true
text_keeps_every_spelling_rule k v text =
    let later = and_gives_right (not (is_empty v)) _ text in
    let no_crlf = and_gives_right (not (list_any is_brace v)) _ later in
    true_and_true
    (true_and_true
    (true_and_true
    (asker_passes_each_rule_that_holds rule.EmptyText k _ (and_gives_left (not (is_empty v)) _ text))
    (asker_passes_each_rule_that_holds rule.BraceInText k _ (and_gives_left (not (list_any is_brace v)) _ later)))
    (asker_passes_each_rule_that_holds rule.CrBeforeLf k _ (and_gives_left (not (has_crlf v)) _ no_crlf)))
    (asker_passes_each_rule_that_holds rule.LfWithinText k _ (and_gives_right (not (has_crlf v)) _ no_crlf))

plain_text_keeps : (edition : Edition) (k : Rule) (v : Text) → is_plain_text v ≡ true
    → pattern_keeps edition k (elements (text_element v) no_elements) ≡ true
plain_text_keeps edition k v plain =
    let p = elements (text_element v) no_elements in
    let text = and_gives_left (is_text v) _ plain in
    let at_ends = and_gives_right (is_text v) _ plain in
    let tight = and_gives_left (not (begins_with_space v)) _ at_ends in
    let plainly = and_gives_right (not (begins_with_space v)) _ at_ends in
    let ends = ends_plainly_has_ends v plainly in
    let later = and_gives_right (not (is_empty v)) _ text in
    let no_crlf = and_gives_right (not (list_any is_brace v)) _ later in
    let no_lf = not_true_is_false (has_lf (without_last_lf v)) (and_gives_right (not (has_crlf v)) _ no_crlf) in
    let on_one_line : (has_lf v || false) ≡ false =
    ap (λ u. has_lf u || false) (sym ends.no_lf) ∙ ap (λ b. b || false) no_lf in
    let shown = ap (list_any (λ b. not (is_space b))) ends.no_lf ∙ ends.shown in
    let place = true_and_true (asker_passes_each_rule_that_holds rule.BlankFirstText k _ (ap (λ b. b || false) shown))
    (asker_passes_each_rule_that_holds rule.LeadingSpace k _ tight) in
    let texts = true_and_true
    (true_and_true (true_and_true (text_keeps_every_spelling_rule k v text) place)
    (asker_passes_each_rule_that_holds rule.BlankEnd k _ plainly))
    refl in
    ap (λ multiline. (asks rule.EmptyPattern k true && texts_keep edition k multiline opening p)
    && lines_keep edition k multiline p) on_one_line
    ∙ true_and_true (true_and_true (asker_passes_each_rule_that_holds rule.EmptyPattern k true refl) texts) refl

-- A pattern that is one text on one line keeps each rule.
pub plain_pattern_keeps : (edition : Edition) (k : Rule) (p : PatternTree Text) → is_plain_pattern p ≡ true
    → pattern_keeps edition k p ≡ true
plain_pattern_keeps edition k no_elements plain = absurd cc
plain_pattern_keeps edition k (elements (text_element v) no_elements) plain = plain_text_keeps edition k v plain
plain_pattern_keeps edition k (elements (text_element v) (elements x xs)) plain = absurd cc
plain_pattern_keeps edition k (elements (placeable e) xs) plain = absurd cc

pub single_element_decides_plain_pattern : {E : Type 0} (view : E → ElementTree Text) (es : List E) (e : E) →
    length es ≡ 1 → e ≡ get_or es 0 e
    → is_plain_pattern (elements_of (map view es)) ≡ is_plain_pattern (elements (view e) no_elements)
single_element_decides_plain_pattern view [] e one is = absurd (omega arith)
single_element_decides_plain_pattern view (x ∷ []) e one is =
    ap (λ y. is_plain_pattern (elements (view y) no_elements)) (sym is)
single_element_decides_plain_pattern view (x ∷ y ∷ es) e one is = absurd (omega arith)

-- a pattern of no elements, or of more than one, is not plain
pub others_are_not_plain : {E : Type 0} (view : E → ElementTree Text) (es : List E) → (length es ≡ 1 → ⊥)
    → is_plain_pattern (elements_of (map view es)) ≡ false
others_are_not_plain view [] other = refl
others_are_not_plain view (x ∷ []) other = absurd (omega (arith, other refl))
others_are_not_plain view (x ∷ y ∷ es) other =
    two_elements_are_no_plain_pattern (view x) (view y) (elements_of (map view es))
  where
    two_elements_are_no_plain_pattern : (a b : ElementTree Text) (rest : PatternTree Text)
        → is_plain_pattern (elements a (elements b rest)) ≡ false
    two_elements_are_no_plain_pattern (text_element v) b rest = refl
    two_elements_are_no_plain_pattern (placeable e) b rest = refl
