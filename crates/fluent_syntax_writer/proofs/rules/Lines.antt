-- The least number of the lines of a pattern.
use Rattle.std.proofs.Common.{◌≡◌, ℕ, min, List, ◌++◌, Option, Some, None, refl, sym, ap, ◌∙◌, arith}
use Rattle.std.specs.Prelude.{option_to_list}
use Rattle.fluent_syntax_tree.specs.Tree.{ElementTree, text_element, placeable, PatternTree, elements}
use Rattle.fluent_syntax_tree.specs.declared.edition.Edition.{Edition}
use Rattle.fluent_syntax_grammar.specs.Canonical.{line_indents}
use Rattle.fluent_syntax_grammar.specs.Layout.{least, least_with}
use Rattle.fluent_syntax_grammar.specs.Readable.{ElementPosition}
use Rattle.fluent_syntax_grammar.specs.Written.{Text}
use Rattle.fluent_syntax_writer.specs.Places.{position_past, indents_at, least_of_two}

least_of_two-assoc : (a b c : Option ℕ) → least_of_two a (least_of_two b c) ≡ least_of_two (least_of_two a b) c
least_of_two-assoc None b c = refl
least_of_two-assoc (Some a) None c = refl
least_of_two-assoc (Some a) (Some b) None = refl
least_of_two-assoc (Some a) (Some b) (Some c) = let same : min a (min b c) ≡ min (min a b) c = omega arith in
    ap Some same

least-option_append : (number : Option ℕ) (numbers : List ℕ)
    → least (option_to_list number ++ numbers) ≡ least_of_two number (least numbers)
least-option_append None numbers = refl
least-option_append (Some n) numbers = least_with_rest_is_least_of_two (least numbers)
  where
    least_with_rest_is_least_of_two : (m : Option ℕ) → Some (least_with n m) ≡ least_of_two (Some n) m
    least_with_rest_is_least_of_two None = refl
    least_with_rest_is_least_of_two (Some m) = refl

line_indents-elements : (edition : Edition) (s : ElementPosition) (e : ElementTree Text) (es : PatternTree Text)
    → line_indents edition s (elements e es) ≡ indents_at edition s e ++ line_indents edition (position_past e) es
line_indents-elements edition s (text_element v) es = refl
line_indents-elements edition s (placeable e) es = refl

-- the least so far, and that of the lines that are left
pub least-line_indents : (edition : Edition) (s : ElementPosition) (e : ElementTree Text) (es : PatternTree Text)
    (so_far number : Option ℕ) → option_to_list number ≡ indents_at edition s e
    → least_of_two so_far (least (line_indents edition s (elements e es)))
    ≡ least_of_two (least_of_two so_far number) (least (line_indents edition (position_past e) es))
least-line_indents edition s e es so_far number is =
    let later = line_indents edition (position_past e) es in
    ap (λ ns. least_of_two so_far (least ns)) (line_indents-elements edition s e es)
    ∙ ap (λ ns. least_of_two so_far (least (ns ++ later))) (sym is)
    ∙ ap (least_of_two so_far) (least-option_append number later)
    ∙ least_of_two-assoc so_far number (least later)
