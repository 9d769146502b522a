-- The elements of a joined pattern, made one by one.
use Rattle.std.proofs.Common.{◌≡◌, ℕ, ◌+◌, ◌<◌, ◌≤◌, List, [], ◌∷◌, ◌++◌, length, get_or, drop, map, true, false}
use Rattle.std.proofs.Common.{Option, Some, None, refl, sym, ap, ◌∙◌, if◌then◌else◌}
use Rattle.std.proofs.lemmas.List.{drop_all, drop_more, map-append}
use Rattle.std.specs.Option.{option_to_list}
use Rattle.fluent_syntax_tree.specs.Tree.{ElementTree, text_element, placeable, ExpressionTree, PatternTree}
use Rattle.fluent_syntax_tree.specs.Tree.{no_elements, elements, elements_of}
use Rattle.fluent_syntax_tree.specs.View.{element_view, expression_view}
use Rattle.fluent_syntax_tree.specs.declared.ast.Expression.{Expression}
use Rattle.fluent_syntax_tree.specs.declared.ast.PatternElement as elem
use Rattle.fluent_syntax_tree.specs.declared.ast.PatternElement.{PatternElement}
use Rattle.fluent_syntax_tree.proofs.Views.{view-TextElement, view-Placeable}
use Rattle.fluent_syntax_grammar.specs.Joined.{is_joined, joined_expression, joined_pattern, joined_after}
use Rattle.fluent_syntax_grammar.specs.Written.{Text}
use Rattle.fluent_syntax_writer.specs.Joining.{before_pattern, joined_from}

before_pattern-append : (xs ys : List (ElementTree Text)) (p : PatternTree Text) →
    before_pattern (xs ++ ys) p ≡ before_pattern xs (before_pattern ys p)
before_pattern-append [] ys p = refl
before_pattern-append (x ∷ xs) ys p = ap (elements x) (before_pattern-append xs ys p)

before_pattern-none : (xs : List (ElementTree Text)) → before_pattern xs no_elements ≡ elements_of xs
before_pattern-none [] = refl
before_pattern-none (x ∷ xs) = ap (elements x) (before_pattern-none xs)

-- ---- One element more

-- a text that is joined to the last
pub text_is_joined : (done : List (ElementTree Text)) (v w : Text) (rest : PatternTree Text) → is_joined v w ≡ true →
    before_pattern (done ++ text_element (v ++ w) ∷ []) (joined_pattern rest)
    ≡ before_pattern done (joined_after v (elements (text_element w) rest))
text_is_joined done v w rest h =
    before_pattern-append done (text_element (v ++ w) ∷ []) (joined_pattern rest)
    ∙ ap (before_pattern done) (sym (ap (λ b. if b then elements (text_element (v ++ w)) (joined_pattern rest)
    else elements (text_element v) (joined_after w rest)) h))

-- a text that is not
pub text_stays_apart : (done : List (ElementTree Text)) (v w : Text) (rest : PatternTree Text) → is_joined v w ≡ false →
    before_pattern (done ++ text_element v ∷ []) (joined_after w rest)
    ≡ before_pattern done (joined_after v (elements (text_element w) rest))
text_stays_apart done v w rest h =
    before_pattern-append done (text_element v ∷ []) (joined_after w rest)
    ∙ ap (before_pattern done) (sym (ap (λ b. if b then elements (text_element (v ++ w)) (joined_pattern rest)
    else elements (text_element v) (joined_after w rest)) h))

joined_from-placeable : (last : Option Text) (e : ExpressionTree Text) (rest : PatternTree Text) →
    before_pattern (map text_element (option_to_list last)) (elements (placeable (joined_expression e))
    (joined_pattern rest))
    ≡ joined_from last (elements (placeable e) rest)
joined_from-placeable None e rest = refl
joined_from-placeable (Some v) e rest = refl

-- a placeable, after the last text
pub placeable_follows_joined_text : (done : List (ElementTree Text)) (last : Option Text) (e : ExpressionTree Text)
    (rest : PatternTree Text) →
    before_pattern ((done ++ map text_element (option_to_list last)) ++ placeable (joined_expression e) ∷ [])
    (joined_pattern rest)
    ≡ before_pattern done (joined_from last (elements (placeable e) rest))
placeable_follows_joined_text done last e rest =
    before_pattern-append (done ++ map text_element (option_to_list last)) (placeable (joined_expression e) ∷ [])
    (joined_pattern rest)
    ∙ before_pattern-append done (map text_element (option_to_list last)) _
    ∙ ap (before_pattern done) (joined_from-placeable last e rest)

joined_from-end : (last : Option Text) →
    before_pattern (map text_element (option_to_list last)) no_elements ≡ joined_from last no_elements
joined_from-end None = refl
joined_from-end (Some v) = refl

-- nothing, after the last text
pub last_text_ends_joined_pattern : (done : List (ElementTree Text)) (last : Option Text) →
    elements_of (done ++ map text_element (option_to_list last)) ≡ before_pattern done (joined_from last no_elements)
last_text_ends_joined_pattern done last =
    sym (before_pattern-none (done ++ map text_element (option_to_list last)))
    ∙ before_pattern-append done (map text_element (option_to_list last)) no_elements
    ∙ ap (before_pattern done) (joined_from-end last)

-- ---- What is left of the list of elements

module _ {X : Type 0} (view : X → ElementTree Text) where
  pub elements_left_begin_with_next : (xs : List X) (i : ℕ) (x : X) → i < length xs → x ≡ get_or xs i x →
      elements_of (map view (drop i xs)) ≡ elements (view x) (elements_of (map view (drop (i + 1) xs)))
  elements_left_begin_with_next xs i x h e =
      ap (λ l. elements_of (map view l)) (drop_more xs i x h)
      ∙ ap (λ y. elements (view y) (elements_of (map view (drop (i + 1) xs)))) (sym e)

  pub no_elements_are_left_at_end : (xs : List X) (n : ℕ) → length xs ≤ n →
      elements_of (map view (drop n xs)) ≡ no_elements
  no_elements_are_left_at_end xs n h = ap (λ l. elements_of (map view l)) (drop_all n xs h)

-- ---- A list of elements and one more

module _ {S : Type 0} (f : S → Text) where
  pub pushed_text_is_last_element : (old new : List (PatternElement S)) (v : S) → new ≡ old ++ elem.TextElement v ∷ [] →
      map (element_view f) new ≡ map (element_view f) old ++ text_element (f v) ∷ []
  pushed_text_is_last_element old new v made =
      ap (map (element_view f)) made ∙ map-append (element_view f) old (elem.TextElement v ∷ [])
      ∙ ap (λ x. map (element_view f) old ++ x ∷ []) (view-TextElement f v)

  -- of a placeable whose expression represents e, after elements that represent done
  pub pushed_placeable_is_last_element : (old new : List (PatternElement S)) (made : Expression S)
      (done : List (ElementTree Text))
      (e : ExpressionTree Text) → new ≡ old ++ elem.Placeable made ∷ [] → map (element_view f) old ≡ done →
      expression_view f made ≡ e → map (element_view f) new ≡ done ++ placeable e ∷ []
  pushed_placeable_is_last_element old new made done e is before same =
      ap (map (element_view f)) is ∙ map-append (element_view f) old (elem.Placeable made ∷ [])
      ∙ ap (λ l. l ++ element_view f (elem.Placeable made) ∷ []) before
      ∙ ap (λ x. done ++ x ∷ []) (view-Placeable f made ∙ ap placeable same)
