-- Rows of nodes: how many a node holds, and what is added after the row of a node.
use Rattle.std.proofs.Common.{◌≡◌, ◌∷◌, [], ◌++◌, suc, List, length, map, Result}
use Rattle.std.proofs.Common.{refl, sym, ap, ◌∙◌, append-nil}
use Rattle.std.specs.Prelude.{OnOk}
use Rattle.fluent_syntax_tree.specs.Tree.{elements_of, inlines_of, nameds_of, variants_of}
use Rattle.fluent_syntax_tree.specs.View.{element_view, inline_view, named_view, variant_view}
use Rattle.fluent_syntax_tree.specs.declared.ast.InlineExpression.{InlineExpression}
use Rattle.fluent_syntax_tree.specs.declared.ast.NamedArgument.{NamedArgument}
use Rattle.fluent_syntax_tree.specs.declared.ast.PatternElement.{PatternElement}
use Rattle.fluent_syntax_tree.specs.declared.ast.Variant.{Variant}
use Rattle.fluent_syntax_tree.specs.declared.spans.Span.{Span}
use Rattle.fluent_syntax_names.specs.Growing.{Adds}
use Rattle.fluent_syntax_names.proofs.Adding.{adding_on_ok_adds_both, pushed_item_is_added}
use Rattle.fluent_syntax_c.specs.Nodes.{elements_count, inlines_count, nameds_count, variants_count}

pub elements_are_counted : (nodes : List (PatternElement Span)) →
    length nodes ≡ elements_count (elements_of (map (element_view (λ s. s)) nodes))
elements_are_counted [] = refl
elements_are_counted (x ∷ xs) = ap suc (elements_are_counted xs)

pub variants_are_counted : (nodes : List (Variant Span)) →
    length nodes ≡ variants_count (variants_of (map (variant_view (λ s. s)) nodes))
variants_are_counted [] = refl
variants_are_counted (x ∷ xs) = ap suc (variants_are_counted xs)

pub inlines_are_counted : (nodes : List (InlineExpression Span)) →
    length nodes ≡ inlines_count (inlines_of (map (inline_view (λ s. s)) nodes))
inlines_are_counted [] = refl
inlines_are_counted (x ∷ xs) = ap suc (inlines_are_counted xs)

pub nameds_are_counted : (nodes : List (NamedArgument Span)) →
    length nodes ≡ nameds_count (nameds_of (map (named_view (λ s. s)) nodes))
nameds_are_counted [] = refl
nameds_are_counted (x ∷ xs) = ap suc (nameds_are_counted xs)

module _ {X E A : Type 0} where
  -- a row that was pushed, and then what was added where there was memory for it
  pub row_and_rest_are_added : (r : Result A E) (old mid new : List X) (pushed x : X) (more : List X → List X) →
      mid ≡ old ++ pushed ∷ [] → pushed ≡ x → OnOk r (Adds mid new more) →
      OnOk r (Adds old new (λ tail. x ∷ more tail))
  row_and_rest_are_added r old mid new pushed x more push same rest =
      adding_on_ok_adds_both r old mid new (λ tail. x ∷ tail) more
      (pushed_item_is_added old mid x (push ∙ ap (λ y. old ++ y ∷ []) same)) rest

module _ {X : Type 0} where
  -- a row that was pushed
  pub row_is_added : (old new : List X) (pushed x : X) → new ≡ old ++ pushed ∷ [] → pushed ≡ x →
      Adds old new (λ tail. x ∷ tail)
  row_is_added old new pushed x push same = pushed_item_is_added old new x (push ∙ ap (λ y. old ++ y ∷ []) same)

  -- what was added to nothing is all that there is
  pub all_is_what_was_added : (new : List X) (more : List X → List X) → Adds [] new more → new ≡ more []
  all_is_what_was_added new more adds = sym (append-nil new) ∙ adds []
