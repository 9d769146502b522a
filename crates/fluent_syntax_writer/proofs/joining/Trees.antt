-- Lists of trees, each joined.
use Rattle.std.proofs.Common.{◌≡◌, List, [], ◌∷◌, map, Option, option_map, Vec, Global, refl, ap, ◌∙◌}
use Rattle.fluent_syntax_tree.specs.Tree.{InlineTree, inlines, inlines_of, NamedTree, nameds, nameds_of, VariantTree}
use Rattle.fluent_syntax_tree.specs.Tree.{variants, variants_of, arguments_of}
use Rattle.fluent_syntax_tree.specs.View.{identifier_view, expression_view, inline_view, arguments_view, named_view}
use Rattle.fluent_syntax_tree.specs.View.{variant_view}
use Rattle.fluent_syntax_tree.specs.declared.ast.CallArguments.{CallArguments, CallArguments-F, out-CallArguments}
use Rattle.fluent_syntax_tree.specs.declared.ast.CallArguments.{roll-CallArguments}
use Rattle.fluent_syntax_tree.specs.declared.ast.Expression.{Expression, Select}
use Rattle.fluent_syntax_tree.specs.declared.ast.Identifier.{Identifier}
use Rattle.fluent_syntax_tree.specs.declared.ast.InlineExpression as inl
use Rattle.fluent_syntax_tree.specs.declared.ast.InlineExpression.{InlineExpression}
use Rattle.fluent_syntax_tree.specs.declared.ast.Variant.{Variant}
use Rattle.fluent_syntax_tree.proofs.Views.{view-Select, view-TermReference, view-CallArguments}
use Rattle.fluent_syntax_tree.proofs.Views.{view-roll-CallArguments}
use Rattle.fluent_syntax_grammar.specs.Joined.{joined_expression, joined_maybe, joined_arguments}
use Rattle.fluent_syntax_grammar.specs.Joined.{joined_inline, joined_inlines, joined_named, joined_nameds}
use Rattle.fluent_syntax_grammar.specs.Joined.{joined_variant, joined_variants}
use Rattle.fluent_syntax_grammar.specs.Written.{Text}

module _ {X : Type 0} where
  pub inlines_joined_each_are_joined : (view : X → InlineTree Text) (xs : List X) →
      inlines_of (map (λ x. joined_inline (view x)) xs) ≡ joined_inlines (inlines_of (map view xs))
  inlines_joined_each_are_joined view [] = refl
  inlines_joined_each_are_joined view (x ∷ xs) =
      ap (inlines (joined_inline (view x))) (inlines_joined_each_are_joined view xs)

  pub named_joined_each_are_joined : (view : X → NamedTree Text) (xs : List X) →
      nameds_of (map (λ x. joined_named (view x)) xs) ≡ joined_nameds (nameds_of (map view xs))
  named_joined_each_are_joined view [] = refl
  named_joined_each_are_joined view (x ∷ xs) =
      ap (nameds (joined_named (view x))) (named_joined_each_are_joined view xs)

  pub variants_joined_each_are_joined : (view : X → VariantTree Text) (xs : List X) →
      variants_of (map (λ x. joined_variant (view x)) xs) ≡ joined_variants (variants_of (map view xs))
  variants_joined_each_are_joined view [] = refl
  variants_joined_each_are_joined view (x ∷ xs) =
      ap (variants (joined_variant (view x))) (variants_joined_each_are_joined view xs)

-- Two values of which one represents the joined tree of the other, from their parts.
module _ {S T : Type 0} (f : S → Text) (h : T → Text) where
  pub joined-CallArguments : (a : CallArguments-F S _ _ _ _ _ _ _) (b : CallArguments T) →
      map (inline_view f) a.positional.items
      ≡ map (λ e. joined_inline (inline_view h e)) (out-CallArguments T b).positional.items →
      map (named_view f) a.named.items
      ≡ map (λ n. joined_named (named_view h n)) (out-CallArguments T b).named.items →
      arguments_view f (roll-CallArguments S a) ≡ joined_arguments (arguments_view h b)
  joined-CallArguments a b ps ns =
      cc (
        view-roll-CallArguments f a,
        ps,
        ns,
        inlines_joined_each_are_joined (inline_view h) (out-CallArguments T b).positional.items,
        named_joined_each_are_joined (named_view h) (out-CallArguments T b).named.items,
        ap joined_arguments (view-CallArguments h b),
      )

  pub joined-Select : (e : InlineExpression S) (i : InlineExpression T) (vs : Vec (Variant S) Global)
      (ws : Vec (Variant T) Global) (d : Expression T) →
      d ≡ Select i ws → inline_view f e ≡ joined_inline (inline_view h i) →
      map (variant_view f) vs.items ≡ map (λ v. joined_variant (variant_view h v)) ws.items →
      expression_view f (Select e vs) ≡ joined_expression (expression_view h d)
  joined-Select e i vs ws d is selector each =
      cc (
        view-Select f e vs,
        selector,
        each,
        variants_joined_each_are_joined (variant_view h) ws.items,
        ap joined_expression (ap (expression_view h) is ∙ view-Select h i ws),
      )

  pub joined-TermReference :
      (i : Identifier S) (j : Identifier T) (o : Option (Identifier S)) (p : Option (Identifier T))
      (a : Option (CallArguments S)) (b : Option (CallArguments T)) (d : InlineExpression T) →
      d ≡ inl.TermReference j p b → f i.name ≡ h j.name →
      option_map (identifier_view f) o ≡ option_map (identifier_view h) p →
      arguments_of (option_map (arguments_view f) a)
      ≡ joined_maybe (arguments_of (option_map (arguments_view h) b)) →
      inline_view f (inl.TermReference i o a) ≡ joined_inline (inline_view h d)
  joined-TermReference i j o p a b d is name attribute given =
      cc (
        view-TermReference f i o a,
        name,
        attribute,
        given,
        ap joined_inline (ap (inline_view h) is ∙ view-TermReference h j p b),
      )
