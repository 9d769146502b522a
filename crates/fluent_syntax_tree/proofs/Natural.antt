-- A view through two functions is the map of a view.
use Rattle.std.proofs.Common.{◌≡◌, List, [], ◌∷◌, map, Option, Some, None, option_map, refl, sym, ap, ◌∙◌, subst}
use Rattle.fluent_syntax_tree.specs.Tree.{key_map, option_texts, select, inline, expression_map, function_reference}
use Rattle.fluent_syntax_tree.specs.Tree.{message_reference, term_reference, inline_placeable, inline_map, arguments}
use Rattle.fluent_syntax_tree.specs.Tree.{arguments_map, no_arguments, some_arguments, inlines_of, inlines_map}
use Rattle.fluent_syntax_tree.specs.Tree.{named_argument, named_map, nameds_of, nameds_map, placeable, element_map}
use Rattle.fluent_syntax_tree.specs.Tree.{elements_of, pattern_map, variant, variant_map, variants_of, variants_map}
use Rattle.fluent_syntax_tree.specs.Entry.{attribute_map, message_map, term_map, entry_map, body_map, message, term}
use Rattle.fluent_syntax_tree.specs.Entry.{comment, regular, group, resource}
use Rattle.fluent_syntax_tree.specs.View.{identifier_view, key_view, expression_view, inline_view, element_view}
use Rattle.fluent_syntax_tree.specs.View.{arguments_view, named_view, pattern_view, variant_view, attribute_view}
use Rattle.fluent_syntax_tree.specs.View.{comment_view, message_view, term_view, entry_view, resource_view}
use Rattle.fluent_syntax_tree.specs.declared.ast.Identifier.{Identifier}
use Rattle.fluent_syntax_tree.specs.declared.ast.VariantKey.{VariantKey}
use Rattle.fluent_syntax_tree.specs.declared.ast.VariantKey.TheVariants as key
use Rattle.fluent_syntax_tree.specs.declared.ast.Expression.{Expression, roll-Expression, map-Expression}
use Rattle.fluent_syntax_tree.specs.declared.ast.InlineExpression.{InlineExpression, roll-InlineExpression}
use Rattle.fluent_syntax_tree.specs.declared.ast.InlineExpression.{map-InlineExpression}
use Rattle.fluent_syntax_tree.specs.declared.ast.PatternElement.{PatternElement, roll-PatternElement}
use Rattle.fluent_syntax_tree.specs.declared.ast.PatternElement.{map-PatternElement}
use Rattle.fluent_syntax_tree.specs.declared.ast.CallArguments.{CallArguments, roll-CallArguments, map-CallArguments}
use Rattle.fluent_syntax_tree.specs.declared.ast.NamedArgument.{NamedArgument, roll-NamedArgument, map-NamedArgument}
use Rattle.fluent_syntax_tree.specs.declared.ast.Pattern.{Pattern, roll-Pattern, map-Pattern, ind-Pattern}
use Rattle.fluent_syntax_tree.specs.declared.ast.Variant.{Variant, roll-Variant, map-Variant}
use Rattle.fluent_syntax_tree.specs.declared.ast.Expression.TheOpen as layer
use Rattle.fluent_syntax_tree.specs.declared.ast.Expression.TheOpen.{Expression-F, InlineExpression-F, PatternElement-F}
use Rattle.fluent_syntax_tree.specs.declared.ast.Expression.TheOpen.{CallArguments-F, NamedArgument-F, Pattern-F}
use Rattle.fluent_syntax_tree.specs.declared.ast.Expression.TheOpen.{Variant-F}
use Rattle.fluent_syntax_tree.specs.declared.ast.Attribute.{Attribute}
use Rattle.fluent_syntax_tree.specs.declared.ast.Comment.{Comment}
use Rattle.fluent_syntax_tree.specs.declared.ast.Message.{Message}
use Rattle.fluent_syntax_tree.specs.declared.ast.Term.{Term}
use Rattle.fluent_syntax_tree.specs.declared.ast.Entry.{Entry}
use Rattle.fluent_syntax_tree.specs.declared.ast.Entry.TheVariants as entries
use Rattle.fluent_syntax_tree.specs.declared.ast.Resource.{Resource}
use Rattle.fluent_syntax_tree.proofs.Views.{view-Select, view-Inline, view-StringLiteral, view-NumberLiteral}
use Rattle.fluent_syntax_tree.proofs.Views.{view-FunctionReference, view-MessageReference, view-TermReference}
use Rattle.fluent_syntax_tree.proofs.Views.{view-VariableReference, view-InlinePlaceable, view-TextElement}
use Rattle.fluent_syntax_tree.proofs.Views.{view-Placeable, view-Pattern, view-Variant, view-NamedArgument}
use Rattle.fluent_syntax_tree.proofs.Views.{view-roll-CallArguments}
use denote.Hole.Carrier as carrier

abbrev WithClaim : {A : Type 0} → (A → Type 0) → Type 0
WithClaim {A} P = (a : A) × P a

pub map_of_composition_is_maps : {A B C : Type 0} (f : A → C) (g : A → B) (h : B → C) (xs : List A) →
    ((x : A) → f x ≡ h (g x)) →
    map f xs ≡ map h (map g xs)
map_of_composition_is_maps f g h [] e = refl
map_of_composition_is_maps f g h (x ∷ xs) e = rw (e x, map_of_composition_is_maps f g h xs e)

pub option_maps_fuse_into_one : {A B C : Type 0} (f : A → C) (g : A → B) (h : B → C) (o : Option A) →
    ((x : A) → f x ≡ h (g x)) → option_map f o ≡ option_map h (option_map g o)
option_maps_fuse_into_one f g h None e = refl
option_maps_fuse_into_one f g h (Some x) e = ap Some (e x)

module _ {S X Y : Type 0} (g : S → X) (f : X → Y) where
  -- the text of a text
  abbrev fg : S → Y
  fg x = f (g x)

  abbrev ClaimX : Expression S → Type 0
  ClaimX e = expression_view fg e ≡ expression_map f (expression_view g e)

  abbrev ClaimI : InlineExpression S → Type 0
  ClaimI e = inline_view fg e ≡ inline_map f (inline_view g e)

  abbrev ClaimE : PatternElement S → Type 0
  ClaimE e = element_view fg e ≡ element_map f (element_view g e)

  abbrev ClaimA : CallArguments S → Type 0
  ClaimA e = arguments_view fg e ≡ arguments_map f (arguments_view g e)

  abbrev ClaimN : NamedArgument S → Type 0
  ClaimN e = named_view fg e ≡ named_map f (named_view g e)

  abbrev ClaimP : Pattern S → Type 0
  ClaimP e = pattern_view fg e ≡ pattern_map f (pattern_view g e)

  abbrev ClaimV : Variant S → Type 0
  ClaimV e = variant_view fg e ≡ variant_map f (variant_view g e)

  view_of_inlines_is_natural : (ps : List (WithClaim ClaimI)) →
      inlines_of (map (inline_view fg) (map (λ p. p.0) ps))
      ≡ inlines_map f (inlines_of (map (inline_view g) (map (λ p. p.0) ps)))
  view_of_inlines_is_natural [] = refl
  view_of_inlines_is_natural (p ∷ ps) = rw (p.1, view_of_inlines_is_natural ps)

  view_of_named_arguments_is_natural : (ps : List (WithClaim ClaimN)) →
      nameds_of (map (named_view fg) (map (λ p. p.0) ps))
      ≡ nameds_map f (nameds_of (map (named_view g) (map (λ p. p.0) ps)))
  view_of_named_arguments_is_natural [] = refl
  view_of_named_arguments_is_natural (p ∷ ps) = rw (p.1, view_of_named_arguments_is_natural ps)

  view_of_elements_is_natural : (ps : List (WithClaim ClaimE)) →
      elements_of (map (element_view fg) (map (λ p. p.0) ps))
      ≡ pattern_map f (elements_of (map (element_view g) (map (λ p. p.0) ps)))
  view_of_elements_is_natural [] = refl
  view_of_elements_is_natural (p ∷ ps) = rw (p.1, view_of_elements_is_natural ps)

  view_of_variants_is_natural : (ps : List (WithClaim ClaimV)) →
      variants_of (map (variant_view fg) (map (λ p. p.0) ps))
      ≡ variants_map f (variants_of (map (variant_view g) (map (λ p. p.0) ps)))
  view_of_variants_is_natural [] = refl
  view_of_variants_is_natural (p ∷ ps) = rw (p.1, view_of_variants_is_natural ps)

  view_of_optional_name_is_natural : (o : Option (Identifier S)) →
      option_map (identifier_view fg) o ≡ option_texts f (option_map (identifier_view g) o)
  view_of_optional_name_is_natural None = refl
  view_of_optional_name_is_natural (Some i) = refl

  view_of_key_is_natural : (k : VariantKey S) → key_view fg k ≡ key_map f (key_view g k)
  view_of_key_is_natural (key.Identifier x) = refl
  view_of_key_is_natural (key.NumberLiteral x) = refl

  abbrev Held : (F : (A B C D E G H : Type 0) → Type 0) → Type 0
  Held F = F (WithClaim ClaimX) (WithClaim ClaimI) (WithClaim ClaimE) (WithClaim ClaimA) (WithClaim ClaimN)
      (WithClaim ClaimP) (WithClaim ClaimV)

  step-Expression : (y : Held (Expression-F S)) →
      ClaimX (roll-Expression S
      (map-Expression S _ _ _ _ _ _ _ _ _ _ _ _ _ _ (λ e. e.0) (λ e. e.0) (λ e. e.0) (λ e. e.0) (λ e. e.0) (λ e. e.0)
      (λ e. e.0) y))
  unfolding roll-Expression carrier.roll
  step-Expression (layer.Select e vs) =
      view-Select _ e.0 _ ∙ ap (λ x. select x (variants_of (map (variant_view fg) (map (λ p. p.0) vs.items)))) e.1
      ∙ ap (select (inline_map f (inline_view g e.0))) (view_of_variants_is_natural vs.items)
      ∙ sym (ap (expression_map f) (view-Select g e.0 _))
  step-Expression (layer.Inline e) = view-Inline _ e.0 ∙ ap inline e.1 ∙ sym (ap (expression_map f) (view-Inline g e.0))

  step-Inline : (y : Held (InlineExpression-F S)) →
      ClaimI (roll-InlineExpression S
      (map-InlineExpression S _ _ _ _ _ _ _ _ _ _ _ _ _ _ (λ e. e.0) (λ e. e.0) (λ e. e.0) (λ e. e.0) (λ e. e.0)
      (λ e. e.0) (λ e. e.0) y))
  unfolding roll-InlineExpression carrier.roll
  step-Inline (layer.StringLiteral x) = view-StringLiteral _ x ∙ sym (ap (inline_map f) (view-StringLiteral g x))
  step-Inline (layer.NumberLiteral x) = view-NumberLiteral _ x ∙ sym (ap (inline_map f) (view-NumberLiteral g x))
  step-Inline (layer.FunctionReference i a) =
      view-FunctionReference _ i a.0 ∙ ap (function_reference (fg i.name)) a.1
      ∙ sym (ap (inline_map f) (view-FunctionReference g i a.0))
  step-Inline (layer.MessageReference i o) =
      view-MessageReference _ i o ∙ ap (message_reference (fg i.name)) (view_of_optional_name_is_natural o)
      ∙ sym (ap (inline_map f) (view-MessageReference g i o))
  step-Inline (layer.TermReference i o None) =
      view-TermReference _ i o None
      ∙ ap (λ x. term_reference (fg i.name) x no_arguments) (view_of_optional_name_is_natural o)
      ∙ sym (ap (inline_map f) (view-TermReference g i o None))
  step-Inline (layer.TermReference i o (Some a)) =
      view-TermReference _ i o (Some a.0)
      ∙ ap (λ x. term_reference (fg i.name) x (some_arguments (arguments_view fg a.0)))
      (view_of_optional_name_is_natural o)
      ∙ ap (λ x. term_reference (fg i.name) (option_texts f (option_map (identifier_view g) o)) (some_arguments x))
      a.1 ∙ sym (ap (inline_map f) (view-TermReference g i o (Some a.0)))
  step-Inline (layer.VariableReference i) =
      view-VariableReference _ i ∙ sym (ap (inline_map f) (view-VariableReference g i))
  step-Inline (layer.InlineExpression::Placeable e) =
      view-InlinePlaceable _ _ ∙ ap inline_placeable e.value.1 ∙ sym (ap (inline_map f) (view-InlinePlaceable g _))

  step-Element : (y : Held (PatternElement-F S)) →
      ClaimE (roll-PatternElement S
      (map-PatternElement S _ _ _ _ _ _ _ _ _ _ _ _ _ _ (λ e. e.0) (λ e. e.0) (λ e. e.0) (λ e. e.0) (λ e. e.0)
      (λ e. e.0) (λ e. e.0) y))
  unfolding roll-PatternElement carrier.roll
  step-Element (layer.TextElement x) = view-TextElement _ x ∙ sym (ap (element_map f) (view-TextElement g x))
  step-Element (layer.PatternElement::Placeable e) =
      view-Placeable _ e.0 ∙ ap placeable e.1 ∙ sym (ap (element_map f) (view-Placeable g e.0))

  step-Arguments : (y : Held (CallArguments-F S)) →
      ClaimA (roll-CallArguments S
      (map-CallArguments S _ _ _ _ _ _ _ _ _ _ _ _ _ _ (λ e. e.0) (λ e. e.0) (λ e. e.0) (λ e. e.0) (λ e. e.0)
      (λ e. e.0) (λ e. e.0) y))
  step-Arguments y =
      view-roll-CallArguments _ _
      ∙ ap (λ x. arguments x (nameds_of (map (named_view fg) (map (λ p. p.0) y.named.items))))
      (view_of_inlines_is_natural y.positional.items)
      ∙ ap (arguments (inlines_map f (inlines_of (map (inline_view g) (map (λ p. p.0) y.positional.items)))))
      (view_of_named_arguments_is_natural y.named.items) ∙ sym (ap (arguments_map f) (view-roll-CallArguments g _))

  step-Named : (y : Held (NamedArgument-F S)) →
      ClaimN (roll-NamedArgument S
      (map-NamedArgument S _ _ _ _ _ _ _ _ _ _ _ _ _ _ (λ e. e.0) (λ e. e.0) (λ e. e.0) (λ e. e.0) (λ e. e.0)
      (λ e. e.0) (λ e. e.0) y))
  step-Named y =
      view-NamedArgument _ _ ∙ ap (named_argument (fg y.name.name)) y.value.1
      ∙ sym (ap (named_map f) (view-NamedArgument g _))

  step-Pattern : (y : Held (Pattern-F S)) →
      ClaimP (roll-Pattern S
      (map-Pattern S _ _ _ _ _ _ _ _ _ _ _ _ _ _ (λ e. e.0) (λ e. e.0) (λ e. e.0) (λ e. e.0) (λ e. e.0) (λ e. e.0)
      (λ e. e.0) y))
  step-Pattern y =
      view-Pattern _ _ ∙ view_of_elements_is_natural y.elements.items ∙ sym (ap (pattern_map f) (view-Pattern g _))

  step-Variant : (y : Held (Variant-F S)) →
      ClaimV (roll-Variant S
      (map-Variant S _ _ _ _ _ _ _ _ _ _ _ _ _ _ (λ e. e.0) (λ e. e.0) (λ e. e.0) (λ e. e.0) (λ e. e.0) (λ e. e.0)
      (λ e. e.0) y))
  step-Variant y =
      view-Variant _ _ ∙ ap (λ k. variant k (pattern_view fg y.value.0) y.default) (view_of_key_is_natural y.key)
      ∙ ap (λ p. variant (key_map f (key_view g y.key)) p y.default) y.value.1
      ∙ sym (ap (variant_map f) (view-Variant g _))

  pub natural-Pattern : (p : Pattern S) → ClaimP p
  natural-Pattern =
      ind-Pattern S ClaimX ClaimI ClaimE ClaimA ClaimN ClaimP ClaimV
      (λ x y q. subst (λ x. ClaimX (roll-Expression S x)) q (step-Expression y))
      (λ x y q. subst (λ x. ClaimI (roll-InlineExpression S x)) q (step-Inline y))
      (λ x y q. subst (λ x. ClaimE (roll-PatternElement S x)) q (step-Element y))
      (λ x y q. subst (λ x. ClaimA (roll-CallArguments S x)) q (step-Arguments y))
      (λ x y q. subst (λ x. ClaimN (roll-NamedArgument S x)) q (step-Named y))
      (λ x y q. subst (λ x. ClaimP (roll-Pattern S x)) q (step-Pattern y))
      (λ x y q. subst (λ x. ClaimV (roll-Variant S x)) q (step-Variant y))

  pub natural-Attribute : (a : Attribute S) → attribute_view fg a ≡ attribute_map f (attribute_view g a)
  natural-Attribute a = let e = natural-Pattern a.value in cc

  view_of_comment_is_natural : (c : Comment S) → comment_view fg c ≡ map f (comment_view g c)
  view_of_comment_is_natural c = map_of_composition_is_maps fg g f c.content.items (λ x. refl)

  pub natural-Message : (m : Message S) → message_view fg m ≡ message_map f (message_view g m)
  natural-Message m =
      let v = option_maps_fuse_into_one (pattern_view fg) (pattern_view g) (pattern_map f) m.value natural-Pattern in
      let a = map_of_composition_is_maps (attribute_view fg) (attribute_view g) (attribute_map f) m.attributes.items
      natural-Attribute in
      let c = option_maps_fuse_into_one (comment_view fg) (comment_view g)
      (map f) m.comment view_of_comment_is_natural in
      cc

  pub natural-Term : (m : Term S) → term_view fg m ≡ term_map f (term_view g m)
  natural-Term m =
      let v = natural-Pattern m.value in
      let a = map_of_composition_is_maps (attribute_view fg) (attribute_view g) (attribute_map f) m.attributes.items
      natural-Attribute in
      let c = option_maps_fuse_into_one (comment_view fg) (comment_view g)
      (map f) m.comment view_of_comment_is_natural in
      cc

  pub natural-Entry : (e : Entry S) → entry_view fg e ≡ entry_map f (entry_view g e)
  natural-Entry (entries.Message m) = ap message (natural-Message m)
  natural-Entry (entries.Term m) = ap term (natural-Term m)
  natural-Entry (entries.Comment c) = ap (comment regular) (view_of_comment_is_natural c)
  natural-Entry (entries.GroupComment c) = ap (comment group) (view_of_comment_is_natural c)
  natural-Entry (entries.ResourceComment c) = ap (comment resource) (view_of_comment_is_natural c)
  natural-Entry (entries.Junk x) = refl

  pub natural-Resource : (r : Resource S) → resource_view fg r ≡ body_map f (resource_view g r)
  natural-Resource r =
      map_of_composition_is_maps (entry_view fg) (entry_view g) (entry_map f) r.body.items natural-Entry
