-- `==` of trees is equality of the trees that they represent.
use Rattle.std.proofs.Common.{◌≡◌, List, [], ◌∷◌, map, Option, Some, None, option_map, Vec, Box, Global, Bool, true}
use Rattle.std.proofs.Common.{false, ◌&&◌, refl, sym, ap, ◌∙◌, subst, true≢false, ℕ, zero, suc}
use Rattle.std.specs.Bool.{Decides, beq}
use Rattle.std.specs.Cmp.Lexicographic.{pointwise}
use Rattle.std.specs.Option.{option_eq}
use Rattle.fluent_syntax_tree.specs.Tree.{select, inline, string_literal, number_literal, function_reference}
use Rattle.fluent_syntax_tree.specs.Tree.{message_reference, term_reference, variable_reference, inline_placeable}
use Rattle.fluent_syntax_tree.specs.Tree.{arguments, arguments_of, some_arguments, inlines_of, named_argument}
use Rattle.fluent_syntax_tree.specs.Tree.{nameds_of, text_element, placeable, elements_of, variant, variants_of}
use Rattle.fluent_syntax_tree.specs.Tree.{InlineTree}
use Rattle.fluent_syntax_tree.specs.Entry.{message, term, comment, junk, regular, group, resource}
use Rattle.fluent_syntax_tree.specs.View.{identifier_view, key_view, expression_view, inline_view, element_view}
use Rattle.fluent_syntax_tree.specs.View.{arguments_view, named_view, pattern_view, variant_view, comment_view}
use Rattle.fluent_syntax_tree.specs.View.{attribute_view, message_view, term_view, entry_view, resource_view}
use Rattle.fluent_syntax_tree.proofs.Views.{view-Select, view-Inline, view-StringLiteral, view-NumberLiteral}
use Rattle.fluent_syntax_tree.proofs.Views.{view-FunctionReference, view-MessageReference, view-TermReference}
use Rattle.fluent_syntax_tree.proofs.Views.{view-VariableReference, view-InlinePlaceable, view-TextElement}
use Rattle.fluent_syntax_tree.proofs.Views.{view-Placeable, view-Pattern, view-Variant, view-NamedArgument}
use Rattle.fluent_syntax_tree.proofs.Views.{view-roll-CallArguments, view-roll-Expression, view-roll-InlineExpression}
use Rattle.fluent_syntax_tree.specs.declared.ast.Identifier.{Identifier}
use Rattle.fluent_syntax_tree.specs.declared.ast.VariantKey.{VariantKey}
use Rattle.fluent_syntax_tree.specs.declared.ast.VariantKey.TheVariants as key
use Rattle.fluent_syntax_tree.specs.declared.ast.Expression.{Expression, Select, Inline, roll-Expression}
use Rattle.fluent_syntax_tree.specs.declared.ast.Expression.{out-Expression, roll-out-Expression, map-Expression}
use Rattle.fluent_syntax_tree.specs.declared.ast.InlineExpression as inl
use Rattle.fluent_syntax_tree.specs.declared.ast.InlineExpression.{InlineExpression, roll-InlineExpression}
use Rattle.fluent_syntax_tree.specs.declared.ast.InlineExpression.{out-InlineExpression, roll-out-InlineExpression}
use Rattle.fluent_syntax_tree.specs.declared.ast.InlineExpression.{map-InlineExpression}
use Rattle.fluent_syntax_tree.specs.declared.ast.PatternElement as elem
use Rattle.fluent_syntax_tree.specs.declared.ast.PatternElement.{PatternElement, roll-PatternElement}
use Rattle.fluent_syntax_tree.specs.declared.ast.PatternElement.{out-PatternElement, roll-out-PatternElement}
use Rattle.fluent_syntax_tree.specs.declared.ast.PatternElement.{map-PatternElement}
use Rattle.fluent_syntax_tree.specs.declared.ast.CallArguments.{CallArguments, roll-CallArguments, out-CallArguments}
use Rattle.fluent_syntax_tree.specs.declared.ast.CallArguments.{roll-out-CallArguments, out-roll-CallArguments}
use Rattle.fluent_syntax_tree.specs.declared.ast.CallArguments.{map-CallArguments}
use Rattle.fluent_syntax_tree.specs.declared.ast.NamedArgument.{NamedArgument, roll-NamedArgument, map-NamedArgument}
use Rattle.fluent_syntax_tree.specs.declared.ast.Pattern.{Pattern, roll-Pattern, map-Pattern, ind-Pattern}
use Rattle.fluent_syntax_tree.specs.declared.ast.Variant.{Variant, roll-Variant, map-Variant}
use Rattle.fluent_syntax_tree.specs.declared.ast.Expression.TheOpen as layer
use Rattle.fluent_syntax_tree.specs.declared.ast.Expression.TheOpen.{Expression-F, InlineExpression-F, PatternElement-F}
use Rattle.fluent_syntax_tree.specs.declared.ast.Expression.TheOpen.{CallArguments-F, NamedArgument-F, Pattern-F}
use Rattle.fluent_syntax_tree.specs.declared.ast.Expression.TheOpen.{Variant-F}
use Rattle.fluent_syntax_tree.specs.contracts.ast.IdentifierPartialEq.TheImpl as identifier_eq
use Rattle.fluent_syntax_tree.specs.contracts.ast.VariantKeyPartialEq.TheImpl as key_eq
use Rattle.fluent_syntax_tree.specs.contracts.ast.ExpressionPartialEq.TheImpl as expression_eq
use Rattle.fluent_syntax_tree.specs.contracts.ast.ExpressionPartialEq.TheImpl.Laws as expression_laws
use Rattle.fluent_syntax_tree.specs.contracts.ast.InlineExpressionPartialEq.TheImpl as inline_eq
use Rattle.fluent_syntax_tree.specs.contracts.ast.InlineExpressionPartialEq.TheImpl.Laws as inline_laws
use Rattle.fluent_syntax_tree.specs.contracts.ast.PatternElementPartialEq.TheImpl as element_eq
use Rattle.fluent_syntax_tree.specs.contracts.ast.PatternElementPartialEq.TheImpl.Laws as element_laws
use Rattle.fluent_syntax_tree.specs.contracts.ast.CallArgumentsPartialEq.TheImpl as arguments_eq
use Rattle.fluent_syntax_tree.specs.contracts.ast.CallArgumentsPartialEq.TheImpl.Laws as arguments_laws
use Rattle.fluent_syntax_tree.specs.contracts.ast.NamedArgumentPartialEq.TheImpl as named_eq
use Rattle.fluent_syntax_tree.specs.contracts.ast.NamedArgumentPartialEq.TheImpl.Laws as named_laws
use Rattle.fluent_syntax_tree.specs.contracts.ast.PatternPartialEq.TheImpl as pattern_eq
use Rattle.fluent_syntax_tree.specs.contracts.ast.PatternPartialEq.TheImpl.Laws as pattern_laws
use Rattle.fluent_syntax_tree.specs.contracts.ast.VariantPartialEq.TheImpl as variant_eq
use Rattle.fluent_syntax_tree.specs.contracts.ast.VariantPartialEq.TheImpl.Laws as variant_laws
use Rattle.fluent_syntax_tree.specs.declared.ast.Attribute.{Attribute}
use Rattle.fluent_syntax_tree.specs.contracts.ast.AttributePartialEq.TheImpl as attribute_eq
use Rattle.fluent_syntax_tree.specs.declared.ast.Comment.{Comment}
use Rattle.fluent_syntax_tree.specs.contracts.ast.CommentPartialEq.TheImpl as comment_eq
use Rattle.fluent_syntax_tree.specs.declared.ast.Message.{Message}
use Rattle.fluent_syntax_tree.specs.contracts.ast.MessagePartialEq.TheImpl as message_eq
use Rattle.fluent_syntax_tree.specs.declared.ast.Term.{Term}
use Rattle.fluent_syntax_tree.specs.contracts.ast.TermPartialEq.TheImpl as term_eq
use Rattle.fluent_syntax_tree.specs.declared.ast.Entry.{Entry}
use Rattle.fluent_syntax_tree.specs.contracts.ast.EntryPartialEq.TheImpl as entry_eq
use Rattle.fluent_syntax_tree.specs.declared.ast.Resource.{Resource}
use Rattle.fluent_syntax_tree.specs.contracts.ast.ResourcePartialEq.TheImpl as resource_eq
use Rattle.fluent_syntax_tree.specs.declared.ast.Entry.TheVariants as entries
use Rattle.fluent_syntax_tree.specs.contracts.ast.Expression.{the_beta as expression_beta}
use Rattle.fluent_syntax_tree.specs.contracts.ast.InlineExpression.{the_beta as inline_beta}
use Rattle.std.specs.declared.cmp.PartialEq.{Ghosts}
use Rattle.std.specs.contracts.cmp.PartialEq.TheBound.{Lawful}
use denote.RattleType.{RattleType}
use denote.Hole.Carrier as carrier
use mathlib.Core.Logic.{inl as left, inr}
use mir.Syntax.{Dict}

abbrev WithClaim : {A : Type 0} → (A → Type 0) → Type 0
WithClaim {A} P = (a : A) × P a

false_decides_refuted : {Q : Type 0} (r : Bool) → r ≡ false → (Q → ⊥) → Decides r Q
false_decides_refuted r e refused = (λ h. absurd (true≢false (sym h ∙ e)), λ q. absurd (refused q))

true_decides_proved : {Q : Type 0} (r : Bool) → r ≡ true → Q → Decides r Q
true_decides_proved r e q = (λ _. q, λ _. e)

both_decisions_decide_and : {P Q : Type 0} (r s : Bool) → Decides r P → Decides s Q → Decides (r && s) (P × Q)
both_decisions_decide_and true s d e = (λ h. (d.0 refl, e.0 h), λ pq. e.1 pq.1)
both_decisions_decide_and false s d e = (λ h. absurd (true≢false (sym h)), λ pq. d.1 pq.0)

beq-Decides : (a b : Bool) → Decides (beq a b) (a ≡ b)
beq-Decides true true = (λ _. refl, λ _. refl)
beq-Decides true false = (λ h. absurd (true≢false (sym h)), λ q. absurd (true≢false q))
beq-Decides false true = (λ h. absurd (true≢false (sym h)), λ q. absurd (true≢false (sym q)))
beq-Decides false false = (λ _. refl, λ _. refl)

equal_test_decides_equivalent : {P Q : Type 0} (r s : Bool) → r ≡ s → Decides s P → (P → Q) → (Q → P) → Decides r Q
equal_test_decides_equivalent r s e d to from = (λ h. to (d.0 (sym e ∙ h)), λ q. e ∙ d.1 (from q))

-- ---- which form a tree has, by a number: two forms are apart where their numbers are, which computes

abbrev is_number : ℕ → ℕ → Bool
is_number zero zero = true
is_number zero (suc n) = false
is_number (suc m) zero = false
is_number (suc m) (suc n) = is_number m n

is_number-same : (n : ℕ) → is_number n n ≡ true
is_number-same zero = refl
is_number-same (suc n) = is_number-same n

is_number-differs : (m n : ℕ) → is_number m n ≡ false → m ≡ n → ⊥
is_number-differs m n e q = true≢false (sym (is_number-same n) ∙ subst (λ k. is_number k n ≡ false) q e)

abbrev inline_number : {X : Type 0} → InlineTree X → ℕ
inline_number (string_literal x) = 0
inline_number (number_literal x) = 1
inline_number (function_reference x a) = 2
inline_number (message_reference x o) = 3
inline_number (term_reference x o a) = 4
inline_number (variable_reference x) = 5
inline_number (inline_placeable e) = 6

-- ---- options and lists

equality_of_options_is_decided : {A X : Type 0} (eq : A → A → Bool) (view : A → X) →
    ((a b : A) → Decides (eq a b) (view a ≡ view b)) →
    (o p : Option A) → Decides (option_eq eq o p) (option_map view o ≡ option_map view p)
equality_of_options_is_decided eq view d None None = true_decides_proved _ refl refl
equality_of_options_is_decided eq view d None (Some b) = false_decides_refuted _ refl (λ q. cc)
equality_of_options_is_decided eq view d (Some a) None = false_decides_refuted _ refl (λ q. cc)
equality_of_options_is_decided eq view d (Some a) (Some b) =
    equal_test_decides_equivalent _ _ refl (d a b) (λ h. ap Some h) (λ q. cc)

equality_of_lists_is_decided : {A X : Type 0} (eq : A → A → Bool) (view : A → X) →
    ((a b : A) → Decides (eq a b) (view a ≡ view b)) →
    (xs ys : List A) → Decides (pointwise eq xs ys) (map view xs ≡ map view ys)
equality_of_lists_is_decided eq view d [] [] = true_decides_proved _ refl refl
equality_of_lists_is_decided eq view d [] (y ∷ ys) = false_decides_refuted _ refl (λ q. cc)
equality_of_lists_is_decided eq view d (x ∷ xs) [] = false_decides_refuted _ refl (λ q. cc)
equality_of_lists_is_decided eq view d (x ∷ xs) (y ∷ ys) =
    equal_test_decides_equivalent _ _ refl
    (both_decisions_decide_and _ _ (d x y) (equality_of_lists_is_decided eq view d xs ys)) (λ h. rw (h.0, h.1))
    (λ q. (cc, cc))

module _ {X : Type 0} (S : RattleType) (E : Ghosts S.Denot) (dict : Dict) (lawful : Lawful S E dict)
    (text : S.Denot → X) (by_text : (x y : S.Denot) → Decides (E.eq x y) (text x ≡ text y)) where
  pub decides_by_view-Identifier : (i j : Identifier S.Denot) →
      Decides ((identifier_eq.ghosts S E dict).eq i j) (identifier_view text i ≡ identifier_view text j)
  decides_by_view-Identifier i j = by_text i.name j.name

  pub decides_by_view-VariantKey : (i j : VariantKey S.Denot) →
      Decides ((key_eq.ghosts S E dict).eq i j) (key_view text i ≡ key_view text j)
  decides_by_view-VariantKey (key.Identifier x) (key.Identifier y) =
      equal_test_decides_equivalent _ _ refl (by_text x y) (λ h. rw h) (λ q. cc)
  decides_by_view-VariantKey (key.Identifier x) (key.NumberLiteral y) = false_decides_refuted _ refl (λ q. cc)
  decides_by_view-VariantKey (key.NumberLiteral x) (key.Identifier y) = false_decides_refuted _ refl (λ q. cc)
  decides_by_view-VariantKey (key.NumberLiteral x) (key.NumberLiteral y) =
      equal_test_decides_equivalent _ _ refl (by_text x y) (λ h. rw h) (λ q. cc)

  -- ---- what each form's `==` computes to

  eq-Select : (e d : InlineExpression S.Denot) (vs ws : Vec (Variant S.Denot) Global) →
      (expression_eq.ghosts S E dict).eq (Select e vs) (Select d ws)
      ≡ ((inline_eq.ghosts S E dict).eq e d && pointwise (variant_eq.ghosts S E dict).eq vs.items ws.items)
  eq-Select e d vs ws =
      rw (expression_beta S (left (e, (vs, tt))), expression_beta S (left (d, (ws, tt)))) at
      (expression_laws.is S E dict lawful (Select e vs) (Select d ws))

  eq-Inline : (e d : InlineExpression S.Denot) →
      (expression_eq.ghosts S E dict).eq (Inline e) (Inline d) ≡ (inline_eq.ghosts S E dict).eq e d
  eq-Inline e d =
      rw (expression_beta S (inr (left (e, tt))), expression_beta S (inr (left (d, tt)))) at
      (expression_laws.is S E dict lawful (Inline e) (Inline d))

  eq-StringLiteral : (x y : S.Denot) →
      (inline_eq.ghosts S E dict).eq (inl.StringLiteral x) (inl.StringLiteral y) ≡ E.eq x y
  eq-StringLiteral x y =
      rw (inline_beta S (left (x, tt)), inline_beta S (left (y, tt))) at
      (inline_laws.is S E dict lawful (inl.StringLiteral x) (inl.StringLiteral y))

  eq-NumberLiteral : (x y : S.Denot) →
      (inline_eq.ghosts S E dict).eq (inl.NumberLiteral x) (inl.NumberLiteral y) ≡ E.eq x y
  eq-NumberLiteral x y =
      rw (inline_beta S (inr (left (x, tt))), inline_beta S (inr (left (y, tt)))) at
      (inline_laws.is S E dict lawful (inl.NumberLiteral x) (inl.NumberLiteral y))

  eq-FunctionReference : (i j : Identifier S.Denot) (a b : CallArguments S.Denot) →
      (inline_eq.ghosts S E dict).eq (inl.FunctionReference i a) (inl.FunctionReference j b)
      ≡ (E.eq i.name j.name && (arguments_eq.ghosts S E dict).eq a b)
  eq-FunctionReference i j a b =
      rw (inline_beta S (inr (inr (left (i, (a, tt))))), inline_beta S (inr (inr (left (j, (b, tt)))))) at
      (inline_laws.is S E dict lawful (inl.FunctionReference i a) (inl.FunctionReference j b))

  eq-MessageReference : (i j : Identifier S.Denot) (o p : Option (Identifier S.Denot)) →
      (inline_eq.ghosts S E dict).eq (inl.MessageReference i o) (inl.MessageReference j p)
      ≡ (E.eq i.name j.name && option_eq (identifier_eq.ghosts S E dict).eq o p)
  eq-MessageReference i j o p =
      rw (inline_beta S (inr (inr (inr (left (i, (o, tt)))))), inline_beta S (inr (inr (inr (left (j, (p, tt))))))) at
      (inline_laws.is S E dict lawful (inl.MessageReference i o) (inl.MessageReference j p))

  eq-TermReference :
      (i j : Identifier S.Denot) (o p : Option (Identifier S.Denot)) (a b : Option (CallArguments S.Denot)) →
      (inline_eq.ghosts S E dict).eq (inl.TermReference i o a) (inl.TermReference j p b)
      ≡ (E.eq i.name j.name &&
      (option_eq (identifier_eq.ghosts S E dict).eq o p && option_eq (arguments_eq.ghosts S E dict).eq a b))
  eq-TermReference i j o p a b =
      rw (
        inline_beta S (inr (inr (inr (inr (left (i, (o, (a, tt)))))))),
        inline_beta S (inr (inr (inr (inr (left (j, (p, (b, tt)))))))),
      ) at
      (inline_laws.is S E dict lawful (inl.TermReference i o a) (inl.TermReference j p b))

  eq-VariableReference : (i j : Identifier S.Denot) →
      (inline_eq.ghosts S E dict).eq (inl.VariableReference i) (inl.VariableReference j) ≡ E.eq i.name j.name
  eq-VariableReference i j =
      rw (
        inline_beta S (inr (inr (inr (inr (inr (left (i, tt))))))),
        inline_beta S (inr (inr (inr (inr (inr (left (j, tt))))))),
      ) at
      (inline_laws.is S E dict lawful (inl.VariableReference i) (inl.VariableReference j))

  eq-InlinePlaceable : (e d : Box (Expression S.Denot) Global) →
      (inline_eq.ghosts S E dict).eq (inl.Placeable e) (inl.Placeable d)
      ≡ (expression_eq.ghosts S E dict).eq e.value d.value
  eq-InlinePlaceable e d =
      rw (
        inline_beta S (inr (inr (inr (inr (inr (inr (left (e, tt)))))))),
        inline_beta S (inr (inr (inr (inr (inr (inr (left (d, tt)))))))),
      ) at
      (inline_laws.is S E dict lawful (inl.Placeable e) (inl.Placeable d))

  eq-TextElement : (x y : S.Denot) →
      (element_eq.ghosts S E dict).eq (elem.TextElement x) (elem.TextElement y) ≡ E.eq x y
  eq-TextElement x y = element_laws.is S E dict lawful (elem.TextElement x) (elem.TextElement y)

  eq-Placeable : (e d : Expression S.Denot) →
      (element_eq.ghosts S E dict).eq (elem.Placeable e) (elem.Placeable d) ≡ (expression_eq.ghosts S E dict).eq e d
  eq-Placeable e d = element_laws.is S E dict lawful (elem.Placeable e) (elem.Placeable d)

  eq-CallArguments :
      (a b : CallArguments-F S.Denot (Expression S.Denot) (InlineExpression S.Denot) (PatternElement S.Denot)
      (CallArguments S.Denot) (NamedArgument S.Denot) (Pattern S.Denot) (Variant S.Denot)) →
      (arguments_eq.ghosts S E dict).eq (roll-CallArguments S.Denot a) (roll-CallArguments S.Denot b)
      ≡ (pointwise (inline_eq.ghosts S E dict).eq a.positional.items b.positional.items &&
      pointwise (named_eq.ghosts S E dict).eq a.named.items b.named.items)
  eq-CallArguments a b =
      rw (out-roll-CallArguments S.Denot a, out-roll-CallArguments S.Denot b) at
      (arguments_laws.is S E dict lawful (roll-CallArguments S.Denot a) (roll-CallArguments S.Denot b))

  -- ---- the claims

  abbrev ClaimX : Expression S.Denot → Type 0
  ClaimX a =
      (b : Expression S.Denot) →
      Decides ((expression_eq.ghosts S E dict).eq a b) (expression_view text a ≡ expression_view text b)

  abbrev ClaimI : InlineExpression S.Denot → Type 0
  ClaimI a =
      (b : InlineExpression S.Denot) →
      Decides ((inline_eq.ghosts S E dict).eq a b) (inline_view text a ≡ inline_view text b)

  abbrev ClaimE : PatternElement S.Denot → Type 0
  ClaimE a =
      (b : PatternElement S.Denot) →
      Decides ((element_eq.ghosts S E dict).eq a b) (element_view text a ≡ element_view text b)

  abbrev ClaimA : CallArguments S.Denot → Type 0
  ClaimA a =
      (b : CallArguments S.Denot) →
      Decides ((arguments_eq.ghosts S E dict).eq a b) (arguments_view text a ≡ arguments_view text b)

  abbrev ClaimN : NamedArgument S.Denot → Type 0
  ClaimN a =
      (b : NamedArgument S.Denot) → Decides ((named_eq.ghosts S E dict).eq a b) (named_view text a ≡ named_view text b)

  abbrev ClaimP : Pattern S.Denot → Type 0
  ClaimP a =
      (b : Pattern S.Denot) → Decides ((pattern_eq.ghosts S E dict).eq a b) (pattern_view text a ≡ pattern_view text b)

  abbrev ClaimV : Variant S.Denot → Type 0
  ClaimV a =
      (b : Variant S.Denot) → Decides ((variant_eq.ghosts S E dict).eq a b) (variant_view text a ≡ variant_view text b)

  abbrev Held : (F : (A B C D E G H : Type 0) → Type 0) → Type 0
  Held F = F (WithClaim ClaimX) (WithClaim ClaimI) (WithClaim ClaimE) (WithClaim ClaimA) (WithClaim ClaimN)
      (WithClaim ClaimP) (WithClaim ClaimV)

  equality_of_inlines_decides : (ps : List (WithClaim ClaimI)) (bs : List (InlineExpression S.Denot)) →
      Decides (pointwise (inline_eq.ghosts S E dict).eq (map (λ p. p.0) ps) bs)
      (inlines_of (map (inline_view text) (map (λ p. p.0) ps)) ≡ inlines_of (map (inline_view text) bs))
  equality_of_inlines_decides [] [] = true_decides_proved _ refl refl
  equality_of_inlines_decides [] (b ∷ bs) = false_decides_refuted _ refl (λ q. cc)
  equality_of_inlines_decides (p ∷ ps) [] = false_decides_refuted _ refl (λ q. cc)
  equality_of_inlines_decides (p ∷ ps) (b ∷ bs) =
      equal_test_decides_equivalent _ _ refl (both_decisions_decide_and _ _ (p.1 b) (equality_of_inlines_decides ps bs))
      (λ h. rw (h.0, h.1))
      (λ q. (cc, cc))

  equality_of_named_arguments_decides : (ps : List (WithClaim ClaimN)) (bs : List (NamedArgument S.Denot)) →
      Decides (pointwise (named_eq.ghosts S E dict).eq (map (λ p. p.0) ps) bs)
      (nameds_of (map (named_view text) (map (λ p. p.0) ps)) ≡ nameds_of (map (named_view text) bs))
  equality_of_named_arguments_decides [] [] = true_decides_proved _ refl refl
  equality_of_named_arguments_decides [] (b ∷ bs) = false_decides_refuted _ refl (λ q. cc)
  equality_of_named_arguments_decides (p ∷ ps) [] = false_decides_refuted _ refl (λ q. cc)
  equality_of_named_arguments_decides (p ∷ ps) (b ∷ bs) =
      equal_test_decides_equivalent _ _ refl
      (both_decisions_decide_and _ _ (p.1 b) (equality_of_named_arguments_decides ps bs)) (λ h. rw (h.0, h.1))
      (λ q. (cc, cc))

  equality_of_elements_decides : (ps : List (WithClaim ClaimE)) (bs : List (PatternElement S.Denot)) →
      Decides (pointwise (element_eq.ghosts S E dict).eq (map (λ p. p.0) ps) bs)
      (elements_of (map (element_view text) (map (λ p. p.0) ps)) ≡ elements_of (map (element_view text) bs))
  equality_of_elements_decides [] [] = true_decides_proved _ refl refl
  equality_of_elements_decides [] (b ∷ bs) = false_decides_refuted _ refl (λ q. cc)
  equality_of_elements_decides (p ∷ ps) [] = false_decides_refuted _ refl (λ q. cc)
  equality_of_elements_decides (p ∷ ps) (b ∷ bs) =
      equal_test_decides_equivalent _ _ refl
      (both_decisions_decide_and _ _ (p.1 b) (equality_of_elements_decides ps bs)) (λ h. rw (h.0, h.1))
      (λ q. (cc, cc))

  equality_of_variants_decides : (ps : List (WithClaim ClaimV)) (bs : List (Variant S.Denot)) →
      Decides (pointwise (variant_eq.ghosts S E dict).eq (map (λ p. p.0) ps) bs)
      (variants_of (map (variant_view text) (map (λ p. p.0) ps)) ≡ variants_of (map (variant_view text) bs))
  equality_of_variants_decides [] [] = true_decides_proved _ refl refl
  equality_of_variants_decides [] (b ∷ bs) = false_decides_refuted _ refl (λ q. cc)
  equality_of_variants_decides (p ∷ ps) [] = false_decides_refuted _ refl (λ q. cc)
  equality_of_variants_decides (p ∷ ps) (b ∷ bs) =
      equal_test_decides_equivalent _ _ refl
      (both_decisions_decide_and _ _ (p.1 b) (equality_of_variants_decides ps bs)) (λ h. rw (h.0, h.1))
      (λ q. (cc, cc))

  decide-Element :
      (y : Held (PatternElement-F S.Denot))
      (z : PatternElement-F S.Denot (Expression S.Denot) (InlineExpression S.Denot) (PatternElement S.Denot)
      (CallArguments S.Denot) (NamedArgument S.Denot) (Pattern S.Denot) (Variant S.Denot)) →
      let a : PatternElement S.Denot =
      roll-PatternElement S.Denot
      (map-PatternElement S.Denot _ _ _ _ _ _ _ _ _ _ _ _ _ _ (λ e. e.0) (λ e. e.0) (λ e. e.0) (λ e. e.0) (λ e. e.0)
      (λ e. e.0) (λ e. e.0) y) in
      Decides ((element_eq.ghosts S E dict).eq a (roll-PatternElement S.Denot z))
      (element_view text a ≡ element_view text (roll-PatternElement S.Denot z))
  unfolding roll-PatternElement carrier.roll out-PatternElement carrier.out
  decide-Element (layer.TextElement x) (layer.TextElement y) =
      equal_test_decides_equivalent _ _ (eq-TextElement x y) (by_text x y)
      (λ p. view-TextElement text x ∙ ap text_element p ∙ sym (view-TextElement text y))
      (λ q. let e : text_element (text x) ≡ text_element (text y) =
      sym (view-TextElement text x) ∙ q ∙ view-TextElement text y in cc e)
  decide-Element (layer.TextElement x) (layer.PatternElement::Placeable e) =
      false_decides_refuted _ (element_laws.is S E dict lawful _ _)
      (λ q. let f : text_element (text x) ≡ placeable (expression_view text e) =
      sym (view-TextElement text x) ∙ q ∙ view-Placeable text e in cc f)
  decide-Element (layer.PatternElement::Placeable e) (layer.TextElement y) =
      false_decides_refuted _ (element_laws.is S E dict lawful _ _)
      (λ q. let f : placeable (expression_view text e.0) ≡ text_element (text y) =
      sym (view-Placeable text e.0) ∙ q ∙ view-TextElement text y in cc f)
  decide-Element (layer.PatternElement::Placeable e) (layer.PatternElement::Placeable d) =
      equal_test_decides_equivalent _ _ (eq-Placeable e.0 d) (e.1 d)
      (λ p. view-Placeable text e.0 ∙ ap placeable p ∙ sym (view-Placeable text d))
      (λ q. let f : placeable (expression_view text e.0) ≡ placeable (expression_view text d) =
      sym (view-Placeable text e.0) ∙ q ∙ view-Placeable text d in cc f)

  decide-Expression :
      (y : Held (Expression-F S.Denot))
      (z : Expression-F S.Denot (Expression S.Denot) (InlineExpression S.Denot) (PatternElement S.Denot)
      (CallArguments S.Denot) (NamedArgument S.Denot) (Pattern S.Denot) (Variant S.Denot)) →
      let a : Expression S.Denot =
      roll-Expression S.Denot
      (map-Expression S.Denot _ _ _ _ _ _ _ _ _ _ _ _ _ _ (λ e. e.0) (λ e. e.0) (λ e. e.0) (λ e. e.0) (λ e. e.0)
      (λ e. e.0) (λ e. e.0) y) in
      Decides ((expression_eq.ghosts S E dict).eq a (roll-Expression S.Denot z))
      (expression_view text a ≡ expression_view text (roll-Expression S.Denot z))
  unfolding roll-Expression carrier.roll out-Expression carrier.out
  decide-Expression (layer.Select e vs) (layer.Select d ws) =
      equal_test_decides_equivalent _ _ (eq-Select e.0 d _ ws)
      (both_decisions_decide_and _ _ (e.1 d) (equality_of_variants_decides vs.items ws.items))
      (λ h. view-Select text e.0 _
      ∙ ap (λ k. select k (variants_of (map (variant_view text) (map (λ p. p.0) vs.items)))) h.0
      ∙ ap (select (inline_view text d)) h.1 ∙ sym (view-Select text d ws))
      (λ q. let f :
      select (inline_view text e.0) (variants_of (map (variant_view text) (map (λ p. p.0) vs.items)))
      ≡ select (inline_view text d) (variants_of (map (variant_view text) ws.items)) =
      sym (view-Select text e.0 _) ∙ q ∙ view-Select text d ws in (cc f, cc f))
  decide-Expression (layer.Inline e) (layer.Inline d) =
      equal_test_decides_equivalent _ _ (eq-Inline e.0 d) (e.1 d)
      (λ p. view-Inline text e.0 ∙ ap inline p ∙ sym (view-Inline text d))
      (λ q. let f : inline (inline_view text e.0) ≡ inline (inline_view text d) =
      sym (view-Inline text e.0) ∙ q ∙ view-Inline text d in cc f)
  decide-Expression y z =
      false_decides_refuted _ (expression_laws.is S E dict lawful _ _)
      (λ q. cc (sym
      (view-roll-Expression text
      (map-Expression S.Denot _ _ _ _ _ _ _ _ _ _ _ _ _ _ (λ e. e.0) (λ e. e.0) (λ e. e.0) (λ e. e.0) (λ e. e.0)
      (λ e. e.0) (λ e. e.0) y)) ∙ q ∙ view-roll-Expression text z))

  equality_of_arguments_decides : (o : Option (WithClaim ClaimA)) (b : Option (CallArguments S.Denot)) →
      Decides (option_eq (arguments_eq.ghosts S E dict).eq (option_map (λ p. p.0) o) b)
      (arguments_of (option_map (arguments_view text) (option_map (λ p. p.0) o))
      ≡ arguments_of (option_map (arguments_view text) b))
  equality_of_arguments_decides None None = true_decides_proved _ refl refl
  equality_of_arguments_decides None (Some b) = false_decides_refuted _ refl (λ q. cc)
  equality_of_arguments_decides (Some p) None = false_decides_refuted _ refl (λ q. cc)
  equality_of_arguments_decides (Some p) (Some b) =
      equal_test_decides_equivalent _ _ refl (p.1 b) (λ h. ap some_arguments h) (λ q. cc)

  decide-Inline :
      (y : Held (InlineExpression-F S.Denot))
      (z : InlineExpression-F S.Denot (Expression S.Denot) (InlineExpression S.Denot) (PatternElement S.Denot)
      (CallArguments S.Denot) (NamedArgument S.Denot) (Pattern S.Denot) (Variant S.Denot)) →
      let a : InlineExpression S.Denot =
      roll-InlineExpression S.Denot
      (map-InlineExpression S.Denot _ _ _ _ _ _ _ _ _ _ _ _ _ _ (λ e. e.0) (λ e. e.0) (λ e. e.0) (λ e. e.0) (λ e. e.0)
      (λ e. e.0) (λ e. e.0) y) in
      Decides ((inline_eq.ghosts S E dict).eq a (roll-InlineExpression S.Denot z))
      (inline_view text a ≡ inline_view text (roll-InlineExpression S.Denot z))
  unfolding roll-InlineExpression carrier.roll out-InlineExpression carrier.out
  decide-Inline (layer.StringLiteral x) (layer.StringLiteral y) =
      equal_test_decides_equivalent _ _ (eq-StringLiteral x y) (by_text x y)
      (λ p. view-StringLiteral text x ∙ ap string_literal p ∙ sym (view-StringLiteral text y))
      (λ q. let e : string_literal (text x) ≡ string_literal (text y) =
      sym (view-StringLiteral text x) ∙ q ∙ view-StringLiteral text y in cc e)
  decide-Inline (layer.NumberLiteral x) (layer.NumberLiteral y) =
      equal_test_decides_equivalent _ _ (eq-NumberLiteral x y) (by_text x y)
      (λ p. view-NumberLiteral text x ∙ ap number_literal p ∙ sym (view-NumberLiteral text y))
      (λ q. let e : number_literal (text x) ≡ number_literal (text y) =
      sym (view-NumberLiteral text x) ∙ q ∙ view-NumberLiteral text y in cc e)
  decide-Inline (layer.FunctionReference i a) (layer.FunctionReference j b) =
      equal_test_decides_equivalent _ _ (eq-FunctionReference i j a.0 b)
      (both_decisions_decide_and _ _ (by_text i.name j.name) (a.1 b))
      (λ h. view-FunctionReference text i a.0 ∙ ap (λ x. function_reference x (arguments_view text a.0)) h.0
      ∙ ap (function_reference (text j.name)) h.1 ∙ sym (view-FunctionReference text j b))
      (λ q. let f :
      function_reference (text i.name) (arguments_view text a.0)
      ≡ function_reference (text j.name) (arguments_view text b) =
      sym (view-FunctionReference text i a.0) ∙ q ∙ view-FunctionReference text j b in (cc f, cc f))
  decide-Inline (layer.MessageReference i o) (layer.MessageReference j p) =
      equal_test_decides_equivalent _ _ (eq-MessageReference i j o p)
      (both_decisions_decide_and _ _ (by_text i.name j.name)
      (equality_of_options_is_decided _ (identifier_view text) decides_by_view-Identifier o p))
      (λ h. view-MessageReference text i o ∙ ap (λ x. message_reference x (option_map (identifier_view text) o)) h.0
      ∙ ap (message_reference (text j.name)) h.1 ∙ sym (view-MessageReference text j p))
      (λ q. let f :
      message_reference (text i.name) (option_map (identifier_view text) o)
      ≡ message_reference (text j.name) (option_map (identifier_view text) p) =
      sym (view-MessageReference text i o) ∙ q ∙ view-MessageReference text j p in (cc f, cc f))
  decide-Inline (layer.TermReference i o None) (layer.TermReference j p b) =
      equal_test_decides_equivalent _ _ (eq-TermReference i j o p None b)
      (both_decisions_decide_and _ _ (by_text i.name j.name)
      (both_decisions_decide_and _ _
      (equality_of_options_is_decided _ (identifier_view text) decides_by_view-Identifier o p)
      (equality_of_arguments_decides None b)))
      (λ h. view-TermReference text i o None
      ∙ ap (λ x. term_reference x (option_map (identifier_view text) o)
      (arguments_of (option_map (arguments_view text) None))) h.0
      ∙ ap (λ x. term_reference (text j.name) x (arguments_of (option_map (arguments_view text) None))) h.1.0
      ∙ ap (λ x. term_reference (text j.name) (option_map (identifier_view text) p) x) h.1.1
      ∙ sym (view-TermReference text j p b))
      (λ q. let f :
      term_reference (text i.name) (option_map (identifier_view text) o)
      (arguments_of (option_map (arguments_view text) None))
      ≡ term_reference (text j.name) (option_map (identifier_view text) p)
      (arguments_of (option_map (arguments_view text) b)) =
      sym (view-TermReference text i o None) ∙ q ∙ view-TermReference text j p b in (cc f, (cc f, cc f)))
  decide-Inline (layer.TermReference i o (Some a)) (layer.TermReference j p b) =
      equal_test_decides_equivalent _ _ (eq-TermReference i j o p (Some a.0) b)
      (both_decisions_decide_and _ _ (by_text i.name j.name)
      (both_decisions_decide_and _ _
      (equality_of_options_is_decided _ (identifier_view text) decides_by_view-Identifier o p)
      (equality_of_arguments_decides (Some a) b)))
      (λ h. view-TermReference text i o (Some a.0)
      ∙ ap (λ x. term_reference x (option_map (identifier_view text) o)
      (arguments_of (option_map (arguments_view text) (Some a.0)))) h.0
      ∙ ap (λ x. term_reference (text j.name) x (arguments_of (option_map (arguments_view text) (Some a.0))))
      h.1.0 ∙ ap (λ x. term_reference (text j.name) (option_map (identifier_view text) p) x) h.1.1
      ∙ sym (view-TermReference text j p b))
      (λ q. let f :
      term_reference (text i.name) (option_map (identifier_view text) o)
      (arguments_of (option_map (arguments_view text) (Some a.0)))
      ≡ term_reference (text j.name) (option_map (identifier_view text) p)
      (arguments_of (option_map (arguments_view text) b)) =
      sym (view-TermReference text i o (Some a.0)) ∙ q ∙ view-TermReference text j p b in (cc f, (cc f, cc f)))
  decide-Inline (layer.VariableReference i) (layer.VariableReference j) =
      equal_test_decides_equivalent _ _ (eq-VariableReference i j) (by_text i.name j.name)
      (λ p. view-VariableReference text i ∙ ap variable_reference p ∙ sym (view-VariableReference text j))
      (λ q. let e : variable_reference (text i.name) ≡ variable_reference (text j.name) =
      sym (view-VariableReference text i) ∙ q ∙ view-VariableReference text j in cc e)
  decide-Inline (layer.InlineExpression::Placeable e) (layer.InlineExpression::Placeable d) =
      equal_test_decides_equivalent _ _ (eq-InlinePlaceable _ d) (e.value.1 d.value)
      (λ p. view-InlinePlaceable text _ ∙ ap inline_placeable p ∙ sym (view-InlinePlaceable text d))
      (λ q. let f :
      inline_placeable (expression_view text e.value.0) ≡ inline_placeable (expression_view text d.value) =
      sym (view-InlinePlaceable text _) ∙ q ∙ view-InlinePlaceable text d in cc f)
  decide-Inline y z =
      false_decides_refuted _ (inline_laws.is S E dict lawful _ _)
      (λ q. is_number-differs _ _ refl (ap inline_number (sym
      (view-roll-InlineExpression text
      (map-InlineExpression S.Denot _ _ _ _ _ _ _ _ _ _ _ _ _ _ (λ e. e.0) (λ e. e.0) (λ e. e.0) (λ e. e.0)
      (λ e. e.0) (λ e. e.0) (λ e. e.0) y)) ∙ q ∙ view-roll-InlineExpression text z)))

  decide-Arguments :
      (y : Held (CallArguments-F S.Denot))
      (z : CallArguments-F S.Denot (Expression S.Denot) (InlineExpression S.Denot) (PatternElement S.Denot)
      (CallArguments S.Denot) (NamedArgument S.Denot) (Pattern S.Denot) (Variant S.Denot)) →
      let a : CallArguments S.Denot =
      roll-CallArguments S.Denot
      (map-CallArguments S.Denot _ _ _ _ _ _ _ _ _ _ _ _ _ _ (λ e. e.0) (λ e. e.0) (λ e. e.0) (λ e. e.0) (λ e. e.0)
      (λ e. e.0) (λ e. e.0) y) in
      Decides ((arguments_eq.ghosts S E dict).eq a (roll-CallArguments S.Denot z))
      (arguments_view text a ≡ arguments_view text (roll-CallArguments S.Denot z))
  decide-Arguments y z =
      equal_test_decides_equivalent _ _ (eq-CallArguments _ z)
      (both_decisions_decide_and _ _ (equality_of_inlines_decides y.positional.items z.positional.items)
      (equality_of_named_arguments_decides y.named.items z.named.items))
      (λ h. view-roll-CallArguments text _
      ∙ ap (λ x. arguments x (nameds_of (map (named_view text) (map (λ p. p.0) y.named.items)))) h.0
      ∙ ap (arguments (inlines_of (map (inline_view text) z.positional.items))) h.1
      ∙ sym (view-roll-CallArguments text z))
      (λ q. let f :
      arguments (inlines_of (map (inline_view text) (map (λ p. p.0) y.positional.items)))
      (nameds_of (map (named_view text) (map (λ p. p.0) y.named.items)))
      ≡ arguments (inlines_of (map (inline_view text) z.positional.items))
      (nameds_of (map (named_view text) z.named.items)) =
      sym (view-roll-CallArguments text _) ∙ q ∙ view-roll-CallArguments text z in (cc f, cc f))

  decide-Named : (y : Held (NamedArgument-F S.Denot)) (b : NamedArgument S.Denot) → let a : NamedArgument S.Denot =
      roll-NamedArgument S.Denot
      (map-NamedArgument S.Denot _ _ _ _ _ _ _ _ _ _ _ _ _ _ (λ e. e.0) (λ e. e.0) (λ e. e.0) (λ e. e.0) (λ e. e.0)
      (λ e. e.0) (λ e. e.0) y) in
      Decides ((named_eq.ghosts S E dict).eq a b) (named_view text a ≡ named_view text b)
  decide-Named y b =
      equal_test_decides_equivalent _ _ (named_laws.is S E dict lawful _ b)
      (both_decisions_decide_and _ _ (by_text y.name.name b.name.name) (y.value.1 b.value))
      (λ h. view-NamedArgument text _ ∙ ap (λ x. named_argument x (inline_view text y.value.0)) h.0
      ∙ ap (named_argument (text b.name.name)) h.1 ∙ sym (view-NamedArgument text b))
      (λ q. let f :
      named_argument (text y.name.name) (inline_view text y.value.0)
      ≡ named_argument (text b.name.name) (inline_view text b.value) =
      sym (view-NamedArgument text _) ∙ q ∙ view-NamedArgument text b in (cc f, cc f))

  decide-Pattern : (y : Held (Pattern-F S.Denot)) (b : Pattern S.Denot) → let a : Pattern S.Denot =
      roll-Pattern S.Denot
      (map-Pattern S.Denot _ _ _ _ _ _ _ _ _ _ _ _ _ _ (λ e. e.0) (λ e. e.0) (λ e. e.0) (λ e. e.0) (λ e. e.0)
      (λ e. e.0) (λ e. e.0) y) in
      Decides ((pattern_eq.ghosts S E dict).eq a b) (pattern_view text a ≡ pattern_view text b)
  decide-Pattern y b =
      equal_test_decides_equivalent _ _ (pattern_laws.is S E dict lawful _ b)
      (equality_of_elements_decides y.elements.items b.elements.items)
      (λ p. view-Pattern text _ ∙ p ∙ sym (view-Pattern text b))
      (λ q. sym (view-Pattern text _) ∙ q ∙ view-Pattern text b)

  decide-Variant : (y : Held (Variant-F S.Denot)) (b : Variant S.Denot) → let a : Variant S.Denot =
      roll-Variant S.Denot
      (map-Variant S.Denot _ _ _ _ _ _ _ _ _ _ _ _ _ _ (λ e. e.0) (λ e. e.0) (λ e. e.0) (λ e. e.0) (λ e. e.0)
      (λ e. e.0) (λ e. e.0) y) in
      Decides ((variant_eq.ghosts S E dict).eq a b) (variant_view text a ≡ variant_view text b)
  decide-Variant y b =
      equal_test_decides_equivalent _ _ (variant_laws.is S E dict lawful _ b)
      (both_decisions_decide_and _ _ (decides_by_view-VariantKey y.key b.key)
      (both_decisions_decide_and _ _ (y.value.1 b.value) (beq-Decides y.default b.default)))
      (λ h. view-Variant text _ ∙ ap (λ x. variant x (pattern_view text y.value.0) y.default) h.0
      ∙ ap (λ x. variant (key_view text b.key) x y.default) h.1.0
      ∙ ap (λ x. variant (key_view text b.key) (pattern_view text b.value) x) h.1.1 ∙ sym (view-Variant text b))
      (λ q. let f :
      variant (key_view text y.key) (pattern_view text y.value.0) y.default
      ≡ variant (key_view text b.key) (pattern_view text b.value) b.default =
      sym (view-Variant text _) ∙ q ∙ view-Variant text b in (cc f, (cc f, cc f)))

  pub decides_by_view-Pattern : (a b : Pattern S.Denot) →
      Decides ((pattern_eq.ghosts S E dict).eq a b) (pattern_view text a ≡ pattern_view text b)
  decides_by_view-Pattern =
      ind-Pattern S.Denot ClaimX ClaimI ClaimE ClaimA ClaimN ClaimP ClaimV
      (λ x y q. subst (λ x. ClaimX (roll-Expression S.Denot x)) q
      (λ b. subst (λ b.
      Decides ((expression_eq.ghosts S E dict).eq _ b) (expression_view text _ ≡ expression_view text b))
      (roll-out-Expression S.Denot b) (decide-Expression y (out-Expression S.Denot b))))
      (λ x y q. subst (λ x. ClaimI (roll-InlineExpression S.Denot x)) q
      (λ b. subst (λ b. Decides ((inline_eq.ghosts S E dict).eq _ b) (inline_view text _ ≡ inline_view text b))
      (roll-out-InlineExpression S.Denot b) (decide-Inline y (out-InlineExpression S.Denot b))))
      (λ x y q. subst (λ x. ClaimE (roll-PatternElement S.Denot x)) q
      (λ b. subst (λ b. Decides ((element_eq.ghosts S E dict).eq _ b) (element_view text _ ≡ element_view text b))
      (roll-out-PatternElement S.Denot b) (decide-Element y (out-PatternElement S.Denot b))))
      (λ x y q. subst (λ x. ClaimA (roll-CallArguments S.Denot x)) q
      (λ b. subst (λ b.
      Decides ((arguments_eq.ghosts S E dict).eq _ b) (arguments_view text _ ≡ arguments_view text b))
      (roll-out-CallArguments S.Denot b) (decide-Arguments y (out-CallArguments S.Denot b))))
      (λ x y q. subst (λ x. ClaimN (roll-NamedArgument S.Denot x)) q (decide-Named y))
      (λ x y q. subst (λ x. ClaimP (roll-Pattern S.Denot x)) q (decide-Pattern y))
      (λ x y q. subst (λ x. ClaimV (roll-Variant S.Denot x)) q (decide-Variant y))

  -- ---- entries

  pub decides_by_view-Comment : (a b : Comment S.Denot) →
      Decides ((comment_eq.ghosts S E dict).eq a b) (comment_view text a ≡ comment_view text b)
  decides_by_view-Comment a b = equality_of_lists_is_decided E.eq text by_text a.content.items b.content.items

  pub decides_by_view-Attribute : (a b : Attribute S.Denot) →
      Decides ((attribute_eq.ghosts S E dict).eq a b) (attribute_view text a ≡ attribute_view text b)
  decides_by_view-Attribute a b =
      equal_test_decides_equivalent _ _ refl
      (both_decisions_decide_and _ _ (by_text a.id.name b.id.name) (decides_by_view-Pattern a.value b.value))
      (λ h. cc)
      (λ q. (ap (λ x. x.id) q, ap (λ x. x.value) q))

  equality_of_values_decides : (o p : Option (Pattern S.Denot)) →
      Decides (option_eq (pattern_eq.ghosts S E dict).eq o p)
      (option_map (pattern_view text) o ≡ option_map (pattern_view text) p)
  equality_of_values_decides o p =
      equality_of_options_is_decided (pattern_eq.ghosts S E dict).eq (pattern_view text) decides_by_view-Pattern o p

  equality_of_attributes_decides : (xs ys : List (Attribute S.Denot)) →
      Decides (pointwise (attribute_eq.ghosts S E dict).eq xs ys)
      (map (attribute_view text) xs ≡ map (attribute_view text) ys)
  equality_of_attributes_decides xs ys =
      equality_of_lists_is_decided (attribute_eq.ghosts S E dict).eq (attribute_view text) decides_by_view-Attribute xs
      ys

  equality_of_comments_decides : (o p : Option (Comment S.Denot)) →
      Decides (option_eq (comment_eq.ghosts S E dict).eq o p)
      (option_map (comment_view text) o ≡ option_map (comment_view text) p)
  equality_of_comments_decides o p =
      equality_of_options_is_decided (comment_eq.ghosts S E dict).eq (comment_view text) decides_by_view-Comment o p

  pub decides_by_view-Message : (a b : Message S.Denot) →
      Decides ((message_eq.ghosts S E dict).eq a b) (message_view text a ≡ message_view text b)
  decides_by_view-Message a b =
      equal_test_decides_equivalent _ _ refl
      (both_decisions_decide_and _ _ (by_text a.id.name b.id.name)
      (both_decisions_decide_and _ _ (equality_of_values_decides a.value b.value)
      (both_decisions_decide_and _ _ (equality_of_attributes_decides a.attributes.items b.attributes.items)
      (equality_of_comments_decides a.comment b.comment))))
      (λ h. cc) (λ q. (ap (λ x. x.id) q, (ap (λ x. x.value) q, (ap (λ x. x.attributes) q, ap (λ x. x.comment) q))))

  pub decides_by_view-Term : (a b : Term S.Denot) →
      Decides ((term_eq.ghosts S E dict).eq a b) (term_view text a ≡ term_view text b)
  decides_by_view-Term a b =
      equal_test_decides_equivalent _ _ refl
      (both_decisions_decide_and _ _ (by_text a.id.name b.id.name)
      (both_decisions_decide_and _ _ (decides_by_view-Pattern a.value b.value)
      (both_decisions_decide_and _ _ (equality_of_attributes_decides a.attributes.items b.attributes.items)
      (equality_of_comments_decides a.comment b.comment))))
      (λ h. cc) (λ q. (ap (λ x. x.id) q, (ap (λ x. x.value) q, (ap (λ x. x.attributes) q, ap (λ x. x.comment) q))))

  pub decides_by_view-Entry : (a b : Entry S.Denot) →
      Decides ((entry_eq.ghosts S E dict).eq a b) (entry_view text a ≡ entry_view text b)
  decides_by_view-Entry (entries.Message a) (entries.Message b) =
      equal_test_decides_equivalent _ _ refl (decides_by_view-Message a b) (λ h. ap message h) (λ q. cc)
  decides_by_view-Entry (entries.Term a) (entries.Term b) =
      equal_test_decides_equivalent _ _ refl (decides_by_view-Term a b) (λ h. ap term h) (λ q. cc)
  decides_by_view-Entry (entries.Comment a) (entries.Comment b) =
      equal_test_decides_equivalent _ _ refl (decides_by_view-Comment a b) (λ h. ap (comment regular) h) (λ q. cc)
  decides_by_view-Entry (entries.GroupComment a) (entries.GroupComment b) =
      equal_test_decides_equivalent _ _ refl (decides_by_view-Comment a b) (λ h. ap (comment group) h) (λ q. cc)
  decides_by_view-Entry (entries.ResourceComment a) (entries.ResourceComment b) =
      equal_test_decides_equivalent _ _ refl (decides_by_view-Comment a b) (λ h. ap (comment resource) h) (λ q. cc)
  decides_by_view-Entry (entries.Junk x) (entries.Junk y) =
      equal_test_decides_equivalent _ _ refl (by_text x y) (λ h. ap junk h) (λ q. cc)
  decides_by_view-Entry a b = false_decides_refuted _ refl (λ q. cc)

  pub decides_by_view-Resource : (a b : Resource S.Denot) →
      Decides ((resource_eq.ghosts S E dict).eq a b) (resource_view text a ≡ resource_view text b)
  decides_by_view-Resource a b =
      equality_of_lists_is_decided (entry_eq.ghosts S E dict).eq (entry_view text) decides_by_view-Entry a.body.items
      b.body.items
