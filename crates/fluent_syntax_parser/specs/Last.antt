-- The placeable that ends a list of elements: what a reader of an expression adds.
use Rattle.std.specs.Prelude.{◌≡◌, ℕ, List, [], ◌∷◌, ◌++◌, Result, Ok, Err}
use Rattle.fluent_syntax_tree.specs.Tree.{ExpressionTree, InlineTree, inline, placeable}
use Rattle.fluent_syntax_tree.specs.View.{element_view}
use Rattle.fluent_syntax_tree.specs.declared.ast.PatternElement.{PatternElement}
use Rattle.fluent_syntax_grammar.specs.Construct.{Construct, Read}
use Rattle.fluent_syntax_parser.specs.Outcomes.{Fails}
use Rattle.fluent_syntax_parser.specs.declared.fault.ReadFault.{ReadFault}

module _ {S X : Type 0} (v : S → X) where
  -- The list is the one with an element more, which is the placeable of an expression.
  abbrev pub AddsPlaced : (old new : List (PatternElement S)) → ExpressionTree X → Type 0
  AddsPlaced old new tree = (e : PatternElement S) × (new ≡ old ++ e ∷ []) × (element_view v e ≡ placeable tree)

  -- a placeable ends the list
  abbrev pub EndsPlaced : List (PatternElement S) → Type 0
  EndsPlaced elements = (old : List (PatternElement S)) × (tree : ExpressionTree X) × AddsPlaced old elements tree

  -- that of an inline expression
  abbrev pub EndsInline : List (PatternElement S) → Type 0
  EndsInline elements = (old : List (PatternElement S)) × (tree : InlineTree X) × AddsPlaced old elements (inline tree)

  -- What a reader answers that began at i, and adds the placeable of what it read. Where it fails, nothing is said of
  -- the list.
  abbrev pub Pushes : {A : Type 0} → List ℕ → (A → ExpressionTree X) → Construct A →
      (old new : List (PatternElement S)) → ℕ → Result ℕ ReadFault → Type 0
  Pushes {A = A} t f c old new i (Ok j) = (a : A) × c i (Read a j) × AddsPlaced old new (f a)
  Pushes t f c old new i (Err x) = Fails t c i x
