-- The expressions in placeables.
use Rattle.std.specs.Prelude.{ℕ, ◌+◌, List, [], ◌∷◌, Option, Some, None, Bool, false, ◌&&◌, is_some}
use Rattle.fluent_syntax_grammar.specs.Bytes.{lf, cr, space, greater_than, hyphen, vertical_bar}
use Rattle.fluent_syntax_grammar.specs.Places.{Steps, JumpsTo, has_byte, after_eol}
use Rattle.fluent_syntax_tree.specs.Tree.{ExpressionTree, select, inline, InlineTree, message_reference, term_reference}
use Rattle.fluent_syntax_tree.specs.Tree.{inline_placeable, VariantTrees}
use Rattle.fluent_syntax_tree.specs.Kind.{Kind, ExpectedCharRange, MessageReferenceAsSelector, TermReferenceAsSelector}
use Rattle.fluent_syntax_tree.specs.Kind.{MessageAttributeAsSelector, TermAttributeAsPlaceable}
use Rattle.fluent_syntax_tree.specs.Kind.{ExpectedSimpleExpressionAsSelector}
use Rattle.fluent_syntax_grammar.specs.Construct.{Construct, ◌>>=◌, ◌>>◌, yields, fails, skip, peek, branch_on}
use Rattle.fluent_syntax_grammar.specs.Tokens.{inline_blank, blank}
pub use Rattle.fluent_syntax_grammar.specs.Family.{placeable}
use Rattle.fluent_syntax_grammar.specs.Family.{Family}
use Rattle.fluent_syntax_grammar.specs.Inline.{inline_expression}
use Rattle.fluent_syntax_grammar.specs.Variants.{more_variants}
use Rattle.fluent_syntax_tree.specs.declared.edition.Edition.{Edition}
use Rattle.fluent_syntax_tree.specs.declared.spans.Span.{Span}

-- Why an expression is no selector. A string, a number, a variable, a function and a term reference with attribute are
-- selectors.
abbrev pub selector_fault : {X : Type 0} → InlineTree X → Option Kind
selector_fault (message_reference id None) = Some MessageReferenceAsSelector
selector_fault (message_reference id (Some a)) = Some MessageAttributeAsSelector
selector_fault (term_reference id None a) = Some TermReferenceAsSelector
selector_fault (inline_placeable e) = Some ExpectedSimpleExpressionAsSelector
selector_fault _ = None

-- a term reference with attribute
abbrev pub is_term_attribute : {X : Type 0} → InlineTree X → Bool
is_term_attribute (term_reference id attribute a) = is_some attribute
is_term_attribute _ = false

-- The line end after the arrow, which has to be there.
abbrev pub arrow_line_end : Option ℕ → Construct (Unit {0})
arrow_line_end (Some k) = skip (JumpsTo k)
arrow_line_end None = fails (ExpectedCharRange (lf ∷ space ∷ vertical_bar ∷ space ∷ cr ∷ lf ∷ []))

module _ (t : List ℕ) where
  -- whether `->` is at the place
  abbrev pub has_arrow : ℕ → Bool
  has_arrow i = has_byte t hyphen i && has_byte t greater_than (i + 1)

module _ (edition : Edition) (t : List ℕ) (R : Family) where
  -- `->`, an inline blank, a line end, a blank, and the variants
  abbrev pub variants_of_select : Construct (VariantTrees Span)
  variants_of_select = do
    skip (Steps 2)
    inline_blank t
    peek (after_eol t) arrow_line_end
    blank t
    more_variants edition t R false

  -- From the `->` on: what is no selector is refused there.
  abbrev pub select_with : InlineTree Span → Option Kind → Construct (ExpressionTree Span)
  select_with e (Some fault) = fails fault
  select_with e None = variants_of_select >>= λ vs. yields (select e vs)

  -- Expression: an inline expression and a blank. Where `->` follows it is a select; else it is inline, and no term
  -- reference with attribute.
  abbrev pub expression : Construct (ExpressionTree Span)
  expression = do
    e ← inline_expression t R
    blank t
    arrow ← peek (has_arrow t) yields
    branch_on arrow (select_with e (selector_fault e))
        (branch_on (is_term_attribute e) (fails TermAttributeAsPlaceable) (yields (inline e)))
