-- The grammar of what nests: the family that its own rules make.
use Rattle.std.specs.Prelude.{ℕ, zero, suc, List, [], Bool, false, Option}
use Rattle.fluent_syntax_grammar.specs.Construct.{Construct}
use Rattle.fluent_syntax_grammar.specs.Family.{Family}
use Rattle.fluent_syntax_grammar.specs.Arguments as arguments
use Rattle.fluent_syntax_grammar.specs.Expressions as expressions
use Rattle.fluent_syntax_grammar.specs.Inline as inline
use Rattle.fluent_syntax_grammar.specs.Lines as lines
use Rattle.fluent_syntax_grammar.specs.Patterns as patterns
use Rattle.fluent_syntax_grammar.specs.Variants as variants
use Rattle.fluent_syntax_grammar.specs.Layout.{Piece, Line, Layout}
use Rattle.fluent_syntax_tree.specs.Tree.{ArgumentsTree, ExpressionTree, InlineTree, MaybeArguments, PatternTree}
use Rattle.fluent_syntax_tree.specs.Tree.{VariantTrees}
use Rattle.fluent_syntax_tree.specs.declared.edition.Edition.{Edition}
use Rattle.fluent_syntax_tree.specs.declared.spans.Span.{Span}

module _ (edition : Edition) (t : List ℕ) where
  -- the rules over a family
  abbrev pub next : Family → Family
  next R = record { expression = expressions.expression edition t R; argument_list = arguments.more_arguments t R [] }

  -- What is inside, where at most n placeables and argument lists are open at once inside it. What opens one more
  -- has no outcome: so a construct over this family has none where it nests deeper than n.
  unfoldable pub within : ℕ → Family
  within zero = record { expression = λ i o. ⊥; argument_list = λ i o. ⊥ }
  within (suc n) = next (within n)

  -- What is inside, at any depth. There is no limit: each text that is read or refused is so within some number.
  unfoldable pub family : Family
  family = record {
    expression = λ i o. (n : ℕ) × (within n).expression i o;
    argument_list = λ i o. (n : ℕ) × (within n).argument_list i o;
  }

  -- an inline expression, with what nests in it to any depth; and so on for the others
  abbrev pub inline_expression : Construct (InlineTree Span)
  inline_expression = inline.inline_expression t family

  -- the arguments of a reference
  abbrev pub call_arguments : Construct (MaybeArguments Span)
  call_arguments = arguments.call_arguments t family

  -- the rest of an argument list, after named arguments of these names
  abbrev pub more_arguments : List (List ℕ) → Construct (ArgumentsTree Span)
  more_arguments names = arguments.more_arguments t family names

  -- an expression in a placeable
  abbrev pub expression : Construct (ExpressionTree Span)
  expression = expressions.expression edition t family

  -- a placeable
  abbrev pub placeable : Construct (ExpressionTree Span)
  placeable = expressions.placeable t family

  -- the rest of a list of variants; the flag says whether there was a default before
  abbrev pub more_variants : (starred : Bool) → Construct (VariantTrees Span)
  more_variants starred = variants.more_variants edition t family starred

  -- the variants of a select
  abbrev pub variant_list : Construct (VariantTrees Span)
  variant_list = variants.more_variants edition t family false

  -- the rest of a line of a pattern, up to its ending
  abbrev pub more_pieces : Construct (List Piece)
  more_pieces = lines.more_pieces t family

  -- a line of a pattern
  abbrev pub line : Construct Line
  line = lines.line t family

  -- the lines that belong to a pattern, from a line's start on
  abbrev pub more_lines : Construct (List Line)
  more_lines = lines.more_lines t family

  -- the layout of a pattern
  abbrev pub layout : Construct Layout
  layout = patterns.layout t family

  -- a pattern
  abbrev pub pattern : Construct (Option (PatternTree Span))
  pattern = patterns.pattern edition t family
