-- What opens: a placeable and an argument list. Whatever nests, nests in one of the two.
use Rattle.std.specs.Prelude.{ℕ, List}
use Rattle.fluent_syntax_tree.specs.Tree.{ArgumentsTree, ExpressionTree, MaybeArguments, no_arguments, some_arguments}
use Rattle.fluent_syntax_grammar.specs.Bytes.{left_brace, left_parenthesis, right_brace}
use Rattle.fluent_syntax_grammar.specs.Construct.{Construct, ◌>>=◌, ◌>>◌, yields, branch_on}
use Rattle.fluent_syntax_grammar.specs.Tokens.{optional, token, inline_blank, blank}
use Rattle.fluent_syntax_tree.specs.declared.spans.Span.{Span}

-- What may be inside: in the braces of a placeable an expression, and in the parentheses of an argument list the
-- arguments, with the `)`. Each rule is written over a family R that reads what is inside; the grammar is the family
-- that the rules make of themselves.
pub record Family : Type 1 where
  pub expression : Construct (ExpressionTree Span)
  pub argument_list : Construct (ArgumentsTree Span)

module _ (t : List ℕ) (R : Family) where
  -- Placeable: `{`, a blank, an expression, an inline blank, `}`.
  abbrev pub placeable : Construct (ExpressionTree Span)
  placeable = do
    token t left_brace
    blank t
    e ← R.expression
    inline_blank t
    token t right_brace
    yields e

  -- Arguments: a blank, and where `(` follows, that, a blank, and the list with its `)`. Else there are none, and the
  -- blank stays passed.
  abbrev pub call_arguments : Construct (MaybeArguments Span)
  call_arguments = do
    blank t
    bracket ← optional t left_parenthesis
    branch_on bracket (blank t >> R.argument_list >>= λ a. yields (some_arguments a)) (yields no_arguments)
