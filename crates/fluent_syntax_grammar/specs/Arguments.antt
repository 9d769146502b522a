-- Argument lists.
use Rattle.std.specs.Prelude.{ℕ, List, [], ◌∷◌, slice_get, Option, Some, None, Bool, true, false, ◌==◌, nat_eq}
use Rattle.std.specs.List.{list_any}
use lib.Pointwise.{pointwise}
use Rattle.fluent_syntax_grammar.specs.Bytes.{colon, comma, right_parenthesis}
use Rattle.fluent_syntax_grammar.specs.Places.{has_byte}
use Rattle.fluent_syntax_tree.specs.Spans.{bytes_at}
use Rattle.fluent_syntax_tree.specs.Tree.{InlineTree, message_reference, ArgumentsTree, arguments, no_inlines, inlines}
use Rattle.fluent_syntax_tree.specs.Tree.{no_named, nameds, named_argument}
use Rattle.fluent_syntax_tree.specs.Kind.{ExpectedToken, PositionalArgumentFollowsNamed, DuplicatedNamedArgument}
use Rattle.fluent_syntax_tree.specs.Kind.{ExpectedLiteral}
pub use Rattle.fluent_syntax_grammar.specs.Family.{call_arguments}
pub use Rattle.fluent_syntax_grammar.specs.Inline.{accessor}
use Rattle.fluent_syntax_grammar.specs.Construct.{Construct, ◌>>=◌, ◌>>◌, yields, fails, peek, branch_on, More, no_item}
use Rattle.fluent_syntax_grammar.specs.Construct.{item, many}
use Rattle.fluent_syntax_grammar.specs.Tokens.{optional, token, blank}
use Rattle.fluent_syntax_grammar.specs.Starts.{Start, quote, digit, letter, start}
use Rattle.fluent_syntax_grammar.specs.Family.{Family}
use Rattle.fluent_syntax_grammar.specs.Inline.{inline_expression}
use Rattle.fluent_syntax_tree.specs.declared.spans.Span.{Span}

-- the list with one more positional argument before it
abbrev pub add_positional : InlineTree Span → ArgumentsTree Span → ArgumentsTree Span
add_positional e (arguments ps ns) = arguments (inlines e ps) ns

-- the list with one more named argument before its named ones
abbrev pub add_named : Span → InlineTree Span → ArgumentsTree Span → ArgumentsTree Span
add_named name e (arguments ps ns) = arguments ps (nameds (named_argument name e) ns)

-- an argument of a list
pub data Argument : Type 0 where
  positional : InlineTree Span → Argument
  named : Span → InlineTree Span → Argument

-- the list with one more argument before it
abbrev pub add_argument : Argument → ArgumentsTree Span → ArgumentsTree Span
add_argument (positional e) a = add_positional e a
add_argument (named name e) a = add_named name e a

-- the name of an argument that is a message reference without attribute
abbrev pub argument_name : InlineTree Span → Option Span
argument_name (message_reference id None) = Some id
argument_name _ = None

-- whether the name is among the names
abbrev pub is_used : List ℕ → List (List ℕ) → Bool
is_used name names = list_any (pointwise nat_eq name) names

module _ (t : List ℕ) where
  -- between two arguments: a blank, an optional `,`, a blank
  abbrev pub separator : Construct (Unit {0})
  separator = do
    blank t
    optional t comma
    blank t

  -- From the end of a positional argument on: after a named one it is refused.
  abbrev pub positional_rest : List (List ℕ) → InlineTree Span → Construct (More Argument (List (List ℕ)))
  positional_rest [] e = separator >> yields (item (positional e) [])
  positional_rest (name ∷ names) e = fails PositionalArgumentFollowsNamed

module _ (t : List ℕ) (R : Family) where
  -- The value of a named argument, by its start: a string, a number without `-`, a function or a message reference. No
  -- other start is taken.
  abbrev pub argument_value : Start → Construct (InlineTree Span)
  argument_value quote = inline_expression t R
  argument_value digit = inline_expression t R
  argument_value letter = inline_expression t R
  argument_value _ = fails ExpectedLiteral

  -- From the `:` of a named argument on: a name that was used is refused there. Else `:`, a blank and the value; and
  -- what is between it and the next argument.
  abbrev pub named_rest : List (List ℕ) → Span → Construct (More Argument (List (List ℕ)))
  named_rest names name =
      branch_on (is_used (bytes_at t name) names) (fails (DuplicatedNamedArgument (bytes_at t name))) (do
        token t colon
        blank t
        e ← peek (start t) argument_value
        separator t
        yields (item (named name e) (bytes_at t name ∷ names)))

  -- From the end of an argument's expression on: a message reference without attribute that `:` follows is the name of
  -- a named argument.
  abbrev pub argument_rest : List (List ℕ) → InlineTree Span → (name : Option Span) → (is_named : Bool) →
      Construct (More Argument (List (List ℕ)))
  argument_rest names e (Some name) true = named_rest names name
  argument_rest names e (Some name) false = positional_rest t names e
  argument_rest names e None is_named = positional_rest t names e

  -- the next argument, after named ones of these names, by the byte there: `)` ends the list
  abbrev pub next_argument_at : List (List ℕ) → Option ℕ → Construct (More Argument (List (List ℕ)))
  next_argument_at names None = fails (ExpectedToken right_parenthesis)
  next_argument_at names (Some b) =
      branch_on (b == right_parenthesis) (token t right_parenthesis >> yields no_item) (do
        e ← inline_expression t R
        is_named ← peek (has_byte t colon) yields
        argument_rest names e (argument_name e) is_named)

  -- the next argument of a list, if it has one more
  abbrev pub next_argument : List (List ℕ) → Construct (More Argument (List (List ℕ)))
  next_argument names = peek (slice_get t) (next_argument_at names)

  -- the rest of an argument list, after named arguments of these names
  abbrev pub more_arguments : List (List ℕ) → Construct (ArgumentsTree Span)
  more_arguments = many next_argument add_argument (arguments no_inlines no_named)
