-- Inline expressions.
use Rattle.std.specs.Prelude.{ℕ, List, Option, Some, None, Bool, ◌||◌, ◌==◌}
use Rattle.std.specs.List.{list_all}
use Rattle.fluent_syntax_grammar.specs.Bytes.{dollar_sign, full_stop, hyphen, underscore, is_capital, is_digit}
use Rattle.fluent_syntax_tree.specs.Spans.{bytes_at}
use Rattle.fluent_syntax_tree.specs.Tree.{InlineTree, string_literal, number_literal, function_reference}
use Rattle.fluent_syntax_tree.specs.Tree.{message_reference, term_reference, variable_reference, inline_placeable}
use Rattle.fluent_syntax_tree.specs.Tree.{MaybeArguments, no_arguments, some_arguments}
use Rattle.fluent_syntax_tree.specs.Kind.{ForbiddenCallee, ExpectedInlineExpression}
use Rattle.fluent_syntax_grammar.specs.Construct.{Construct, ◌>>=◌, ◌>>◌, yields, fails, peek, branch_on}
use Rattle.fluent_syntax_grammar.specs.Tokens.{optional, token, identifier, number}
use Rattle.fluent_syntax_grammar.specs.Strings as strings
use Rattle.fluent_syntax_grammar.specs.Starts.{Start, quote, digit, term, minus, dollar, letter, brace, other, start}
use Rattle.fluent_syntax_grammar.specs.Family.{Family, call_arguments, placeable}
use Rattle.fluent_syntax_tree.specs.declared.spans.Span.{Span}

-- `A` to `Z`, digits, `_` and `-`
abbrev pub is_callee_byte : ℕ → Bool
is_callee_byte b = is_capital b || is_digit b || b == underscore || b == hyphen

module _ (t : List ℕ) where
  -- where `.` follows at once, that and the name of an attribute
  abbrev pub accessor : Construct (Option Span)
  accessor = do
    dot ← optional t full_stop
    branch_on dot (identifier t >>= λ a. yields (Some a)) (yields None)

-- After a name and its arguments: with arguments a function reference, whose name holds only callee bytes; without them
-- a message reference, which has an attribute where `.` follows.
abbrev pub named_reference : List ℕ → Span → MaybeArguments Span → Construct (InlineTree Span)
named_reference t id (some_arguments a) =
    branch_on (list_all is_callee_byte (bytes_at t id)) (yields (function_reference id a)) (fails ForbiddenCallee)
named_reference t id no_arguments = accessor t >>= λ a. yields (message_reference id a)

module _ (t : List ℕ) (R : Family) where
  -- an inline expression by its start
  abbrev pub inline_of : Start → Construct (InlineTree Span)
  inline_of quote = strings.string_literal t >>= λ v. yields (string_literal v)
  inline_of digit = number t >>= λ v. yields (number_literal v)
  inline_of minus = number t >>= λ v. yields (number_literal v)
  inline_of term = do
    token t hyphen
    id ← identifier t
    attribute ← accessor t
    a ← call_arguments t R
    yields (term_reference id attribute a)
  inline_of dollar = do
    token t dollar_sign
    id ← identifier t
    yields (variable_reference id)
  inline_of letter = do
    id ← identifier t
    a ← call_arguments t R
    named_reference t id a
  inline_of brace = placeable t R >>= λ e. yields (inline_placeable e)
  inline_of other = fails ExpectedInlineExpression

  -- Inline expression: what is at the place decides its form.
  abbrev pub inline_expression : Construct (InlineTree Span)
  inline_expression = peek (start t) inline_of
