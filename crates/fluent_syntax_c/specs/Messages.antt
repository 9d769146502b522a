-- What is said of errors.
use Rattle.std.specs.Prelude.{◌≡◌, ◌++◌, ◌==◌, ◌∷◌, [], ℕ, List, codes, cond, encode_utf8}
use Rattle.std.specs.List.{flat_map}
use Rattle.fluent_syntax_tree.specs.Kind.{Kind, kind_name, ExpectedToken, ExpectedCharRange, ExpectedMessageField}
use Rattle.fluent_syntax_tree.specs.Kind.{ExpectedTermField, ForbiddenCallee, MissingDefaultVariant, MissingValue}
use Rattle.fluent_syntax_tree.specs.Kind.{MultipleDefaultVariants, MessageReferenceAsSelector, TermReferenceAsSelector}
use Rattle.fluent_syntax_tree.specs.Kind.{MessageAttributeAsSelector, TermAttributeAsPlaceable}
use Rattle.fluent_syntax_tree.specs.Kind.{UnterminatedStringLiteral, PositionalArgumentFollowsNamed}
use Rattle.fluent_syntax_tree.specs.Kind.{DuplicatedNamedArgument, UnknownEscapeSequence, InvalidUnicodeEscapeSequence}
use Rattle.fluent_syntax_tree.specs.Kind.{UnbalancedClosingBrace, ExpectedInlineExpression}
use Rattle.fluent_syntax_tree.specs.Kind.{ExpectedSimpleExpressionAsSelector, ExpectedLiteral}
use Rattle.fluent_syntax_tree.specs.declared.edition.Edition.{Edition}
use Rattle.fluent_syntax_grammar.specs.Body.{faults}
use Rattle.fluent_syntax_grammar.specs.Tiling.{Tile}
use Rattle.ftl.specs.declared.outcome.Outcome.{Outcome}
use Rattle.ftl.specs.declared.outcome.Outcome.TheVariants.{Clean}
use Rattle.fluent_syntax_c.specs.Kinds.{kind_number}

-- a byte of what is reported, with two for a line end
abbrev pub shown_byte : ℕ → List ℕ
shown_byte b = cond (b == 10) (codes "\\n") (cond (b == 13) (codes "\\r") (b ∷ []))

-- what is reported, on one line
abbrev pub shown : List ℕ → List ℕ
shown text = flat_map shown_byte text

-- the message of an error of the kind
abbrev pub kind_message : Kind → List ℕ
kind_message (ExpectedToken token) =
    codes "Expected a token starting with \"" ++ shown (encode_utf8 token) ++ codes "\""
kind_message (ExpectedCharRange text) = codes "Expected one of \"" ++ shown text ++ codes "\""
kind_message (ExpectedMessageField text) = codes "Expected a message field for \"" ++ shown text ++ codes "\""
kind_message (ExpectedTermField text) = codes "Expected a term field for \"" ++ shown text ++ codes "\""
kind_message ForbiddenCallee = codes "Callee is not allowed here"
kind_message MissingDefaultVariant = codes "The select expression must have a default variant"
kind_message MissingValue = codes "Expected a value"
kind_message MultipleDefaultVariants = codes "A select expression can only have one default variant"
kind_message MessageReferenceAsSelector = codes "Message references can't be used as a selector"
kind_message TermReferenceAsSelector = codes "Term references can't be used as a selector"
kind_message MessageAttributeAsSelector = codes "Message attributes can't be used as a selector"
kind_message TermAttributeAsPlaceable = codes "Term attributes can't be used as a selector"
kind_message UnterminatedStringLiteral = codes "Unterminated string literal"
kind_message PositionalArgumentFollowsNamed = codes "Positional arguments must come before named arguments"
kind_message (DuplicatedNamedArgument text) = codes "The \"" ++ shown text ++ codes "\" argument appears twice"
kind_message (UnknownEscapeSequence text) = codes "Unknown escape sequence"
kind_message (InvalidUnicodeEscapeSequence text) =
    codes "Invalid unicode escape sequence, \"" ++ shown text ++ codes "\""
kind_message UnbalancedClosingBrace = codes "Unbalanced closing brace"
kind_message ExpectedInlineExpression = codes "Expected an inline expression"
kind_message ExpectedSimpleExpressionAsSelector = codes "Expected a simple expression as selector"
kind_message ExpectedLiteral = codes "Expected a string or number literal"

-- the message on a line of its own
abbrev pub message_line : Kind → List ℕ
message_line kind = kind_message kind ++ codes "\n"

-- The bytes are the name of a kind of the number; there is nothing that could have errors.
abbrev pub IsKindName : (number : ℕ) (name : List ℕ) (outcome : Outcome) → Type 0
IsKindName number name outcome =
    (kind : Kind) × (kind_number kind ≡ number) × (name ≡ kind_name kind) × (outcome ≡ Clean)

-- The lines are those of the errors of the tiles, in order.
abbrev pub are_messages : Edition → List ℕ → List Tile → List ℕ → Type 0
are_messages edition t tiles lines = lines ≡ flat_map (λ f. message_line f.kind) (faults tiles)
