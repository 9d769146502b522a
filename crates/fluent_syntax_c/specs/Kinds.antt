-- The numbers of the kinds of errors.
use Rattle.std.specs.Prelude.{◌≢◌, ℕ}
use Rattle.fluent_syntax_tree.specs.Kind.{Kind, ExpectedToken, ExpectedCharRange, ExpectedMessageField}
use Rattle.fluent_syntax_tree.specs.Kind.{ExpectedTermField, ForbiddenCallee, MissingDefaultVariant, MissingValue}
use Rattle.fluent_syntax_tree.specs.Kind.{MultipleDefaultVariants, MessageReferenceAsSelector, TermReferenceAsSelector}
use Rattle.fluent_syntax_tree.specs.Kind.{MessageAttributeAsSelector, TermAttributeAsPlaceable}
use Rattle.fluent_syntax_tree.specs.Kind.{UnterminatedStringLiteral, PositionalArgumentFollowsNamed}
use Rattle.fluent_syntax_tree.specs.Kind.{DuplicatedNamedArgument, UnknownEscapeSequence, InvalidUnicodeEscapeSequence}
use Rattle.fluent_syntax_tree.specs.Kind.{UnbalancedClosingBrace, ExpectedInlineExpression}
use Rattle.fluent_syntax_tree.specs.Kind.{ExpectedSimpleExpressionAsSelector, ExpectedLiteral}

abbrev pub kind_number : Kind → ℕ
kind_number (ExpectedToken x) = 1
kind_number (ExpectedCharRange x) = 2
kind_number (ExpectedMessageField x) = 3
kind_number (ExpectedTermField x) = 4
kind_number ForbiddenCallee = 5
kind_number MissingDefaultVariant = 6
kind_number MissingValue = 7
kind_number MultipleDefaultVariants = 8
kind_number MessageReferenceAsSelector = 9
kind_number TermReferenceAsSelector = 10
kind_number MessageAttributeAsSelector = 11
kind_number TermAttributeAsPlaceable = 12
kind_number UnterminatedStringLiteral = 13
kind_number PositionalArgumentFollowsNamed = 14
kind_number (DuplicatedNamedArgument x) = 15
kind_number (UnknownEscapeSequence x) = 16
kind_number (InvalidUnicodeEscapeSequence x) = 17
kind_number UnbalancedClosingBrace = 18
kind_number ExpectedInlineExpression = 19
kind_number ExpectedSimpleExpressionAsSelector = 20
kind_number ExpectedLiteral = 21

-- No kind has the number.
abbrev pub IsNoKind : ℕ → Type 0
IsNoKind number = (kind : Kind) → kind_number kind ≢ number
