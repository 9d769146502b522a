-- Kinds of errors as values, and their names.
use Rattle.std.specs.Prelude.{ℕ, List, codes, string_bytes}
use Rattle.fluent_syntax_tree.specs.declared.errors.ErrorKind.{ErrorKind}
use Rattle.fluent_syntax_tree.specs.declared.errors.ErrorKind.TheVariants as variant

-- why a construct is refused: a kind, with the bytes of its text
pub data Kind : Type 0 where
  ExpectedToken : ℕ → Kind
  ExpectedCharRange : List ℕ → Kind
  ExpectedMessageField ExpectedTermField : List ℕ → Kind
  ForbiddenCallee MissingDefaultVariant MissingValue MultipleDefaultVariants : Kind
  MessageReferenceAsSelector TermReferenceAsSelector MessageAttributeAsSelector : Kind
  TermAttributeAsPlaceable UnterminatedStringLiteral PositionalArgumentFollowsNamed : Kind
  DuplicatedNamedArgument UnknownEscapeSequence InvalidUnicodeEscapeSequence : List ℕ → Kind
  UnbalancedClosingBrace ExpectedInlineExpression ExpectedSimpleExpressionAsSelector ExpectedLiteral : Kind

-- the kind that an error's kind is, by the bytes of its text
abbrev pub kind_of : ErrorKind → Kind
kind_of (variant.ExpectedToken x) = ExpectedToken x
kind_of (variant.ExpectedCharRange x) = ExpectedCharRange (string_bytes x)
kind_of (variant.ExpectedMessageField x) = ExpectedMessageField (string_bytes x)
kind_of (variant.ExpectedTermField x) = ExpectedTermField (string_bytes x)
kind_of variant.ForbiddenCallee = ForbiddenCallee
kind_of variant.MissingDefaultVariant = MissingDefaultVariant
kind_of variant.MissingValue = MissingValue
kind_of variant.MultipleDefaultVariants = MultipleDefaultVariants
kind_of variant.MessageReferenceAsSelector = MessageReferenceAsSelector
kind_of variant.TermReferenceAsSelector = TermReferenceAsSelector
kind_of variant.MessageAttributeAsSelector = MessageAttributeAsSelector
kind_of variant.TermAttributeAsPlaceable = TermAttributeAsPlaceable
kind_of variant.UnterminatedStringLiteral = UnterminatedStringLiteral
kind_of variant.PositionalArgumentFollowsNamed = PositionalArgumentFollowsNamed
kind_of (variant.DuplicatedNamedArgument x) = DuplicatedNamedArgument (string_bytes x)
kind_of (variant.UnknownEscapeSequence x) = UnknownEscapeSequence (string_bytes x)
kind_of (variant.InvalidUnicodeEscapeSequence x) = InvalidUnicodeEscapeSequence (string_bytes x)
kind_of variant.UnbalancedClosingBrace = UnbalancedClosingBrace
kind_of variant.ExpectedInlineExpression = ExpectedInlineExpression
kind_of variant.ExpectedSimpleExpressionAsSelector = ExpectedSimpleExpressionAsSelector
kind_of variant.ExpectedLiteral = ExpectedLiteral

-- the name of the variant
abbrev pub kind_name : Kind → List ℕ
kind_name (ExpectedToken x) = codes "ExpectedToken"
kind_name (ExpectedCharRange x) = codes "ExpectedCharRange"
kind_name (ExpectedMessageField x) = codes "ExpectedMessageField"
kind_name (ExpectedTermField x) = codes "ExpectedTermField"
kind_name ForbiddenCallee = codes "ForbiddenCallee"
kind_name MissingDefaultVariant = codes "MissingDefaultVariant"
kind_name MissingValue = codes "MissingValue"
kind_name MultipleDefaultVariants = codes "MultipleDefaultVariants"
kind_name MessageReferenceAsSelector = codes "MessageReferenceAsSelector"
kind_name TermReferenceAsSelector = codes "TermReferenceAsSelector"
kind_name MessageAttributeAsSelector = codes "MessageAttributeAsSelector"
kind_name TermAttributeAsPlaceable = codes "TermAttributeAsPlaceable"
kind_name UnterminatedStringLiteral = codes "UnterminatedStringLiteral"
kind_name PositionalArgumentFollowsNamed = codes "PositionalArgumentFollowsNamed"
kind_name (DuplicatedNamedArgument x) = codes "DuplicatedNamedArgument"
kind_name (UnknownEscapeSequence x) = codes "UnknownEscapeSequence"
kind_name (InvalidUnicodeEscapeSequence x) = codes "InvalidUnicodeEscapeSequence"
kind_name UnbalancedClosingBrace = codes "UnbalancedClosingBrace"
kind_name ExpectedInlineExpression = codes "ExpectedInlineExpression"
kind_name ExpectedSimpleExpressionAsSelector = codes "ExpectedSimpleExpressionAsSelector"
kind_name ExpectedLiteral = codes "ExpectedLiteral"
