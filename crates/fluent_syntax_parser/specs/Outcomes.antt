-- What a reader answers is an outcome of its construct.
use Rattle.std.specs.Prelude.{◌≡◌, ℕ, ◌+◌, ◌-◌, drop, slice_range, List, [], ◌∷◌, Option, Some, None, codes, Result, Ok}
use Rattle.std.specs.Prelude.{Err}
use Rattle.std.specs.Fmt.{decimal}
use Rattle.std.specs.List.{take_while}
use Rattle.fluent_syntax_tree.specs.Kind as kinds
use Rattle.fluent_syntax_tree.specs.Kind.{Kind}
use Rattle.fluent_syntax_tree.specs.declared.spans.Span.{Span}
use Rattle.fluent_syntax_grammar.specs.Bytes.{is_name_byte, lf, cr, space, vertical_bar}
use Rattle.fluent_syntax_grammar.specs.Construct.{Construct, Read, Refused}
use Rattle.fluent_syntax_grammar.specs.Nesting.{TooDeep}
use Rattle.fluent_syntax_grammar.specs.Strings.{after_character}
use Rattle.fluent_syntax_parser.specs.declared.fault.Fault.{Fault}
use Rattle.fluent_syntax_parser.specs.declared.fault.Fault.TheVariants as fault
use Rattle.fluent_syntax_parser.specs.declared.fault.Refusal.{Refusal}
use Rattle.fluent_syntax_parser.specs.declared.fault.ReadFault.{ReadFault}
use Rattle.fluent_syntax_parser.specs.declared.fault.ReadFault.TheVariants as faults

module _ (t : List ℕ) where
  -- the name bytes from a place on
  abbrev pub name_text : ℕ → List ℕ
  name_text i = take_while is_name_byte (drop i t)

  -- the kind of a fault at a place of the text; what it is about begins at another
  abbrev pub kind_at : Fault → (from : ℕ) → ℕ → Kind
  kind_at (fault.Token b) from i = kinds.ExpectedToken b
  kind_at fault.Letter from i = kinds.ExpectedCharRange (codes "a-zA-Z")
  kind_at fault.Digit from i = kinds.ExpectedCharRange (codes "0-9")
  kind_at fault.LineEnd from i = kinds.ExpectedCharRange (lf ∷ space ∷ vertical_bar ∷ space ∷ cr ∷ lf ∷ [])
  kind_at fault.MessageField from i = kinds.ExpectedMessageField (name_text from)
  kind_at fault.TermField from i = kinds.ExpectedTermField (name_text from)
  kind_at fault.Callee from i = kinds.ForbiddenCallee
  kind_at fault.Value from i = kinds.MissingValue
  kind_at fault.NoDefault from i = kinds.MissingDefaultVariant
  kind_at fault.SecondDefault from i = kinds.MultipleDefaultVariants
  kind_at fault.MessageAsSelector from i = kinds.MessageReferenceAsSelector
  kind_at fault.MessageAttributeAsSelector from i = kinds.MessageAttributeAsSelector
  kind_at fault.TermAsSelector from i = kinds.TermReferenceAsSelector
  kind_at fault.PlaceableAsSelector from i = kinds.ExpectedSimpleExpressionAsSelector
  kind_at fault.TermAttribute from i = kinds.TermAttributeAsPlaceable
  kind_at fault.UnterminatedString from i = kinds.UnterminatedStringLiteral
  kind_at fault.PositionalAfterNamed from i = kinds.PositionalArgumentFollowsNamed
  kind_at fault.Duplicated from i = kinds.DuplicatedNamedArgument (name_text from)
  kind_at (fault.UnknownEscape b) from i = kinds.UnknownEscapeSequence (decimal b)
  kind_at fault.UnicodeEscape from i = kinds.InvalidUnicodeEscapeSequence (slice_range t from (after_character t i))
  kind_at fault.UnbalancedBrace from i = kinds.UnbalancedClosingBrace
  kind_at fault.InlineExpression from i = kinds.ExpectedInlineExpression
  kind_at fault.Literal from i = kinds.ExpectedLiteral

-- from where to where a fault at a place is one: one byte, but where a message or a term lacks its field
abbrev pub from_of : Fault → (from : ℕ) → ℕ → ℕ
from_of fault.MessageField from i = from
from_of fault.TermField from i = from - 1
from_of f from i = i

abbrev pub to_of : Fault → ℕ → ℕ
to_of fault.MessageField i = i
to_of fault.TermField i = i
to_of f i = i + 1

-- the refusal is one of that kind, from the one place to the other
abbrev pub Shows : List ℕ → Refusal → Kind → ℕ → ℕ → Type 0
Shows t r k from to =
    (k ≡ kind_at t r.fault r.from r.place) × (from ≡ from_of r.fault r.from r.place) × (to ≡ to_of r.fault r.place)

-- A construct is refused at i as the refusal shows.
abbrev pub IsRefusedAs : {A : Type 0} → List ℕ → Construct A → ℕ → Refusal → Type 0
IsRefusedAs t c i r = (k : Kind) (from to : ℕ) → Shows t r k from to → c i (Refused k from to)

-- What a reader answers that began at i, and takes no memory, is an outcome of the construct at i. `view` is the value
-- that an answer represents.
abbrev pub HasOutcome : {A X : Type 0} → List ℕ → Construct A → (X → A) → ℕ → Result (X × ℕ) Refusal → Type 0
HasOutcome t c view i (Ok x) = c i (Read (view x.0) x.1)
HasOutcome t c view i (Err r) = IsRefusedAs t c i r

-- A construct is refused at i as the fault shows; or it nests too deeply there, and has no outcome. Of memory nothing
-- is said.
pub data Fails {A : Type 0} (t : List ℕ) (c : Construct A) (i : ℕ) : ReadFault → Type 0 where
  refused : {f : Fault} {from place : ℕ} → IsRefusedAs t c i (record { fault = f; from = from; place = place }) →
      Fails t c i (faults.Refused f from place)
  too_deep : TooDeep c i → Fails t c i faults.TooDeep
  no_memory : Fails t c i faults.Memory

-- the same of a reader of what has no value
abbrev pub ParsesEnd : List ℕ → Construct (Unit {0}) → ℕ → Result ℕ Refusal → Type 0
ParsesEnd t c i (Ok j) = c i (Read tt j)
ParsesEnd t c i (Err r) = IsRefusedAs t c i r

-- the same of a reader of a text that begins where it began
abbrev pub ParsesText : List ℕ → Construct Span → ℕ → Result ℕ Refusal → Type 0
ParsesText t c i (Ok j) = c i (Read (record { start = i; end = j }) j)
ParsesText t c i (Err r) = IsRefusedAs t c i r

-- The fault is one of the kind, and lies at its place; or there is none.
abbrev pub FaultIs : List ℕ → ℕ → Option Fault → Option Kind → Type 0
FaultIs t i None kind = kind ≡ None
FaultIs t i (Some f) kind = (kind ≡ Some (kind_at t f i i)) × (from_of f i i ≡ i) × (to_of f i ≡ i + 1)
