-- How far a text is read, and how deeply it nests where reading it stops.
use Rattle.std.specs.Prelude.{◌≡◌, ℕ, ◌-◌, ◌<◌, ◌≤◌, List, length, Option, Some, None, Result, Ok, Err, IfErr, IfOk}
use Rattle.std.specs.Prelude.{IfSome}
use Rattle.fluent_syntax_tree.specs.declared.spans.Span.{Span}
use Rattle.fluent_syntax_grammar.specs.Nesting.{TextDeeper}
use Rattle.fluent_syntax_grammar.specs.Places.{BlankBlock}
use Rattle.fluent_syntax_parser.specs.Rest.{TileIn}
use Rattle.fluent_syntax_parser.specs.declared.entries.Entries.{Entries}
use Rattle.fluent_syntax_parser.specs.declared.options.Halt.{Halt}
use Rattle.fluent_syntax_parser.specs.declared.options.Halt.TheVariants.{TooDeep}
use Rattle.fluent_syntax_parser.specs.declared.options.Options.{Options}

-- From the place on the text nests deeper than the options allow.
abbrev pub DeeperFrom : Options → List ℕ → ℕ → Type 0
DeeperFrom options t i = TextDeeper options.edition t (TileIn options.comments options.edition t) options.nesting i

-- It nests too deeply only where more bytes are left than it may nest.
abbrev pub HaltsWithin : (nesting left : ℕ) → Halt → Type 0
HaltsWithin nesting left halt = halt ≡ TooDeep → nesting < left

-- Where nothing comes next from the place on, it nests no deeper there; and where something does, as deeply as after
-- that.
abbrev pub ComesNext : (deeper : ℕ → Type 0) → ℕ → Option Span → Type 0
ComesNext deeper i None = deeper i → ⊥
ComesNext deeper i (Some span) = (deeper i → deeper span.end) × (deeper span.end → deeper i)

-- The same of what is read from the one place to the other.
abbrev pub ComesTo : {X : Type 0} → (deeper : ℕ → Type 0) → (i j : ℕ) → Option X → Type 0
ComesTo deeper i j None = deeper i → ⊥
ComesTo deeper i j (Some read) = (deeper i → deeper j) × (deeper j → deeper i)

-- Where it nests too deeply, this holds.
abbrev pub OnHalt : Type 0 → Halt → Type 0
OnHalt deeper halt = halt ≡ TooDeep → deeper

-- Where nothing was read, that from which it is read is as it was.
abbrev pub StaysUnread : {A X : Type 0} → (old new : X) → Result (Option A) Halt → Type 0
StaysUnread old new (Ok (Some read)) = Unit {0}
StaysUnread old new (Ok None) = new ≡ old
StaysUnread old new (Err halt) = new ≡ old

-- The next entry was read, whatever was given of it.
pub record ReadsEntry {A : Type 0} (old new : Entries) (result : Result (Option A) Halt) : Type 0 where
  pub text : new.source ≡ old.source
  pub options : new.options ≡ old.options
  pub stays : StaysUnread old new result
  pub forward : old.ptr ≤ new.ptr
  pub onward : IfOk result (λ found. IfSome found (λ read. old.ptr < new.ptr))
  pub blank : BlankBlock old.source.bytes.now old.ptr (length old.source.bytes.now) → result ≡ Ok None
  pub nests : IfErr result (HaltsWithin old.options.nesting (length old.source.bytes.now - old.ptr))
  pub deeper : IfErr result (OnHalt (DeeperFrom old.options old.source.bytes.now old.ptr))
  pub shallow : IfOk result (ComesTo (DeeperFrom old.options old.source.bytes.now) old.ptr new.ptr)
