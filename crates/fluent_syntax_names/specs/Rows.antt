-- Tables of the messages that entries refer to.
use Rattle.std.specs.Prelude.{◌≡◌, ℕ, List, [], length, map, get_or, Option, Some, None, Vec}
use Rattle.std.specs.Borrow.{Bor}
use Rattle.std.specs.declared.alloc.Global.{Global}
use Rattle.fluent_syntax_names.specs.Growing.{Adds}
use Rattle.fluent_syntax_names.specs.Cycles.{Link}
use Rattle.fluent_syntax_names.specs.MessageReferences.{messages_of, reachable_by}
use Rattle.fluent_syntax_names.specs.NamedLists.{Numbering, Within, IsInjective, numbers_of, lists_of}
use Rattle.fluent_syntax_names.specs.QualifiedNames.{Text}
use Rattle.fluent_syntax_names.specs.declared.message_references.MessageReferences.{MessageReferences}
use Rattle.fluent_syntax_names.specs.declared.named_lists.NamedLists.{NamedLists}

abbrev pub texts_of : List (Vec ℕ Global) → List Text
texts_of names = map (λ name. name.items) names

abbrev pub texts_at : List (Bor (List ℕ)) → List Text
texts_at names = map (λ name. name.now) names

-- for each number the messages that its entry refers to
abbrev pub Rows : Type 0
Rows = List (List Text)

abbrev pub rows_of : NamedLists (Vec ℕ Global) → Rows
rows_of names = map texts_of (lists_of names)

abbrev pub row_at : Rows → Option ℕ → List Text
row_at rows None = []
row_at rows (Some number) = get_or rows number []

-- each name has a row of its own, and the messages that the links say it refers to
pub record HasReferences (all : List Link) (number : Numbering) (rows : Rows) : Type 0 where
  pub within : Within number (length rows)
  pub apart : IsInjective number
  pub has_messages : (x : Text) → row_at rows (number x) ≡ messages_of all x

abbrev pub IsMessageReferences : List Link → MessageReferences → Type 0
IsMessageReferences all message_references =
    HasReferences all (numbers_of message_references.targets) (rows_of message_references.targets)

abbrev pub IsSomeMessageReferences : MessageReferences → Type 0
IsSomeMessageReferences message_references = (all : List Link) × IsMessageReferences all message_references

-- it still reports what it reported, with what `more` puts before other links
abbrev pub AddsReferences : MessageReferences → MessageReferences → (more : List Link → List Link) → Type 0
AddsReferences old new more = (before : List Link) → IsMessageReferences before old
    → (now : List Link) × IsMessageReferences now new × Adds before now more

-- the messages that the table has for the name
abbrev pub row_of : MessageReferences → Text → List Text
row_of message_references name =
    row_at (rows_of message_references.targets) (numbers_of message_references.targets name)

-- those that it leads to by the table
abbrev pub reachable_of : MessageReferences → Text → Option (List Text)
reachable_of message_references name = reachable_by (row_of message_references) name
