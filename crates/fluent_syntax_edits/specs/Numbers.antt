-- Entries by their names.
use Rattle.std.specs.Prelude.{ℕ, Bool, false, Option}
use Rattle.std.specs.List.{position_from}
use Rattle.std.specs.Str.{bytes_eq}
use Rattle.fluent_syntax_tree.specs.Entry.{BodyTree, EntryTree, message, term, comment, junk}
use Rattle.fluent_syntax_grammar.specs.Written.{Text}
use Rattle.fluent_syntax_edits.specs.declared.numbers.EntryName.{EntryName}
use Rattle.fluent_syntax_edits.specs.declared.numbers.EntryName.TheVariants as name

-- whether it is the message or the term of that name
abbrev pub is_named : EntryName → EntryTree Text → Bool
is_named (name.Message it) (message m) = bytes_eq m.id it.now
is_named (name.Message it) (term m) = false
is_named (name.Message it) (comment level lines) = false
is_named (name.Message it) (junk content) = false
is_named (name.Term it) (message m) = false
is_named (name.Term it) (term m) = bytes_eq m.id it.now
is_named (name.Term it) (comment level lines) = false
is_named (name.Term it) (junk content) = false

-- the number of the first one of that name
abbrev pub first_named : EntryName → BodyTree Text → Option ℕ
first_named name body = position_from (is_named name) 0 body
