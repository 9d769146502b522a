-- What is written of a value, and of a text in it.
use Rattle.std.specs.Prelude.{◌≡◌, ℕ, List, [], ◌∷◌, ◌++◌, Bool, true, take, drop}
use Rattle.json.specs.Print.{escape}
use Rattle.serde_json.specs.Data.{Data}
use Rattle.serde_json.specs.Written.{comma_if, compact_text}
use Rattle.fluent_syntax_tree.specs.Entry.{BodyTree, EntryTree}
use Rattle.fluent_syntax_json.specs.Form.{entry_form}
use Rattle.fluent_syntax_json.specs.Object.{Text}
use Rattle.fluent_syntax_grammar.specs.Writing.{Appends}
use Rattle.fluent_syntax_grammar.specs.declared.text_writer.TextWriter.{TextWriter}

module _ {T W : Type 0} (text : W → List ℕ) (room : W → ℕ) where
  -- The value's text was handed to the writer's sink.
  abbrev pub WritesData : (old new : TextWriter T W) → Data → Type 0
  WritesData old new d = Appends text room old new (compact_text d)

-- an entry's text, after a comma where there is one before it
abbrev pub next_text : Bool → EntryTree Text → Text
next_text later e = comma_if later ++ compact_text (entry_form e)

-- the text of entries in a list
abbrev pub entries_text : Bool → BodyTree Text → Text
entries_text later [] = []
entries_text later (e ∷ es) = next_text later e ++ entries_text true es

-- The bytes before the place represent themselves in a string.
abbrev pub IsPlainBefore : List ℕ → ℕ → Type 0
IsPlainBefore bs end = escape bs ≡ take end bs ++ escape (drop end bs)
