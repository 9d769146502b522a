-- The parameters of a message.
use Rattle.std.specs.Prelude.{ℕ, ℤ, List, codes, Option, option_and_then}
use Rattle.serde_json.specs.Data.{Data, Items}
use Rattle.serde_json.specs.Find.{pointer, as_array, as_i64, as_number, as_str}

abbrev pub text_at : (path : List ℕ) → Data → Option (List ℕ)
text_at path d = option_and_then as_str (pointer path d)

-- the name of the document that the message speaks of
abbrev pub uri_in : Data → Option (List ℕ)
uri_in d = text_at (codes "/params/textDocument/uri") d

-- the text of a document that is opened
abbrev pub opened_text_in : Data → Option (List ℕ)
opened_text_in d = text_at (codes "/params/textDocument/text") d

-- the number of the document's version
abbrev pub version_in : Data → Option ℤ
version_in d =
    option_and_then (λ v. option_and_then as_i64 (as_number v)) (pointer (codes "/params/textDocument/version") d)

-- the changes of a document
abbrev pub changes_in : Data → Option Items
changes_in d = option_and_then as_array (pointer (codes "/params/contentChanges") d)

-- the name that is wanted
abbrev pub new_name_in : Data → Option (List ℕ)
new_name_in d = text_at (codes "/params/newName") d
