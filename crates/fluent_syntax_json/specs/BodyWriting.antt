-- What became of entries that came to a writer one by one.
use Rattle.std.specs.Prelude.{◌≡◌, ℕ, List, [], ◌∷◌, ◌++◌, Bool, true, false, codes}
use Rattle.fluent_syntax_tree.specs.Entry.{BodyTree}
use Rattle.fluent_syntax_grammar.specs.Sink.{Takes, TakesBeginning}
use Rattle.fluent_syntax_json.specs.Object.{Text}
use Rattle.fluent_syntax_json.specs.Writing.{entries_text}
use Rattle.fluent_syntax_json.specs.declared.writing.body_writer.BodyWriter.{BodyWriter}

-- the text of a tree with these entries, but for the two brackets that close it
abbrev pub unclosed_text : BodyTree Text → Text
unclosed_text body = codes "{\"body\":[" ++ entries_text false body

-- whether what comes after these entries comes after one
abbrev pub later_after : Bool → BodyTree Text → Bool
later_after later [] = later
later_after later (e ∷ es) = later_after true es

module _ {W : Type 0} (text : W → List ℕ) (room : W → ℕ) where
  -- The writer was made of the sink `start`, and these entries came to it. The sink has taken their text, to which the
  -- brackets that close it are to come, and the writer knows whether an entry came; or the sink has taken a beginning
  -- of that text and refused.
  pub data HasWritten (start : W) (body : BodyTree Text) (now : BodyWriter W) : Type 0 where
    whole : now.refused ≡ false → Takes text room start now.sink (unclosed_text body) →
        now.later ≡ later_after false body
        → HasWritten start body now
    beginning : now.refused ≡ true → TakesBeginning text room start now.sink (unclosed_text body)
        → HasWritten start body now
