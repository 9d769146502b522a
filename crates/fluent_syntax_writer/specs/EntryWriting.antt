-- What became of entries that came to a writer one by one.
use Rattle.std.specs.Prelude.{◌≡◌, ℕ, List, [], ◌∷◌, None, Bool, true, false, not}
use Rattle.fluent_syntax_tree.specs.Entry.{BodyTree}
use Rattle.fluent_syntax_grammar.specs.Written.{Text, is_junk, last_of, written}
use Rattle.fluent_syntax_grammar.specs.Sink.{Takes, TakesBeginning}
use Rattle.fluent_syntax_writer.specs.declared.serializer.entry_writer.EntryWriter.{EntryWriter}

-- whether what comes after these entries follows an entry that is not junk
abbrev pub follows_after : Bool → BodyTree Text → Bool
follows_after follows [] = follows
follows_after follows (e ∷ es) = follows_after (not (is_junk e)) es

module _ {W : Type 0} (text : W → List ℕ) (room : W → ℕ) where
  -- The writer was made of the sink `start`, and these entries came to it. The sink has taken their text, and the
  -- writer knows what the next entry's text depends on; or the sink has taken a beginning of it and refused.
  pub data HasWritten (start : W) (body : BodyTree Text) (now : EntryWriter W) : Type 0 where
    whole : now.refused ≡ false → Takes text room start now.sink (written now.options.with_junk body)
        → now.last ≡ last_of None (written now.options.with_junk body) → now.follows ≡ follows_after false body
        → HasWritten start body now
    beginning : now.refused ≡ true → TakesBeginning text room start now.sink (written now.options.with_junk body)
        → HasWritten start body now
