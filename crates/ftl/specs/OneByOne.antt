-- Entries that came to a writer one by one.
use Rattle.std.specs.Prelude.{[], ◌∷◌, ◌++◌}
use Rattle.fluent_syntax_tree.specs.Entry.{BodyTree, EntryTree}
use Rattle.fluent_syntax_grammar.specs.Written.{Text}

module _ {W : Type 0} (writes : W → EntryTree Text → W → Type 0) where
  -- Where the writer was `start`, these entries came to it since; `writes` says what each did.
  pub data WroteEntries (start : W) : BodyTree Text → W → Type 0 where
    wrote_none : WroteEntries start [] start
    one_more : {body : BodyTree Text} {now new : W} {e : EntryTree Text} → WroteEntries start body now
        → writes now e new
        → WroteEntries start (body ++ e ∷ []) new
