-- Trees that are written entry by entry onto a text.
use Rattle.std.specs.Prelude.{◌≡◌, ◌&&◌, [], ◌∷◌, ◌++◌, Bool, String, string_bytes, false}
use Rattle.std.specs.Global.{Global}
use Rattle.fluent_syntax_tree.specs.Entry.{BodyTree, EntryTree}
use Rattle.fluent_syntax_tree.specs.declared.edition.Edition.{Edition}
use Rattle.fluent_syntax_grammar.specs.Canonical.{is_canonical}
use Rattle.fluent_syntax_grammar.specs.Written.{Text}
use Rattle.fluent_syntax_json.specs.BodyWriting as json
use Rattle.fluent_syntax_json.specs.declared.writing.body_writer.BodyWriter.{BodyWriter}
use Rattle.fluent_syntax_writer.specs.EntryWriting as normal
use Rattle.fluent_syntax_writer.specs.declared.serializer.entry_writer.EntryWriter.{EntryWriter}
use Rattle.ftl.specs.declared.writers.NormalWriter.{NormalWriter}

-- The writer was made of that text, and these entries came to it.
abbrev pub WroteNormal : String Global → BodyTree Text → EntryWriter (String Global) → Type 0
WroteNormal start tree writer = normal.HasWritten (λ (s : String Global). string_bytes s) (λ s. 0) start tree writer

-- the same of a writer of JSON
abbrev pub WroteJson : String Global → BodyTree Text → BodyWriter (String Global) → Type 0
WroteJson start tree writer = json.HasWritten (λ (s : String Global). string_bytes s) (λ s. 0) start tree writer

-- The writer was made of an empty text, and the entries of the tree came to it. It knows whether they are canonical,
-- if it asks.
pub record HasNormal (edition : Edition) (asks : Bool) (tree : BodyTree Text) (writer : NormalWriter) : Type 0 where
  pub start : String Global
  pub is_empty : string_bytes start ≡ []
  pub wrote : WroteNormal start tree writer.writer
  pub no_junk : writer.writer.options.with_junk ≡ false
  pub by_edition : writer.edition ≡ edition
  pub canonical : writer.all_canonical ≡ (asks && is_canonical edition tree)

-- the same of a writer of JSON
pub record HasJson (tree : BodyTree Text) (writer : BodyWriter (String Global)) : Type 0 where
  pub start : String Global
  pub is_empty : string_bytes start ≡ []
  pub wrote : WroteJson start tree writer

-- After the entries that had come to the writer, this one came too.
pub record AddsNormal (old : NormalWriter) (e : EntryTree Text) (new : NormalWriter) : Type 0 where
  pub added : {edition : Edition} {asks : Bool} {tree : BodyTree Text} → HasNormal edition asks tree old
      → HasNormal edition asks (tree ++ e ∷ []) new

-- the same of a writer of JSON
pub record AddsJson (old : BodyWriter (String Global)) (e : EntryTree Text) (new : BodyWriter (String Global)) : Type 0
  where
    pub added : {tree : BodyTree Text} → HasJson tree old → HasJson (tree ++ e ∷ []) new
