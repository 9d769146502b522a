-- What a writer does with marks.
use Rattle.std.specs.Prelude.{◌≡◌, ℕ, ◌+◌, List, [], ◌∷◌, Bool, true, false, if◌then◌else◌, codes}
use Rattle.fluent_syntax_grammar.specs.Written.{Mark, literal, line_end, last_of, text_after}
use Rattle.fluent_syntax_grammar.specs.Sink.{Takes, TakesBeginning}
use Rattle.fluent_syntax_grammar.specs.declared.text_writer.TextWriter.{TextWriter}
use Rattle.fluent_syntax_grammar.specs.declared.literals.Level.{Level, Top, Deeper'}

-- the number of frames
abbrev pub depth : Level → ℕ
depth Top = 0
depth (Deeper' p outer) = depth outer + 1

-- the mark that opens a pattern
abbrev pub opening_marks : ℕ → Bool → List Mark
opening_marks level opens_line = (if opens_line then line_end else literal level (codes " ")) ∷ []

-- the comma and the space before an argument that follows another
abbrev pub separator_marks : ℕ → Bool → List Mark
separator_marks level follows = if follows then literal level (codes ", ") ∷ [] else []

module _ {T W : Type 0} (text : W → List ℕ) (room : W → ℕ) where
  -- What became of bytes that a writer was given: its sink took them and the writer knows the last byte; the sink took
  -- a beginning of them and
  -- refused; or it had refused before, and is as it was.
  pub data Outcome (old new : TextWriter T W) (bs : List ℕ) : Type 0 where
    appended : old.refused ≡ false → new.refused ≡ false → Takes text room old.sink.now new.sink.now bs
        → new.last ≡ last_of old.last bs → Outcome old new bs
    stopped : old.refused ≡ false → new.refused ≡ true → TakesBeginning text room old.sink.now new.sink.now bs
        → Outcome old new bs
    silent : old.refused ≡ true → new.refused ≡ true → new.sink.now ≡ old.sink.now → Outcome old new bs

  -- The bytes were handed to the sink, and the writer keeps it.
  pub record Appends (old new : TextWriter T W) (bs : List ℕ) : Type 0 where
    pub same_sink : new.sink.ghost_name ≡ old.sink.ghost_name
    pub outcome : Outcome old new bs

  -- the same of the text of marks
  pub record Writes (old new : TextWriter T W) (ms : List Mark) : Type 0 where
    pub text_appended : Appends old new (text_after old.last ms)
