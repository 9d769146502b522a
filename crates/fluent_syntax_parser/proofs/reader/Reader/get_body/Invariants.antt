use Rattle.std.proofs.Common.{◌≡◌, ◌-◌, ◌≤◌, [], length}
use Rattle.fluent_syntax_grammar.specs.Nesting.{TextDeeper}
use Rattle.fluent_syntax_grammar.specs.Places.{BlankBlock}
use Rattle.fluent_syntax_parser.specs.Rest.{TileIn}
use Rattle.fluent_syntax_parser.proofs.entry_forms.MadeEntries.{MadeTo}
use Rattle.fluent_syntax_parser.proofs.reader.Reader.get_body.Given as goal

-- Whatever the rest is, the text has it after what was read. In a text that is one blank block nothing is read.
abbrev pub invariant-loop-errors : goal.invariant-loop-errors
invariant-loop-errors g l = record {
  within : l.ptr ≤ length l.self.source.bytes.now;
  read :
      MadeTo (g.M.MakeTexts.source l.self.texts.now) g.M.MakeTexts.made l.comments l.self.edition
      l.self.source.bytes.now l.ptr l.body.items l.errors.items;
  deeper : TextDeeper l.self.edition l.self.source.bytes.now
      (TileIn l.comments l.self.edition l.self.source.bytes.now) l.nesting l.ptr →
      TextDeeper l.self.edition l.self.source.bytes.now (TileIn l.comments l.self.edition l.self.source.bytes.now)
      l.nesting 0;
  shallow : TextDeeper l.self.edition l.self.source.bytes.now
      (TileIn l.comments l.self.edition l.self.source.bytes.now) l.nesting 0 →
      TextDeeper l.self.edition l.self.source.bytes.now (TileIn l.comments l.self.edition l.self.source.bytes.now)
      l.nesting l.ptr;
  blank : BlankBlock l.self.source.bytes.now 0 (length l.self.source.bytes.now) → (l.ptr ≡ 0) × (l.errors.items ≡ []);
}

abbrev pub decreases-loop-errors : goal.decreases-loop-errors
decreases-loop-errors g l = length l.self.source.bytes.now - l.ptr
