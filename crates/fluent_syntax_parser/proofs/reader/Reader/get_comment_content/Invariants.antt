use Rattle.std.proofs.Common.{length, ◌-◌, ◌<◌, ◌≤◌}
use Rattle.fluent_syntax_parser.proofs.entry_forms.CommentEntries.{MadeLines}
use Rattle.fluent_syntax_parser.proofs.reader.Reader.get_comment_content.Given as goal

-- what the lines from here on add, the comment has after what was added so far
abbrev pub invariant-loop-line : goal.invariant-loop-line
invariant-loop-line g l = record {
  forward : l.ptr < l.end;
  within : l.end ≤ length l.self.source.bytes.now;
  lines :
      MadeLines l.self.source.bytes.now l.level (g.M.MakeTexts.source l.self.texts.now) g.M.MakeTexts.made l.ptr
      l.content.items l.end;
}

abbrev pub decreases-loop-line : goal.decreases-loop-line
decreases-loop-line g l = length l.self.source.bytes.now - l.end
