use Rattle.std.proofs.Common.{◌≡◌, map, take}
use Rattle.std.specs.Prelude.{All}
use Rattle.ftl_files.specs.CommentRules.{IsRead, definition_starts, start_of}
use Rattle.ftl_files.proofs.comment_rules.commented_entries.Given as goal

abbrev pub invariant-loop-mention : goal.invariant-loop-mention
invariant-loop-mention l = record {
  read : All (IsRead l.text) l.entries.items;
  all : map start_of l.entries.items ≡ definition_starts (take l.mention-index l.mention-items);
}
