use Rattle.std.proofs.Common.{◌≤◌, ◌-◌, length}
use Rattle.fluent_syntax_names.specs.MessageReferences.{followed_limit}
use Rattle.fluent_syntax_names.specs.Rows.{reachable_of, row_of, texts_at}
use Rattle.fluent_syntax_names.proofs.ReachableWithin.{FollowedTo}
use Rattle.fluent_syntax_names.proofs.message_references.MessageReferences.reachable_messages.Given as goal

abbrev pub invariant-loop-index : goal.invariant-loop-index
invariant-loop-index l = record {
  few : length l.messages.items ≤ followed_limit;
  within : l.index ≤ length l.messages.items;
  left : FollowedTo (row_of l.self) followed_limit (reachable_of l.self l.name) (texts_at l.messages.items) l.index;
}

abbrev pub decreases-loop-index : goal.decreases-loop-index
decreases-loop-index l = followed_limit - l.index
