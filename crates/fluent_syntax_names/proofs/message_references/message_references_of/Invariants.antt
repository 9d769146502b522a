use Rattle.fluent_syntax_names.proofs.MessageReferences.{LeavesReferences}
use Rattle.fluent_syntax_names.proofs.message_references.message_references_of.Given as goal

abbrev pub invariant-loop-mention : goal.invariant-loop-mention
invariant-loop-mention l = record {
  left : LeavesReferences l.text l.message_references l.mentions l.mention-index l.message_references l.owner
      l.mention-index;
}
