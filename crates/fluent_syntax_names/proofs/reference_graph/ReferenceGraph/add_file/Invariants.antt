use Rattle.fluent_syntax_names.specs.Cycles.{links_in, no_pattern}
use Rattle.fluent_syntax_names.proofs.Linking.{LeavesLinks}
use Rattle.fluent_syntax_names.proofs.reference_graph.ReferenceGraph.add_file.Given as goal

abbrev pub invariant-loop-mention : goal.invariant-loop-mention
invariant-loop-mention l = record {
  left : LeavesLinks l.text (links_in l.text no_pattern l.mentions) l.fn.self l.self l.mentions l.mention-index
      l.self l.pattern l.mention-index;
}
