use Rattle.fluent_syntax_names.proofs.Linking.{LeavesLinkFiles}
use Rattle.fluent_syntax_names.proofs.reference_graph.reference_graph_of.Given as goal

abbrev pub invariant-loop-file : goal.invariant-loop-file
invariant-loop-file l =
    record { left : LeavesLinkFiles l.files l.reference_graph l.file-index l.reference_graph l.file-index }
