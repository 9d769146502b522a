use Rattle.std.proofs.Common.{All}
use Rattle.ftl_lsp.specs.Occurrences.{IsCut, shown_of}
use Rattle.ftl_lsp.proofs.documents.index.IndexedDocument.ranges_of.Given as goal

abbrev pub invariant-loop-occurrence : goal.invariant-loop-occurrence
invariant-loop-occurrence l = All (λ span. IsCut l.self.text.now span (shown_of l.name)) l.found.items
