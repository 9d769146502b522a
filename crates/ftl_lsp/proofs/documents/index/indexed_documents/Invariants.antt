use Rattle.std.proofs.Common.{All}
use Rattle.ftl_lsp.specs.Contexts.{IsIndexed}
use Rattle.ftl_lsp.specs.OpenDocuments.{texts_of}
use Rattle.ftl_lsp.proofs.documents.index.indexed_documents.Given as goal

abbrev pub invariant-loop-uri : goal.invariant-loop-uri
invariant-loop-uri l = All (IsIndexed (texts_of l.documents)) l.found.items

abbrev pub invariant-loop-path : goal.invariant-loop-path
invariant-loop-path l = All (IsIndexed (texts_of l.documents)) l.found.items
