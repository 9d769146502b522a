use Rattle.ftl_lsp.proofs.OpenDocumentLemmas.{texts_of_updated_map_are_set}
use Rattle.ftl_lsp.proofs.documents.open_documents.Documents.close.Goals as goal

pub returns : goal.returns
returns c =
    texts_of_updated_map_are_set c.args.self.now.by_name c.remove.new.self c.args.name.now _ c.remove.ensures.updates
