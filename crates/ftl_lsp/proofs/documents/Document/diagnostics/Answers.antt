use Rattle.ftl_lsp.proofs.documents.Document.diagnostics.Goals as goal

pub returns : goal.returns
returns c = rw c.as_slice.ensures.value c.args.self.now.diagnosed
