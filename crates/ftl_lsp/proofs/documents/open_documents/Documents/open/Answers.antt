use Rattle.std.proofs.Common.{List, ℕ, Some, subst, ◌∙◌}
use Rattle.std.specs.Prelude.{string_bytes}
use Rattle.ftl_lsp.specs.OpenDocuments.{Sets, texts_of}
use Rattle.ftl_lsp.proofs.OpenDocumentLemmas.{texts_of_updated_map_are_set}
use Rattle.ftl_lsp.proofs.documents.open_documents.Documents.open.Goals as goal

pub returns : goal.returns
returns c =
    let old = texts_of c.args.self.now.by_name in
    let new = texts_of c.insert.new.self in
    let key = c.in_ok-key.key in
    let v = c.args.version in
    let made =
    texts_of_updated_map_are_set c.args.self.now.by_name c.insert.new.self (string_bytes key) _
    c.in_ok-insert.ensures.updates in
    let named = subst (λ (text : List ℕ). Sets old (string_bytes key) (Some (record { text = text; version = v })) new)
    (c.in_ok-document.ensures ∙ c.in_ok-from_str.ensures.ok) made in
    subst (λ (name : List ℕ). Sets old name (Some (record { text = c.args.text.now; version = v })) new)
    c.in_ok-key.ensures.ok named
