use Rattle.std.proofs.Common.{ap, sym, rules}
use Rattle.std.specs.Prelude.{option_map}
use Rattle.ftl_lsp.specs.OpenDocuments.{open_text}
use Rattle.ftl_lsp.proofs.OpenDocumentLemmas.{texts_of_updated_map_are_set}
use Rattle.ftl_lsp.proofs.documents.open_documents.Documents.change.Goals as goal

pub returns-in_ok-change-in-Some : goal.returns-in_ok-change-in-Some
returns-in_ok-change-in-Some c =
    let new = c.change.new.self in (
      open_text c.in-Some.open.now,
      open_text new,
      ap (option_map open_text) (sym c.in-Some.ensures.value),
      c.in_ok-change-in-Some.ensures,
      texts_of_updated_map_are_set c.args.self.now.by_name (c.get_mut.follows.lender new) c.args.name.now _
          ((c.get_mut.follows.holds new).3 (search rules)),
    )
