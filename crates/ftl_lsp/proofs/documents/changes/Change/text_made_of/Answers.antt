use Rattle.std.proofs.lemmas.Result.{IfOk-weaker}
use Rattle.ftl_lsp.specs.Changes.{makes_whole, makes_between}
use Rattle.ftl_lsp.proofs.documents.changes.Change.text_made_of.Goals as goal

pub returns-in-Whole : goal.returns-in-Whole
returns-in-Whole c =
    rw c.in-Whole.is (IfOk-weaker c.from_str.result _ _ (λ made is. makes_whole _ _ is) c.from_str.ensures.ok)

pub returns-in-Between : goal.returns-in-Between
returns-in-Between c =
    rw c.in-Between.is
    (IfOk-weaker c.text_after_range.result _ _ (λ made is. makes_between _ _ _ _ is) c.text_after_range.ensures)
