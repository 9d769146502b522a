use Rattle.std.proofs.Common.{List, [], ℕ, subst, sym}
use Rattle.ftl_lsp.specs.Changes.{MakesEdits, makes_none}
use Rattle.ftl_lsp.proofs.ChangeLemmas.{MakesEdits-more}
use Rattle.ftl_lsp.proofs.documents.changes.text_after.Goals as goal

pub loop-change-init : goal.loop-change-init
loop-change-init c =
    subst (λ (t : List ℕ). MakesEdits c.args.text.now [] t) (sym c.in_ok-made.ensures.ok) makes_none

pub loop-change-preserved : goal.loop-change-preserved
loop-change-preserved c =
    MakesEdits-more _ _ _ _ _ _ c.loop-change-test.true c.loop-change.invariant
    (rw c.as_str.ensures.value at c.in_ok-made-2.ensures)
