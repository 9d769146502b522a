use Rattle.std.proofs.Common.{refl, subst, sym}
use Rattle.ftl_project.specs.Formatting.{IsProcessed}
use Rattle.ftl_project.specs.Tally.{failed}
use Rattle.ftl_project.proofs.Counting.{fact_holds_on_ok}
use Rattle.ftl_project.proofs.Reaching.{AllReach-rewrites}
use Rattle.ftl_project.proofs.formatting.write_file.Goals as goal

pub returns-in-Err-clause-reaches : goal.returns-in-Err-clause-reaches
returns-in-Err-clause-reaches g c =
    let at = g.S.Store.bytes_at in
    AllReach-rewrites g.S.Store.fails c.args.options c.args.path.now (at c.args.store.now) (at c.rewrite.new.store)
    c.rewrite.result c.rewrite.ensures

pub returns-in-Err-clause-counted : goal.returns-in-Err-clause-counted
returns-in-Err-clause-counted g c =
    let report_text = c.report_fault.ensures.counted in
    let processed = subst (λ r. IsProcessed r (failed report_text.0)) (sym c.in-Err.is)
    (report_text.0, report_text.1, refl) in
    fact_holds_on_ok c.report_fault.result (
      c.rewrite.result,
      c.rewrite.ensures,
      failed report_text.0,
      processed,
      report_text.2,
    )

pub returns-in-Ok-unchanged_note-clause-reaches : goal.returns-in-Ok-unchanged_note-clause-reaches
returns-in-Ok-unchanged_note-clause-reaches g c =
    let at = g.S.Store.bytes_at in
    AllReach-rewrites g.S.Store.fails c.args.options c.args.path.now (at c.args.store.now) (at c.rewrite.new.store)
    c.rewrite.result c.rewrite.ensures

pub returns-clause-reaches : goal.returns-clause-reaches
returns-clause-reaches g c =
    let at = g.S.Store.bytes_at in
    AllReach-rewrites g.S.Store.fails c.args.options c.args.path.now (at c.args.store.now) (at c.rewrite.new.store)
    c.rewrite.result c.rewrite.ensures
