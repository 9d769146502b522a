use Rattle.std.proofs.Common.{refl}
use Rattle.ftl_project.specs.Adding.{Extends}
use Rattle.ftl_project.proofs.Reaching.{AllReach-trans, AllReach-untouched}
use Rattle.ftl_project.proofs.adding.add_missing.Goals as goal

pub loop-pair-init : goal.loop-pair-init
loop-pair-init g c =
    let at = g.S.Store.bytes_at c.args.store.now in
    AllReach-untouched (Extends c.args.options.reading.edition) at at (λ path. refl)

pub returns-in_err-report_extension-in-Ok-clause-grow : goal.returns-in_err-report_extension-in-Ok-clause-grow
returns-in_err-report_extension-in-Ok-clause-grow g c =
    let at = g.S.Store.bytes_at in
    AllReach-trans (Extends c.args.options.reading.edition) (at c.args.store.now) (at c.loop-pair.store)
    (at c.extended_pair.new.store) c.loop-pair.invariant c.extended_pair.ensures

pub returns-in_err-report_fault-in-Err-clause-grow : goal.returns-in_err-report_fault-in-Err-clause-grow
returns-in_err-report_fault-in-Err-clause-grow g c =
    let at = g.S.Store.bytes_at in
    AllReach-trans (Extends c.args.options.reading.edition) (at c.args.store.now) (at c.loop-pair.store)
    (at c.extended_pair.new.store) c.loop-pair.invariant c.extended_pair.ensures

pub loop-pair-preserved : goal.loop-pair-preserved
loop-pair-preserved g c =
    let at = g.S.Store.bytes_at in
    AllReach-trans (Extends c.args.options.reading.edition) (at c.args.store.now) (at c.loop-pair.store)
    (at c.extended_pair.new.store) c.loop-pair.invariant c.extended_pair.ensures
