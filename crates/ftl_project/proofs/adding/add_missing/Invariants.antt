use Rattle.ftl_project.specs.Adding.{AllGrow}
use Rattle.ftl_project.proofs.adding.add_missing.Given as goal

abbrev pub invariant-loop-pair : goal.invariant-loop-pair
invariant-loop-pair g l =
    let at = g.S.Store.bytes_at in
    AllGrow l.options.reading.edition (at l.fn.store) (at l.store)
