use Rattle.std.proofs.Common.{◌≡◌, ◌<◌, ◌+◌, ◌-◌, arith, subst, get_or}
use Rattle.std.specs.Str.{IsCharBoundary}
use Rattle.std.proofs.lemmas.Str.{IsCharBoundary-after_ascii, IsCharBoundary-start}
use Rattle.ftl_project.proofs.reporting.line.line_start.Goals as goal

pub returns-else-bytes-start-ne10-clause-boundary : goal.returns-else-bytes-start-ne10-clause-boundary
returns-else-bytes-start-ne10-clause-boundary c =
    let t = c.args.text.now in
    let start = c.loop-start.start in
    let some : start - 1 + 1 ≡ start = omega (arith, c.loop-start-test.true) in
    let stop = rw c.as_bytes-bytes.ensures.value at c.if-bytes-start-ne10.false in
    let small : get_or t (start - 1) 0 < 128 = omega (arith, stop) in
    subst (λ n. IsCharBoundary t n) some
    (IsCharBoundary-after_ascii t (start - 1) c.utf8.text (omega (arith, c.loop-start.invariant.within)) small)

pub returns-after-loop-start-clause-boundary : goal.returns-after-loop-start-clause-boundary
returns-after-loop-start-clause-boundary c =
    let t = c.args.text.now in
    let none : 0 ≡ c.loop-start.start = omega (arith, c.loop-start-test.false) in
    subst (λ n. IsCharBoundary t n) none (IsCharBoundary-start t c.utf8.text)
