use Rattle.std.proofs.Common.{◌-◌, length, arith}
use Rattle.fluent_syntax_grammar.specs.Lanes.{is_passed}
use Rattle.fluent_syntax_grammar.proofs.LaneRuns.{run_after_prefix_is_prefix_length}
use Rattle.fluent_syntax_grammar.proofs.lanes.text_len.Goals as goal

pub returns-then-run-lt-LANES : goal.returns-then-run-lt-LANES
returns-then-run-lt-LANES c =
    let room = c.loop-start-test.true in
    run_after_prefix_is_prefix_length is_passed c.args.bytes.now c.loop-start.start 16 c.text_run-run.result
    (omega (arith, room))
    c.loop-start.invariant.each c.text_run-run.ensures.run (λ more. c.if-run-lt-LANES.true)

pub returns : goal.returns
returns c =
    let long = c.if-bytes-lt-LANES.false in
    run_after_prefix_is_prefix_length is_passed c.args.bytes.now (length c.args.bytes.now - 16) 16 c.text_run.result
    (omega (arith, long))
    (λ k first. c.loop-start.invariant.each k (omega (arith, c.loop-start-test.false))) c.text_run.ensures.run
    (λ more. omega (arith, long))
