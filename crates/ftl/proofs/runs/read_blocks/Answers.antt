use Rattle.std.proofs.Common.{sym, subst, take, ap, arith}
use Rattle.std.specs.Io.KnownBytes.{Consumes}
use Rattle.ftl.specs.Watched.{inner_of}
use Rattle.ftl.proofs.Bytes.{Consumes-more, Consumes-end}
use Rattle.ftl.proofs.runs.read_blocks.Goals as goal

pub loop-input-preserved : goal.loop-input-preserved
loop-input-preserved g c =
    let remaining = g.R.Read.remaining in
    let more =
    Consumes-more (remaining (inner_of c.args.reader.now)) (remaining (inner_of c.loop-input.reader))
    (remaining (inner_of c.read.new.self)) c.loop-input.input.items _ c.loop-input.invariant
    c.in-Some.ensures.bytes in
    subst (λ xs. Consumes (remaining (inner_of c.args.reader.now)) (remaining (inner_of c.read.new.self)) xs)
    (sym c.in_ok-append-in-Some.ensures.ok) more

pub returns-in-Some-eq0-clause-all : goal.returns-in-Some-eq0-clause-all
returns-in-Some-eq0-clause-all g c =
    let remaining = g.R.Read.remaining in
    Consumes-end (remaining (inner_of c.args.reader.now)) (remaining (inner_of c.loop-input.reader))
    (remaining (inner_of c.read.new.self)) c.loop-input.input.items _ c.loop-input.invariant
    c.in-Some-eq0.ensures.bytes (ap (λ n. take n c.read.new.buf) c.in-Some-eq0.field-0-test)
    (c.in-Some-eq0.ensures.end c.in-Some-eq0.field-0-test (omega arith))
