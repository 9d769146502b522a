use Rattle.std.proofs.Common.{◌==◌, ap, not, refl, string_bytes}
use Rattle.ftl.specs.Watched.{inner_of}
use Rattle.ftl_project.specs.Tally.{answered}
use Rattle.std.specs.Prelude.{Some}
use Rattle.ftl_project.proofs.Comparisons.{Compares-report_text, side_fault_is_of_pair}
use Rattle.ftl_project.proofs.Counting.{Appends-as, fact_holds_on_ok}
use Rattle.ftl_project.proofs.comparing.Comparing.report_pair.Goals as goal

pub returns-in_ok-write_all-in-Ok-clause-counted : goal.returns-in_ok-write_all-in-Ok-clause-counted
returns-in_ok-write_all-in-Ok-clause-counted g c =
    let written = g.O.Write.contents in
    let compared = c.in-Ok.compared in
    let between = written (inner_of c.write_all.new.writer) in
    let after = written (inner_of c.put_notes.new.streams.out.now) in
    fact_holds_on_ok c.put_notes.result (
      answered compared.errors compared.warnings (not (compared.errors == 0)),
      Some compared.share,
      string_bytes compared.report_text,
      (compared.share, refl, c.in-Ok.ensures.compared, refl),
      c.count.ensures,
      c.add.ensures,
      Appends-as (written (inner_of c.args.streams.now.out.now)) between after c.as_bytes.result.now
          (string_bytes compared.report_text) c.in_ok-write_all-in-Ok.ensures.all c.as_bytes.ensures.value
          (ap (λ out. written (inner_of out.now)) c.put_notes.ensures.out),
    )

pub returns-in-Err-clause-counted : goal.returns-in-Err-clause-counted
returns-in-Err-clause-counted g c =
    let self = c.args.self.now in
    let at = g.S.Store.bytes_at c.args.store.now in
    let written = g.O.Write.contents in
    let pair = c.args.pair.now in
    let fault = c.in-Err.fault in
    Compares-report_text g.S.Store.fails self.reading self.options at pair c.report_fault.result
    fault.fault c.args.tally.now
    c.report_fault.new.tally c.args.share.now (written (inner_of c.args.streams.now.out.now)) (written (inner_of
    c.report_fault.new.streams.out.now))
    (side_fault_is_of_pair g.S.Store.fails self.reading self.options at pair pair.presence fault.side fault.fault
    c.in-Err.ensures.fault)
    c.report_fault.ensures.counted
    (ap (λ out. written (inner_of out.now)) c.report_fault.ensures.out)
