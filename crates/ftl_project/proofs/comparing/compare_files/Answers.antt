use Rattle.std.proofs.Common.{◌∙◌, arith, refl, subst}
use Rattle.ftl.specs.Watched.{inner_of}
use Rattle.ftl_project.specs.Comparing.{Compares, no_pairs}
use Rattle.ftl_project.proofs.Comparisons.{files_are_same}
use Rattle.ftl_project.proofs.InOrder.{ComparesEach-more}
use Rattle.ftl_project.proofs.comparing.compare_files.Goals as goal

pub loop-pair-init : goal.loop-pair-init
loop-pair-init g c = record { untouched = λ path. refl; each = no_pairs }

pub loop-pair-preserved : goal.loop-pair-preserved
loop-pair-preserved g c =
    let at = g.S.Store.bytes_at in
    let written = g.O.Write.contents in
    let start = at c.args.store.now in
    let compares = subst (λ files. Compares g.S.Store.fails c.args.reading c.args.options files c.pair-item.result
    c.loop-pair.tally
    c.report_pair.new.tally c.loop-pair.share c.report_pair.new.share (written (inner_of c.loop-pair.streams.out.now))
    (written (inner_of c.report_pair.new.streams.out.now))) (files_are_same start (at c.loop-pair.store)
    c.loop-pair.invariant.untouched)
    c.in_ok-report_pair.ensures.counted in
    record {
      untouched = λ path. c.report_pair.ensures.untouched path ∙ c.loop-pair.invariant.untouched path;
      each = ComparesEach-more g.S.Store.fails c.args.reading c.args.options start c.args.pairs.now
          c.loop-pair.pair-index c.pair-item.result c.args.tally.now c.loop-pair.tally c.report_pair.new.tally
          c.args.share.now c.loop-pair.share c.report_pair.new.share (written (inner_of c.args.streams.now.out.now))
          (written (inner_of c.loop-pair.streams.out.now)) (written (inner_of c.report_pair.new.streams.out.now)) (omega
          arith) c.pair-item.is
          c.loop-pair.invariant.each compares;
    }
