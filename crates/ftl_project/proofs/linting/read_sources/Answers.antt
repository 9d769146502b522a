use Rattle.std.proofs.Common.{◌∙◌, arith, refl, subst}
use Rattle.ftl_project.proofs.Comparisons.{files_are_same}
use Rattle.ftl_project.proofs.InOrder.{Reads-more}
use Rattle.ftl_project.specs.Linting.{ReadsSource, no_files}
use Rattle.ftl_project.proofs.linting.read_sources.Goals as goal

pub loop-file-init : goal.loop-file-init
loop-file-init g c = record {
  untouched = λ path. refl;
  sources = rw c.new-sources.ensures.items no_files;
  out = refl;
}

pub loop-file-preserved : goal.loop-file-preserved
loop-file-preserved g c =
    let at = g.S.Store.bytes_at in
    let start = at c.args.store.now in
    let sources = c.loop-file.sources.items in
    let all = c.read_source.new.sources.items in
    let one = subst (λ files. ReadsSource g.S.Store.fails files c.file-item.result sources all c.loop-file.tally
    c.read_source.new.tally)
    (files_are_same start (at c.loop-file.store) c.loop-file.invariant.untouched) c.in_ok-read_source.ensures.source in
    record {
      untouched = λ other. c.read_source.ensures.untouched other ∙ c.loop-file.invariant.untouched other;
      sources = Reads-more g.S.Store.fails start c.args.files.now c.loop-file.file-index c.file-item.result
          sources all
          c.args.tally.now c.loop-file.tally c.read_source.new.tally (omega arith) c.file-item.is
          c.loop-file.invariant.sources one;
      out = c.read_source.ensures.out ∙ c.loop-file.invariant.out;
    }
