use Rattle.std.proofs.Common.{arith, refl, subst}
use Rattle.ftl_project.specs.Formatting.{Formats}
use Rattle.ftl_project.specs.Lossless.{IsRewriting}
use Rattle.ftl_project.proofs.FormattingEach.{FormatsSo-all, FormatsSo-more}
use Rattle.ftl_project.proofs.Normal.{AllNormal-each}
use Rattle.ftl_project.proofs.Reaching.{AllReach-untouched, AllReach-trans}
use Rattle.ftl_project.proofs.formatting.write_files.Goals as goal

pub loop-file-init : goal.loop-file-init
loop-file-init g c =
    let at = g.S.Store.bytes_at c.args.store.now in
    record {
      reaches = AllReach-untouched (IsRewriting c.args.options) at at (λ path. refl);
      each = λ new after rest. rest;
    }

pub returns-in_err-write_file-clause-reaches : goal.returns-in_err-write_file-clause-reaches
returns-in_err-write_file-clause-reaches g c =
    let at = g.S.Store.bytes_at in
    AllReach-trans (IsRewriting c.args.options) (at c.args.store.now) (at c.loop-file.store) (at c.write_file.new.store)
    c.loop-file.invariant.reaches c.write_file.ensures.reaches

pub loop-file-preserved : goal.loop-file-preserved
loop-file-preserved g c =
    let at = g.S.Store.bytes_at in
    let formats = subst (λ path. Formats g.S.Store.fails c.args.options path (at c.loop-file.store) (at
    c.write_file.new.store)
    c.loop-file.tally c.write_file.new.tally) c.as_str.ensures.value c.in_ok-write_file.ensures.counted in
    record {
      reaches = AllReach-trans (IsRewriting c.args.options) (at c.args.store.now) (at c.loop-file.store)
          (at c.write_file.new.store) c.loop-file.invariant.reaches c.write_file.ensures.reaches;
      each = FormatsSo-more g.S.Store.fails c.args.options c.args.files.now c.loop-file.file-index c.file-item.result
          (at c.args.store.now) (at c.loop-file.store) (at c.write_file.new.store) c.args.tally.now c.loop-file.tally
          c.write_file.new.tally (omega arith) c.file-item.is c.loop-file.invariant.each formats;
    }

pub returns-clause-normal : goal.returns-clause-normal
returns-clause-normal g c =
    let at = g.S.Store.bytes_at in
    let start = at c.args.store.now in
    let each = FormatsSo-all g.S.Store.fails c.args.options c.args.files.now c.loop-file.file-index start (at
    c.loop-file.store)
    c.args.tally.now c.loop-file.tally (omega arith) c.loop-file.invariant.each in
    AllNormal-each g.S.Store.fails c.args.options c.args.files.now start start (at c.loop-file.store) c.args.tally.now
    c.loop-file.tally
    (AllReach-untouched (IsRewriting c.args.options) start start (λ path. refl)) each
