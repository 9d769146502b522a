use Rattle.std.proofs.Common.{◌∙◌, arith, refl}
use Rattle.std.proofs.lemmas.List.Elements.{All-nil, All-push}
use Rattle.ftl_project.proofs.InOrder.{NameIndexesEach-more}
use Rattle.ftl_project.specs.Linting.{no_sources}
use Rattle.ftl_project.specs.NameIndexes.{IsShort}
use Rattle.ftl_project.proofs.linting.name_indexes.Goals as goal

pub loop-source-init : goal.loop-source-init
loop-source-init g c = record {
  name_indexes = rw c.new-name_indexes.ensures.items no_sources;
  short = rw c.new-name_indexes.ensures.items (All-nil IsShort);
  out = refl;
}

pub loop-source-preserved : goal.loop-source-preserved
loop-source-preserved g c =
    let here = c.in_ok-name_index in
    let inv = c.loop-source.invariant in
    let name_indexes = c.loop-source.name_indexes.items in
    let added = c.in-Ok.ensures in
    record {
      name_indexes = NameIndexesEach-more c.args.reading c.args.sources.now c.loop-source.source-index
          c.source-item.result
          name_indexes c.add_name_index.new.name_indexes.items here.name_index c.args.tally.now c.loop-source.tally
          c.source_name_index.new.tally (omega arith) c.source-item.is added inv.name_indexes here.ensures.name_index;
      short = rw added (All-push IsShort name_indexes here.name_index inv.short here.ensures.short);
      out = c.source_name_index.ensures.out ∙ inv.out;
    }
