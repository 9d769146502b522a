use Rattle.std.proofs.Common.{◌≡◌, take}
use Rattle.std.specs.Prelude.{All}
use Rattle.ftl_project.specs.Linting.{NameIndexesEach}
use Rattle.ftl_project.specs.NameIndexes.{IsShort}
use Rattle.ftl_project.proofs.linting.name_indexes.Given as goal

abbrev pub invariant-loop-source : goal.invariant-loop-source
invariant-loop-source g l = record {
  name_indexes : NameIndexesEach l.reading (take l.source-index l.sources) l.name_indexes.items l.fn.tally l.tally;
  short : All IsShort l.name_indexes.items;
  out : l.streams.out ≡ l.fn.streams.out;
}
