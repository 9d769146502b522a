use Rattle.std.proofs.Common.{take}
use Rattle.std.specs.List.{All}
use Rattle.fluent_syntax_c.specs.Depth.{EditionReadsDeeper}
use Rattle.fluent_syntax_c.specs.NameIndexes.{AreNameIndexes, IsShort}
use Rattle.fluent_syntax_c.proofs.name_indexes.name_indexes.Given as goal

abbrev pub invariant-loop-text : goal.invariant-loop-text
invariant-loop-text l = record {
  so_far : AreNameIndexes l.fn.edition (take l.text-index l.texts) l.name_indexes.items l.outcome;
  short : All IsShort l.name_indexes.items;
  shallow : All (λ text. EditionReadsDeeper l.fn.edition text.text.now l.fn.nesting → ⊥)
      (take l.text-index l.texts);
}
