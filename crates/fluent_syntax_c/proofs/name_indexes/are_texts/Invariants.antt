use Rattle.std.proofs.Common.{take}
use Rattle.std.specs.List.{All}
use Rattle.fluent_syntax_c.specs.NameIndexes.{IsText}
use Rattle.fluent_syntax_c.proofs.name_indexes.are_texts.Given as goal

abbrev pub invariant-loop-text : goal.invariant-loop-text
invariant-loop-text l = All IsText (take l.text-index l.texts)
