use Rattle.std.proofs.Common.{◌≡◌, ◌++◌, ℕ, List, drop, map}
use Rattle.fluent_syntax_tree.specs.declared.edition.Edition.{Edition}
use Rattle.fluent_syntax_edits.specs.SeveralEdits.{NumberedChange, numbered_change}
use Rattle.fluent_syntax_c.specs.Arguments.{edition_number}
use Rattle.fluent_syntax_c.specs.Edits.{IsTextTree}
use Rattle.fluent_syntax_c.specs.SeveralEdits.{AskFor}
use Rattle.fluent_syntax_c.proofs.asked_edits.asked_edits.Given as goal

abbrev pub invariant-loop-edit : goal.invariant-loop-edit
invariant-loop-edit l = record {
  asked :
      (by : Edition) (t : List ℕ) (is : IsTextTree by t l.source) → edition_number by ≡ l.fn.edition →
      (cs : List NumberedChange) →
      AskFor (edition_number by) t by is.tiles (drop l.edit-index l.edits) cs →
      AskFor (edition_number by) t by is.tiles l.edits (map numbered_change l.asked.items ++ cs);
}
