use Rattle.std.proofs.Common.{ℕ, ◌<◌}
use Rattle.fluent_syntax_edits.specs.Changes.{change_of}
use Rattle.fluent_syntax_edits.specs.Edits.{IsRead}
use Rattle.fluent_syntax_edits.proofs.edits.edited_text.Given as goal

abbrev pub invariant-loop-line_ends : goal.invariant-loop-line_ends
invariant-loop-line_ends l = record {
  none :
      (k : ℕ) → k < l.line_ends → ¬ (IsRead l.edition l.source l.index (change_of l.edit) k l.replaced);
}
