use Rattle.std.proofs.Common.{◌≡◌, Some, drop}
use Rattle.fluent_syntax_names.specs.ComparisonTables.{other_by}
use Rattle.fluent_syntax_names.specs.MissingParts.{some_may_use}
use Rattle.fluent_syntax_names.specs.Rows.{texts_at}
use Rattle.fluent_syntax_names.proofs.comparison_tables.ComparisonTables.some_may_use.Given as goal

abbrev pub invariant-loop-message : goal.invariant-loop-message
invariant-loop-message l = record {
  left : some_may_use (other_by l.self) l.variable (Some (texts_at (drop l.message-index l.messages)))
      ≡ some_may_use (other_by l.self) l.variable (Some (texts_at l.messages));
}
