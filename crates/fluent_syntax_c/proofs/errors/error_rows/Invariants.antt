use Rattle.std.proofs.Common.{◌≡◌, map, take}
use Rattle.ftl.specs.Answer.{error_fault}
use Rattle.fluent_syntax_c.specs.Errors.{error_row}
use Rattle.fluent_syntax_c.proofs.errors.error_rows.Given as goal

abbrev pub invariant-loop-error : goal.invariant-loop-error
invariant-loop-error l = record {
  text : l.positions ≡ l.text;
  so_far : l.rows.items ≡ map (λ e. error_row l.text (error_fault e)) (take l.error-index l.error-items);
}
