-- Rows and lines of causes.
use Rattle.std.proofs.Common.{◌≡◌, ◌∙◌, ℕ, List, Option, Some, ap, length, map, sym}
use Rattle.std.proofs.lemmas.List.{length-map}
use Rattle.std.specs.Global.{Global}
use Rattle.std.specs.List.{flat_map}
use Rattle.std.specs.Prelude.{Vec, Result, Ok, Err, IfOk}
use Rattle.fluent_syntax_tree.specs.declared.edition.Edition.{Edition}
use Rattle.fluent_syntax_tree.specs.declared.errors.ParserError.{ParserError}
use Rattle.fluent_syntax_grammar.specs.Body.{faults}
use Rattle.fluent_syntax_grammar.specs.Tiling.{Tile}
use Rattle.fluent_syntax_parser.specs.Faults.{fault_of}
use Rattle.ftl.specs.declared.causes.Cause.{Cause}
use Rattle.fluent_syntax_c.specs.Causes.{AreCauseMessages, AreCauses, cause_line, cause_row}
use Rattle.fluent_syntax_c.specs.declared.causes.FtlCause.{FtlCause}

module _ (edition : Edition) (t : List ℕ) (tiles : List Tile) (errors : List ParserError)
    (errors_are : map fault_of errors ≡ map Some (faults tiles)) (causes : List (Option Cause))
    (as_many : length causes ≡ length errors) where
  -- causes that are as many as the errors are as many as the faults of the tiles
  causes_are_as_many_as_faults : length causes ≡ length (faults tiles)
  causes_are_as_many_as_faults =
      as_many ∙ sym (length-map errors fault_of) ∙ ap length errors_are ∙ length-map (faults tiles) Some

  -- rows of causes that are as many as the errors
  pub rows_of_all_causes_are_causes : {E : Type 0} (s : List ℕ) → s ≡ t → (answer : Result (Vec FtlCause Global) E) →
      IfOk answer (λ rows. rows.items ≡ map (cause_row s) causes) →
      IfOk answer (λ rows. AreCauses edition t tiles rows.items)
  rows_of_all_causes_are_causes s same (Ok rows) is = record {
    causes = causes;
    as_many = causes_are_as_many_as_faults;
    rows_are = is ∙ ap (λ u. map (cause_row u) causes) same;
  }
  rows_of_all_causes_are_causes s same (Err e) is = is

  -- so are their lines
  pub lines_of_all_causes_are_cause_messages : {E : Type 0} (answer : Result (Vec ℕ Global) E) →
      IfOk answer (λ lines. lines.items ≡ flat_map cause_line causes) →
      IfOk answer (λ lines. AreCauseMessages edition t tiles lines.items)
  lines_of_all_causes_are_cause_messages (Ok lines) is =
      record { causes = causes; as_many = causes_are_as_many_as_faults; lines_are = is }
  lines_of_all_causes_are_cause_messages (Err e) is = is
