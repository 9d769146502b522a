use Rattle.fluent_syntax_c.specs.Comparison.{AreDifferences}
use Rattle.fluent_syntax_c.proofs.Statuses.{expected_rows_are_call_result, either_of_two_absurd_is_absurd}
use Rattle.fluent_syntax_c.proofs.comparison.edition_differences.Goals as goal

pub returns-in-Ok : goal.returns-in-Ok
returns-in-Ok c =
    let found : AreDifferences c.args.edition c.args.reference.now c.args.other.now c.in-Ok.rows.items
    c.either_outcome.result = record {
      reference_name_index = c.in_ok-reference.reference;
      reference_outcome = c.in_ok-reference.found;
      is_reference = c.in_ok-reference.ensures.name_index;
      other_name_index = c.in_ok-other.other;
      other_outcome = c.in_ok-other.more;
      is_other = c.in_ok-other.ensures.name_index;
      rows_are = c.in-Ok.ensures;
      outcome_is = c.either_outcome.ensures;
    } in
    let by = c.in_ok-reference.ensures.name_index in record {
      answers = expected_rows_are_call_result c.args.edition _ _ _ _ c.in-Ok.rows c.either_outcome.result found
          (λ none. none by.0 by.1) (by.2.is_utf8, c.in_ok-other.ensures.name_index.2.is_utf8)
          (λ deeper.
          either_of_two_absurd_is_absurd c.in_ok-reference.ensures.shallow c.in_ok-other.ensures.shallow deeper);
    }
