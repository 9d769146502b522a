use Rattle.std.proofs.Common.{◌≡◌, ◌∙◌, ap, map}
use Rattle.std.specs.List.{flat_map}
use Rattle.fluent_syntax_grammar.specs.Body.{faults}
use Rattle.ftl.specs.Answer.{error_line, outcome_with, error_fault}
use Rattle.ftl.proofs.FaultLines.{faults_of_errors_are_faults}
use Rattle.ftl.proofs.answers.check.Goals as goal

pub returns-clause-text : goal.returns-clause-text
returns-clause-text c =
    let found = c.in_ok-errors.ensures.errors in
    let errors = c.in_ok-errors.errors.items in
    let listed = c.as_slice-errors.ensures.value in
    let same : map error_fault errors ≡ faults found.0 =
    faults_of_errors_are_faults errors (faults found.0) found.2 in (
      found.0,
      found.1,
      c.in_ok-error_lines.ensures
          ∙ ap (λ es. flat_map (error_line c.args.text.now) (map error_fault es)) listed
          ∙ ap (flat_map (error_line c.args.text.now)) same,
      c.outcome_of.ensures ∙ ap (λ es. outcome_with (map error_fault es)) listed ∙ ap outcome_with same,
    )
