use Rattle.std.proofs.Common.{sym, ◌∙◌}
use Rattle.fluent_syntax_c.specs.declared.status.EditRefusal.TheVariants.{NotCanonical}
use Rattle.fluent_syntax_c.specs.declared.status.Refusal.TheVariants.{Depth, Tree}
use Rattle.fluent_syntax_c.specs.declared.status.Status.TheVariants.{NotEdited}
use Rattle.fluent_syntax_c.proofs.Statuses.{equal_refusal_numbers_are_of_same_refusal}
use Rattle.fluent_syntax_c.proofs.canonical.ftl_first_uncanonical.Goals as goal

pub returns-in-Err-clause-tree : goal.returns-in-Err-clause-tree
returns-in-Err-clause-tree c = λ stated.
    let same = equal_refusal_numbers_are_of_same_refusal c.in-Err.refusal Tree (sym c.number-in-Err.ensures ∙ stated) in
    c.in-Err.ensures.tree cc

pub returns-in-Err-clause-json : goal.returns-in-Err-clause-json
returns-in-Err-clause-json c = λ stated.
    let same =
    equal_refusal_numbers_are_of_same_refusal c.in-Err.refusal Depth (sym c.number-in-Err.ensures ∙ stated) in
    c.in-Err.ensures.json cc

pub returns-in-Ok-Some-clause-leaves : goal.returns-in-Ok-Some-clause-leaves
returns-in-Ok-Some-clause-leaves c = (
  NotEdited (NotCanonical c.in-Ok-Some.found.rule),
  c.number.ensures,
  rw c.in-Ok-Some.field-0-is at c.in-Ok-Some.ensures.found,
)
