use Rattle.ftl_project.proofs.comparing.Comparing.comparison_of_texts.Goals as goal

pub returns-clause-compared : goal.returns-clause-compared
returns-clause-compared c = (
  c.in_ok-reference.reference,
  c.in_ok-reference.ensures.name_index,
  c.in_ok-other.other,
  c.in_ok-other.ensures.name_index,
  c.in_ok-compared.ensures,
)
