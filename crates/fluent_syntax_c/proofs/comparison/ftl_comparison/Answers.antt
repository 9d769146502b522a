use Rattle.fluent_syntax_c.proofs.Statuses.{answer_is_given}
use Rattle.fluent_syntax_c.proofs.comparison.ftl_comparison.Goals as goal

pub returns : goal.returns
returns c = record {
  gives = answer_is_given _ _ _ _ _ c.edition_differences.result _ _ _ _ c.edition_differences.ensures.answers
      c.give.ensures.leaves c.give.ensures.refused;
}
