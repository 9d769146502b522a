use Rattle.fluent_syntax_c.proofs.Statuses.{answer_is_given}
use Rattle.fluent_syntax_c.proofs.rows.give_rows.Goals as goal

pub returns : goal.returns
returns g c = record {
  gives = answer_is_given _ _ _ _ _ c.text_rows.result _ _ _ _ c.text_rows.ensures.answers c.give.ensures.leaves
      c.give.ensures.refused;
}
