use Rattle.std.proofs.Common.{◌∙◌}
use Rattle.fluent_syntax_writer.proofs.rules.FirstBroken.{answer_is_whether_none_is_found}
use Rattle.fluent_syntax_writer.proofs.canonical.is_canonical.Goals as goal

pub returns : goal.returns
returns g c =
    record {
      exact =
          answer_is_whether_none_is_found c.first_uncanonical.result c.is_none.result c.is_none.ensures
          ∙ c.first_uncanonical.ensures.none;
    }
