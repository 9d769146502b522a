use Rattle.fluent_syntax_c.specs.StatusNames.{IsStatusName}
use Rattle.fluent_syntax_c.specs.declared.status.Refusal.TheVariants.{Argument}
use Rattle.fluent_syntax_c.proofs.Statuses.{answered_is_left, iff_is_transitive}
use Rattle.fluent_syntax_c.proofs.status_names.ftl_status_name.Goals as goal

pub returns-clause-leaves : goal.returns-clause-leaves
returns-clause-leaves c =
    answered_is_left (IsStatusName c.args.status) (λ given. given.0.items) (λ given. given.1) c.name_bytes.result
    c.args.out.now c.give.new.out c.give.new.count c.give.result c.name_bytes.ensures.name c.give.ensures.leaves

pub returns-clause-argument : goal.returns-clause-argument
returns-clause-argument c = iff_is_transitive (c.give.ensures.refused Argument) c.name_bytes.ensures.argument
