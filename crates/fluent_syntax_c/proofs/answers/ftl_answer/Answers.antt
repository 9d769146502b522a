use Rattle.std.proofs.Common.{◌∙◌}
use Rattle.fluent_syntax_c.specs.Answer.{IsCommandAnswer}
use Rattle.fluent_syntax_c.specs.declared.arguments.CommandKind.TheVariants.{Answer}
use Rattle.fluent_syntax_c.specs.declared.status.Refusal.TheVariants.{Argument, Input, Depth, Tree}
use Rattle.fluent_syntax_c.proofs.Commands.{text_command_is_not_json}
use Rattle.fluent_syntax_c.proofs.Statuses.{answered_is_left, deeper_is_refused_by_three_statuses, iff_is_transitive}
use Rattle.fluent_syntax_c.proofs.answers.ftl_answer.Goals as goal

pub returns-clause-leaves : goal.returns-clause-leaves
returns-clause-leaves c =
    answered_is_left (IsCommandAnswer c.args.command c.args.input.now) (λ given. given.0.items) (λ given. given.1)
    c.command_bytes.result c.args.out.now c.give.new.out c.give.new.count c.give.result c.command_bytes.ensures.text
    c.give.ensures.leaves

pub returns-clause-argument : goal.returns-clause-argument
returns-clause-argument c = iff_is_transitive (c.give.ensures.refused Argument) c.command_bytes.ensures.argument

pub returns-clause-input : goal.returns-clause-input
returns-clause-input c = λ known. iff_is_transitive (c.give.ensures.refused Input) (c.command_bytes.ensures.input known)

pub returns-clause-deep : goal.returns-clause-deep
returns-clause-deep c = λ stated. c.command_bytes.ensures.deep ((c.give.ensures.refused Depth).0 stated)

pub returns-clause-deeper : goal.returns-clause-deeper
returns-clause-deeper c = λ stated. c.command_bytes.ensures.deeper ((c.give.ensures.refused Depth).0 stated)

pub returns-clause-shallow : goal.returns-clause-shallow
returns-clause-shallow c = λ deeper.
    deeper_is_refused_by_three_statuses c.command_bytes.result c.give.result _ c.give.ensures.refused
    c.command_bytes.ensures.shallow
    (λ e d. c.command_bytes.ensures.argument.0 e (Answer d.0) d.1)
    (λ e d. text_command_is_not_json d.0 (d.1 ∙ (c.command_bytes.ensures.tree e).0)) deeper

pub returns-clause-tree : goal.returns-clause-tree
returns-clause-tree c = λ stated. c.command_bytes.ensures.tree ((c.give.ensures.refused Tree).0 stated)

pub returns-clause-json : goal.returns-clause-json
returns-clause-json c = λ stated. c.command_bytes.ensures.json ((c.give.ensures.refused Depth).0 stated)
