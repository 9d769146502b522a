use Rattle.fluent_syntax_c.proofs.Statuses.{not_edited_exactly, refused_status_is_refused_answer_exactly}
use Rattle.fluent_syntax_c.proofs.outputs.give.Goals as goal

pub returns-clause-refused : goal.returns-clause-refused
returns-clause-refused g c =
    refused_status_is_refused_answer_exactly c.args.answer c.number.result c.give_answer.result c.number.ensures
    c.give_answer.ensures.refused

pub returns-clause-edited : goal.returns-clause-edited
returns-clause-edited g c = λ why stated.
    c.give_answer.ensures.edited why
    (not_edited_exactly c.number.result c.give_answer.result why c.number.ensures stated)
