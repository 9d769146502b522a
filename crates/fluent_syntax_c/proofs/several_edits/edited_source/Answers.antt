use Rattle.std.proofs.Common.{IfOk, map, rules, subst, sym}
use Rattle.std.specs.List.{Any}
use Rattle.std.specs.Prelude.{IfErr}
use Rattle.fluent_syntax_edits.specs.SeveralEdits.{numbered_change}
use Rattle.fluent_syntax_c.specs.Arguments.{edition_number}
use Rattle.fluent_syntax_c.specs.SeveralEdits.{AreEdited, AreNotEdited, AskFor, EditAsksForNone, one_asks_for_none}
use Rattle.fluent_syntax_c.proofs.several_edits.edited_source.Goals as goal

pub returns-in_err-asked-clause-deeper : goal.returns-in_err-asked-clause-deeper
returns-in_err-asked-clause-deeper c = λ t stated. c.in_err-asked.ensures.deeper t (search rules)

pub returns-in-Ok-clause-edited : goal.returns-in-Ok-clause-edited
returns-in-Ok-clause-edited c = λ by t is number.
    let ask =
    subst (λ es. AskFor (edition_number by) t by is.tiles c.args.edits.now (map numbered_change es))
    (sym c.deref.ensures.value) (rw c.in-Ok.is at (c.in_ok-asked.ensures.asked by t is number)) in
    subst
    (λ n.
    IfOk c.edited_text.result
    (λ answer. IfOk answer (λ given. AreEdited n t c.args.edits.now given.0.items given.1)))
    number (c.edited_text.ensures.edited by t is c.args.edits.now ask)

pub returns-in-Ok-clause-not_edited : goal.returns-in-Ok-clause-not_edited
returns-in-Ok-clause-not_edited c = λ by t is number.
    let ask =
    subst (λ es. AskFor (edition_number by) t by is.tiles c.args.edits.now (map numbered_change es))
    (sym c.deref.ensures.value) (rw c.in-Ok.is at (c.in_ok-asked.ensures.asked by t is number)) in
    subst (λ n. IfOk c.edited_text.result (λ answer. IfErr answer (AreNotEdited n t c.args.edits.now))) number
    (c.edited_text.ensures.not_edited by t is c.args.edits.now ask)

pub returns-in-Err-clause-not_edited : goal.returns-in-Err-clause-not_edited
returns-in-Err-clause-not_edited c = λ by t is number.
    one_asks_for_none
    (subst (λ n. Any (λ edit. EditAsksForNone n t edit c.in-Err.refusal) c.args.edits.now) number
    (rw c.in-Err.is at (c.in_ok-asked.ensures.none by t is number)))
