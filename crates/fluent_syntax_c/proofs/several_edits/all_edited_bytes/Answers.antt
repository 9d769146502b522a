use Rattle.std.proofs.Common.{Err, ap, inr, refl, rules, sym, ◌∙◌}
use Rattle.std.proofs.lemmas.Result.{err_from_is_err_and}
use Rattle.std.specs.Str.{IsUtf8}
use Rattle.fluent_syntax_c.specs.Arguments.{IsNoEdition}
use Rattle.fluent_syntax_c.proofs.PartChanges.{known_arguments_are_not_refused, refused_answer_is_not_input}
use Rattle.fluent_syntax_c.proofs.several_edits.all_edited_bytes.Goals as goal

pub returns-then-not-have_texts-clause-argument : goal.returns-then-not-have_texts-clause-argument
returns-then-not-have_texts-clause-argument c =
    let known : ¬ (IsNoEdition c.args.edition) = search rules in (
      (λ e. cc),
      (λ no.
          absurd
          (known_arguments_are_not_refused c.args.edition c.args.edits.now known
          (c.if-not-have_actions.ensures.0 refl) no)),
    )

pub returns-in_err-source-clause-input : goal.returns-in_err-source-clause-input
returns-in_err-source-clause-input c = λ known has.
    let utf8 : IsUtf8 c.args.input.now = search rules in
    let p = err_from_is_err_and c.from_residual.result c.from_residual.ensures.1 in (
      (λ e both.
          refused_answer_is_not_input (Err c.in_err-source.field-0.0) c.in_err-source.ensures.err
          (sym (p.1 ∙ ap Err p.2) ∙ e)),
      (λ no. absurd (no (utf8, c.if-not-have_texts.ensures.0 refl))),
    )

pub returns-clause-edited : goal.returns-clause-edited
returns-clause-edited c =
    let (by, number, is) = c.in_ok-source.ensures.tree in
    c.edited_source.ensures.edited by c.args.input.now is number

pub returns-clause-not_edited : goal.returns-clause-not_edited
returns-clause-not_edited c =
    let (by, number, is) = c.in_ok-source.ensures.tree in
    c.edited_source.ensures.not_edited by c.args.input.now is number

pub returns-clause-input : goal.returns-clause-input
returns-clause-input c = λ known has.
    let utf8 : IsUtf8 c.args.input.now = search rules in (
      (λ e both. refused_answer_is_not_input c.edited_source.result c.edited_source.ensures.err e),
      (λ no. absurd (no (utf8, c.if-not-have_texts.ensures.0 refl))),
    )

pub returns-clause-deeper : goal.returns-clause-deeper
returns-clause-deeper c = λ e. inr (c.edited_source.ensures.deeper c.args.input.now e)
