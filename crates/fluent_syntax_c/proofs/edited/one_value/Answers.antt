use Rattle.fluent_syntax_c.specs.Edits.{value_message}
use Rattle.fluent_syntax_c.proofs.PartsRead.{IfNone-none, IfNone-weaker, text_reads_as_one_entry}
use Rattle.fluent_syntax_c.proofs.edited.one_value.Goals as goal

pub returns-in_err-one_entry-clause-none : goal.returns-in_err-one_entry-clause-none
returns-in_err-one_entry-clause-none c = λ edition t is.
    IfNone-none c.from_residual.result c.from_residual.ensures
    (λ v. c.in_err-one_entry.ensures.none edition t is (value_message v))

pub returns-clause-none : goal.returns-clause-none
returns-clause-none c = λ edition t is.
    IfNone-weaker c.only_value.result
    (λ none v reads. none v
    (text_reads_as_one_entry edition t _ (value_message v) (c.in_ok-one_entry.ensures.some edition t is) reads))
    c.only_value.ensures.none
