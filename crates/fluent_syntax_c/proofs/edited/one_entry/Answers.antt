use Rattle.fluent_syntax_c.proofs.PartsRead.{clean_text_of_one_entry_reads_as_it, errors_read_none, no_entry_reads}
use Rattle.fluent_syntax_c.proofs.edited.one_entry.Goals as goal

pub returns-in-Clean-clause-some : goal.returns-in-Clean-clause-some
returns-in-Clean-clause-some c = λ edition t is.
    clean_text_of_one_entry_reads_as_it edition t c.args.part.now is c.only_entry.result c.as_slice.result.now
    c.as_slice.ensures.value
    c.in-Clean.is c.only_entry.ensures.some

pub returns-in-Clean-clause-none : goal.returns-in-Clean-clause-none
returns-in-Clean-clause-none c = λ edition t is.
    no_entry_reads edition t c.args.part.now is c.only_entry.result c.as_slice.result.now c.as_slice.ensures.value
    c.only_entry.ensures.none

pub returns-in-SyntaxErrors-clause-none : goal.returns-in-SyntaxErrors-clause-none
returns-in-SyntaxErrors-clause-none c = λ edition t is.
    errors_read_none edition t c.args.part.now is c.in-SyntaxErrors.is
