use Rattle.fluent_syntax_names.proofs.mention_findings.FileContext.finding_of.Goals as goal

pub returns-in-Message-clause-finding : goal.returns-in-Message-clause-finding
returns-in-Message-clause-finding c =
    let finding_of = rw c.message_name.ensures at c.duplicate_entry.ensures.finding in
    rw c.in-Message.is finding_of

pub returns-in-Term-clause-finding : goal.returns-in-Term-clause-finding
returns-in-Term-clause-finding c =
    let finding_of = rw c.term_name.ensures at c.duplicate_entry-in-Term.ensures.finding in
    rw c.in-Term.is finding_of

pub returns-in-MessageReference-clause-finding : goal.returns-in-MessageReference-clause-finding
returns-in-MessageReference-clause-finding c =
    let finding_of = rw c.message_name-in-MessageReference.ensures at c.undefined_entry.ensures in
    rw c.in-MessageReference.is finding_of

pub returns-in-TermReference-clause-finding : goal.returns-in-TermReference-clause-finding
returns-in-TermReference-clause-finding c =
    let finding_of = rw c.term_name-in-TermReference.ensures at c.undefined_entry-in-TermReference.ensures in
    rw c.in-TermReference.is finding_of
