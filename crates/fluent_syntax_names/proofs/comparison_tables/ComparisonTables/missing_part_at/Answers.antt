use Rattle.fluent_syntax_names.proofs.comparison_tables.ComparisonTables.missing_part_at.Goals as goal

pub returns-in-Message : goal.returns-in-Message
returns-in-Message c =
    let missing = rw c.message_name.ensures at c.missing_entry.ensures in
    rw c.in-Message.is missing

pub returns-in-Term : goal.returns-in-Term
returns-in-Term c =
    let missing = rw c.term_name.ensures at c.missing_entry-in-Term.ensures in
    rw c.in-Term.is missing

pub returns-in-MessageReference : goal.returns-in-MessageReference
returns-in-MessageReference c =
    let missing = rw c.message_name-in-MessageReference.ensures at c.missing_reference.ensures in
    rw c.in-MessageReference.is missing

pub returns-in-TermReference : goal.returns-in-TermReference
returns-in-TermReference c =
    let missing = rw c.term_name-in-TermReference.ensures at c.missing_reference-in-TermReference.ensures in
    rw c.in-TermReference.is missing
