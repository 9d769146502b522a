use Rattle.fluent_syntax_json.proofs.writing.entries.write_to.Goals as goal

pub returns-clause-taken : goal.returns-clause-taken
returns-clause-taken g c = rw (← c.deref.ensures.value) c.write_body.ensures.taken

pub returns-clause-refused : goal.returns-clause-refused
returns-clause-refused g c = rw (← c.deref.ensures.value) c.write_body.ensures.refused
