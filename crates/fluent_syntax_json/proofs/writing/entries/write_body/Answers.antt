use Rattle.std.proofs.Common.{sym, ◌∙◌, rules}
use Rattle.fluent_syntax_grammar.proofs.Bytes.{Appends-refused}
use Rattle.fluent_syntax_json.proofs.writing.entries.write_body.Goals as goal

pub returns-then-has_refused-clause-refused : goal.returns-then-has_refused-clause-refused
returns-then-has_refused-clause-refused g c =
    let not_yet = c.new-writer.ensures.not_refused in
    let refused = sym c.has_refused.ensures ∙ c.if-has_refused.true in
    Appends-refused c.write_resource.ensures.written not_yet refused (search rules) (search rules)
