use Rattle.std.proofs.Common.{ap, sym, ◌∙◌}
use Rattle.fluent_syntax_c.specs.Arguments.{command_kind_number}
use Rattle.fluent_syntax_c.proofs.answers.command_bytes.Goals as goal

pub returns-in-Some-FromJson-clause-tree : goal.returns-in-Some-FromJson-clause-tree
returns-in-Some-FromJson-clause-tree c = λ e.
    let expected = c.in-Some-FromJson in
    (sym expected.ensures.some ∙ ap command_kind_number expected.field-0-is, c.from_json_bytes.ensures.tree e)

pub returns-in-Some-FromJson-clause-json : goal.returns-in-Some-FromJson-clause-json
returns-in-Some-FromJson-clause-json c = λ e known. c.from_json_bytes.ensures.json e
