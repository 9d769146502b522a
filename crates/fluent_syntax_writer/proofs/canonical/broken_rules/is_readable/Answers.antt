use Rattle.std.proofs.Common.{ap, ◌∙◌}
use Rattle.std.specs.Prelude.{is_none}
use Rattle.fluent_syntax_tree.specs.View.{entry_view}
use Rattle.fluent_syntax_writer.proofs.rules.EveryRule.{readable}
use Rattle.fluent_syntax_writer.proofs.rules.FirstBroken.{answer_is_whether_none_is_found, set_finds_first}
use Rattle.fluent_syntax_writer.proofs.rules.FirstBroken.{no_readable_rule_broken}
use Rattle.fluent_syntax_writer.proofs.canonical.broken_rules.is_readable.Goals as goal

pub returns : goal.returns
returns g c =
    let edition = c.args.check.edition in
    let entry = entry_view g.T.ReadTexts.text c.args.entry.now in
    let broken = c.entry_breaks-broken in
    answer_is_whether_none_is_found c.first_of.result c.is_none.result c.is_none.ensures
    ∙ ap is_none (c.first_of.ensures ∙ set_finds_first edition entry broken.result broken.ensures readable)
    ∙ no_readable_rule_broken edition entry
