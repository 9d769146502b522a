use Rattle.std.proofs.Common.{ap, ◌∙◌}
use Rattle.std.specs.Prelude.{is_none}
use Rattle.fluent_syntax_tree.specs.View.{entry_view}
use Rattle.fluent_syntax_writer.specs.SingleRule.{every_rule}
use Rattle.fluent_syntax_writer.proofs.rules.FirstBroken.{set_finds_first, no_rule_is_broken_where_all_are_obeyed}
use Rattle.fluent_syntax_writer.proofs.canonical.broken_rules.broken_rule.Goals as goal

pub returns-clause-exact : goal.returns-clause-exact
returns-clause-exact g c =
    let entry = entry_view g.T.ReadTexts.text c.args.entry.now in
    c.first_of.ensures
    ∙ set_finds_first c.args.check.edition entry c.entry_breaks.result c.entry_breaks.ensures every_rule

pub returns-clause-none : goal.returns-clause-none
returns-clause-none g c =
    ap is_none (returns-clause-exact g c)
    ∙ no_rule_is_broken_where_all_are_obeyed c.args.check.edition (entry_view g.T.ReadTexts.text c.args.entry.now)
