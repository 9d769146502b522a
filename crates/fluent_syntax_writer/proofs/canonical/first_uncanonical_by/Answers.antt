use Rattle.std.proofs.Common.{◌≡◌, ap, ◌∙◌, rules}
use Rattle.std.specs.Prelude.{is_none}
use Rattle.fluent_syntax_tree.specs.View.{resource_view}
use Rattle.fluent_syntax_writer.specs.Uncanonical.{first_uncanonical}
use Rattle.fluent_syntax_writer.proofs.rules.FirstBroken.{no_entry_is_uncanonical_when_canonical, first_is_broken}
use Rattle.fluent_syntax_writer.proofs.canonical.first_uncanonical_by.Goals as goal

pub returns-clause-none : goal.returns-clause-none
returns-clause-none g c =
    let tree = resource_view g.S.Slice.text c.args.tree.now in
    let exact : c.first_uncanonical.result ≡ first_uncanonical c.args.check.edition tree = search rules in
    ap is_none exact ∙ no_entry_is_uncanonical_when_canonical c.args.check.edition tree

pub returns-clause-first : goal.returns-clause-first
returns-clause-first g c =
    let tree = resource_view g.S.Slice.text c.args.tree.now in
    let exact : c.first_uncanonical.result ≡ first_uncanonical c.args.check.edition tree = search rules in
    first_is_broken c.args.check.edition tree c.first_uncanonical.result exact
