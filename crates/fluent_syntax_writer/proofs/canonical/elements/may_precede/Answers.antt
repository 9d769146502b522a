use Rattle.std.proofs.Common.{sym, ap, not, ◌∙◌}
use Rattle.fluent_syntax_tree.specs.View.{element_view}
use Rattle.fluent_syntax_writer.proofs.rules.Positions.{may_precede-before}
use Rattle.fluent_syntax_writer.proofs.canonical.elements.may_precede.Goals as goal

pub returns-then-not-is_empty : goal.returns-then-not-is_empty
returns-then-not-is_empty g c =
    let some = sym c.is_empty.ensures ∙ c.if-not-is_empty.true in
    ap not c.if-not-is_empty.true
    ∙ may_precede-before (element_view g.T.ReadTexts.text) c.args.text.now c.args.rest.now some
