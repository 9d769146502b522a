use Rattle.std.proofs.Common.{sym, subst}
use Rattle.std.specs.Prelude.{OnOk}
use Rattle.fluent_syntax_tree.specs.declared.spans.Span.{Span}
use Rattle.fluent_syntax_names.specs.MessageReferences.{refers}
use Rattle.fluent_syntax_names.specs.Rows.{AddsReferences}
use Rattle.fluent_syntax_names.specs.declared.mention.Mention.{Mention}
use Rattle.fluent_syntax_names.proofs.message_references.MessageReferences.add_mention.Goals as goal

pub returns-in-MessageReference : goal.returns-in-MessageReference
returns-in-MessageReference c =
    let adds_references = λ (m : Mention Span).
    OnOk c.add_reference.result
    (AddsReferences c.args.self.now c.add_reference.new.self (refers c.args.text.now c.args.owner m)) in
    subst adds_references (sym c.in-MessageReference.is) c.add_reference.ensures
