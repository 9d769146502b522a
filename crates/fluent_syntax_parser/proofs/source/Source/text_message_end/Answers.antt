use Rattle.fluent_syntax_parser.proofs.entry_forms.AnyDepth.{message_with_attributes_is_at_any_depth}
use Rattle.fluent_syntax_parser.proofs.entry_forms.AnyDepth.{message_with_value_is_at_any_depth}
use Rattle.fluent_syntax_parser.proofs.source.Source.text_message_end.Goals as goal

pub returns-in-Some-clause-message : goal.returns-in-Some-clause-message
returns-in-Some-clause-message c =
    message_with_value_is_at_any_depth c.args.edition c.args.self.now.bytes.now _ _ _ _ _ c.in_ok-opening.ensures.opens
    c.in_ok-text.ensures.beyond c.in_ok-end.ensures.attributes _ (rw c.in-Some.is at c.in_ok-text.ensures.opens)

pub returns-then-end-line-clause-message : goal.returns-then-end-line-clause-message
returns-then-end-line-clause-message c =
    message_with_attributes_is_at_any_depth c.args.edition c.args.self.now.bytes.now _ _ _ _ _
    c.in_ok-opening.ensures.opens
    c.in_ok-text.ensures.beyond c.in_ok-end.ensures.attributes (rw c.in-None.is at c.in_ok-text.ensures.opens)
    c.if-end-line.true
