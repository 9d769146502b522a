use Rattle.fluent_syntax_grammar.specs.Grammar.{within}
use Rattle.std.proofs.Common.{sym}
use Rattle.fluent_syntax_tree.specs.Entry.{entry_map}
use Rattle.fluent_syntax_tree.specs.View.{entry_view}
use Rattle.fluent_syntax_parser.proofs.entry_forms.EntryForms.{entry_at_hash_fails_as_comment, comment_at_hash_is_entry}
use Rattle.fluent_syntax_parser.proofs.entry_forms.EntryForms.{entry_fails_where_message_fails}
use Rattle.fluent_syntax_parser.proofs.entry_forms.EntryForms.{entry_without_mark_is_message}
use Rattle.fluent_syntax_parser.proofs.entry_forms.EntryForms.{entry_that_adds_is_of_its_form}
use Rattle.fluent_syntax_parser.proofs.entry_forms.EntryForms.{entry_fails_where_term_fails}
use Rattle.fluent_syntax_parser.proofs.entry_forms.EntryForms.{term_at_hyphen_is_entry}
use Rattle.fluent_syntax_parser.proofs.reader.Reader.add_entry.Goals as goal

pub returns-then-is_byte_at-clause-adds : goal.returns-then-is_byte_at-clause-adds
returns-then-is_byte_at-clause-adds g c =
    let t = c.args.self.now.source.bytes.now in
    let edition = c.args.self.now.edition in
    let R = within edition t c.args.nesting in
    entry_that_adds_is_of_its_form (entry_map (g.M.MakeTexts.source c.args.self.now.texts.now))
    (entry_view g.M.MakeTexts.made)
    (λ o h. comment_at_hash_is_entry edition t R _ o (sym c.if-is_byte_at.ensures) h)
    (λ f h. entry_at_hash_fails_as_comment edition t R _ (sym c.if-is_byte_at.ensures) h) _ _ _
    c.add_comment.ensures.adds

pub returns-then-is_byte_at-2-clause-adds : goal.returns-then-is_byte_at-2-clause-adds
returns-then-is_byte_at-2-clause-adds g c =
    let t = c.args.self.now.source.bytes.now in
    let edition = c.args.self.now.edition in
    let R = within edition t c.args.nesting in
    entry_that_adds_is_of_its_form (entry_map (g.M.MakeTexts.source c.args.self.now.texts.now))
    (entry_view g.M.MakeTexts.made)
    (λ o h. term_at_hyphen_is_entry edition t R _ o (sym c.if-is_byte_at.ensures) (sym c.if-is_byte_at-2.ensures) h)
    (λ f h. entry_fails_where_term_fails edition t R _ (sym c.if-is_byte_at.ensures) (sym c.if-is_byte_at-2.ensures) h)
    _ _ _
    c.add_term.ensures.adds

pub returns-else-is_byte_at-2-clause-adds : goal.returns-else-is_byte_at-2-clause-adds
returns-else-is_byte_at-2-clause-adds g c =
    let t = c.args.self.now.source.bytes.now in
    let edition = c.args.self.now.edition in
    let R = within edition t c.args.nesting in
    entry_that_adds_is_of_its_form (entry_map (g.M.MakeTexts.source c.args.self.now.texts.now))
    (entry_view g.M.MakeTexts.made)
    (λ o h. entry_without_mark_is_message edition t R _ o (sym c.if-is_byte_at.ensures) (sym c.if-is_byte_at-2.ensures)
    h)
    (λ f h. entry_fails_where_message_fails edition t R _ (sym c.if-is_byte_at.ensures) (sym c.if-is_byte_at-2.ensures)
    h) _ _ _
    c.add_message.ensures.adds
