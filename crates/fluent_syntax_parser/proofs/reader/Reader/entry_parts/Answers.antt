use Rattle.std.proofs.Common.{sym}
use Rattle.std.proofs.lemmas.Result.{err_from_is_err_and}
use Rattle.fluent_syntax_grammar.specs.Grammar.{within}
use Rattle.fluent_syntax_parser.proofs.entry_forms.EntryForms.{entry_fails_where_message_fails}
use Rattle.fluent_syntax_parser.proofs.entry_forms.EntryForms.{entry_without_mark_is_message}
use Rattle.fluent_syntax_parser.proofs.entry_forms.EntryForms.{entry_fails_where_term_fails}
use Rattle.fluent_syntax_parser.proofs.entry_forms.EntryForms.{term_at_hyphen_is_entry}
use Rattle.fluent_syntax_parser.proofs.reader.Reader.entry_parts.Goals as goal

pub returns-in_err-ranges : goal.returns-in_err-ranges
returns-in_err-ranges g c =
    let p = err_from_is_err_and c.from_residual.result c.from_residual.ensures.1 in
    rw (p.1, p.2)
    (entry_fails_where_term_fails c.args.self.now.edition c.args.self.now.source.bytes.now _ _
    (sym c.if-is_byte_at.ensures)
    (sym c.if-is_byte_at-2.ensures) c.in_err-ranges.ensures)

pub returns-in_err-ranges-2 : goal.returns-in_err-ranges-2
returns-in_err-ranges-2 g c =
    let p = err_from_is_err_and c.from_residual-in_err-ranges-2.result c.from_residual-in_err-ranges-2.ensures.1 in
    rw (p.1, p.2)
    (entry_fails_where_message_fails c.args.self.now.edition c.args.self.now.source.bytes.now _ _
    (sym c.if-is_byte_at.ensures)
    (sym c.if-is_byte_at-2.ensures) c.in_err-ranges-2.ensures)

pub returns-in_ok-ranges : goal.returns-in_ok-ranges
returns-in_ok-ranges g c =
    let t = c.args.self.now.source.bytes.now in
    let edition = c.args.self.now.edition in
    let (tree, end, read, parts) = c.in_ok-ranges.ensures in
    record {
      tree = tree;
      end = end;
      read =
          term_at_hyphen_is_entry edition t (within edition t c.args.nesting) _ _ (sym c.if-is_byte_at.ensures)
          (sym c.if-is_byte_at-2.ensures) read;
      parts = parts;
    }

pub returns-in_ok-ranges-2 : goal.returns-in_ok-ranges-2
returns-in_ok-ranges-2 g c =
    let t = c.args.self.now.source.bytes.now in
    let edition = c.args.self.now.edition in
    let (tree, end, read, parts) = c.in_ok-ranges-2.ensures in
    record {
      tree = tree;
      end = end;
      read =
          entry_without_mark_is_message edition t (within edition t c.args.nesting) _ _ (sym c.if-is_byte_at.ensures)
          (sym c.if-is_byte_at-2.ensures) read;
      parts = parts;
    }
