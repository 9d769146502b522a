use Rattle.std.proofs.Common.{refl, sym, arith}
use Rattle.std.proofs.lemmas.Result.{err_from_is_err_and}
use Rattle.fluent_syntax_tree.specs.Entry.{group, regular, resource}
use Rattle.fluent_syntax_grammar.specs.Comments.{comment_of}
use Rattle.fluent_syntax_parser.proofs.entry_forms.CommentEntries.{comment_entry_is_made, level_of-other}
use Rattle.fluent_syntax_parser.proofs.readers.Fails.{peek_fails_where_seen_part_fails, memory_is_err}
use Rattle.fluent_syntax_parser.specs.Outcomes.{no_memory}
use Rattle.fluent_syntax_parser.proofs.reader.Reader.add_comment.Goals as goal
use Rattle.fluent_syntax_parser.proofs.reader.Reader.add_comment.Goals.{in-1, in-2, in_default}

pub returns-in_err-content-clause-adds : goal.returns-in_err-content-clause-adds
returns-in_err-content-clause-adds g c =
    let t = c.args.self.now.source.bytes.now in
    let p = err_from_is_err_and c.from_residual.result c.from_residual.ensures.1 in
    rw (p.1, p.2) (
      peek_fails_where_seen_part_fails (comment_of t) _ c.comment_level-level.ensures.level
          c.in_err-content.ensures.parses,
      refl,
    )

pub returns-in_err-add-clause-adds : goal.returns-in_err-add-clause-adds
returns-in_err-add-clause-adds g c =
    rw (memory_is_err c.from_residual-in_err-add.result c.from_residual-in_err-add.ensures.1)
    (no_memory, c.in_err-add.ensures.stays)

pub returns-clause-adds : goal.returns-clause-adds
returns-clause-adds g c =
    let count = c.comment_level-level.result in
    let hashed = sym c.comment_level-level.ensures.level in
    let named = comment_entry_is_made c.args.self.now.source.bytes.now c.args.ptr c.in_ok-content.end count _ hashed
    c.in_ok-content.ensures.parses in (
      _,
      c.in_ok-add.ensures.added,
      elim c.match-level.branch [
        | in-1 w ↦ rw w.entry-is (named regular (rw w.in-1.is refl))
        | in-2 w ↦ rw w.entry-is (named group (rw w.in-2.is refl))
        | in_default w ↦ rw w.entry-is (named resource (level_of-other count (λ e. omega arith) (λ e. omega arith)))
      ],
    )
