use Rattle.std.proofs.Common.{◌∙◌, subst, sym}
use Rattle.std.specs.Prelude.{IsTrue, string_bytes}
use Rattle.fluent_syntax_edits.specs.Changes.{change_of, tree_after}
use Rattle.fluent_syntax_edits.specs.Errors.{moved_fault}
use Rattle.fluent_syntax_edits.proofs.Compared.{compared}
use Rattle.fluent_syntax_edits.proofs.reading.reads_changed.Goals as goal
use Rattle.fluent_syntax_edits.proofs.reading.reads_changed.Goals.{else-same_texts, then-same_texts}

pub returns : goal.returns
returns c =
    let old = rw c.in_ok-source.ensures.ok at c.in_ok-tree.ensures in
    let compared =
    compared c.args.edition c.args.source.now (string_bytes c.args.made.now)
    (tree_after (change_of c.args.edit.now) c.args.index) (moved_fault c.args.shift.replaced c.args.shift.to)
    c.in_ok-tree.tree c.in_ok-new_tree.new_tree c.in_ok-tree.errors.items
    c.in_ok-new_tree.new_errors.items old c.in_ok-new_tree.ensures in
    let applied = rw c.in_ok-copied.ensures at c.in_ok-apply.ensures in
    elim c.if-same_texts.branch [
      | then-same_texts w ↦
          (let same = c.same_texts.ensures.0 w.if-same_texts.true in
          let moved =
          rw (w.deref.ensures.value, w.deref-then-same_texts.ensures.value) at w.are_moved.ensures in (
            (λ so. compared.0 (sym same ∙ applied, moved.0 (subst IsTrue w.result-is so))),
            (λ x. subst IsTrue (sym w.result-is) (moved.1 (compared.1 x).1)),
          ))
      | else-same_texts w ↦ (
        (λ so. cc),
        (λ x. let so = c.same_texts.ensures.1 (applied ∙ sym (compared.1 x).0) in cc),
      )
    ]
