use Rattle.std.proofs.Common.{◌∙◌, map, refl, string_bytes, sym}
use Rattle.fluent_syntax_edits.specs.SeveralEdits.{moved_by, numbered_change, tree_after_all}
use Rattle.fluent_syntax_edits.proofs.Compared.{compared, test_of_same_fact}
use Rattle.fluent_syntax_edits.proofs.several_edits.reads_all_changed.Goals as goal

pub returns-then-same_texts : goal.returns-then-same_texts
returns-then-same_texts c =
    let cs = map numbered_change c.args.edits.now in
    let d = c.args.draft.now in
    let old = rw c.in_ok-source.ensures.ok at c.in_ok-tree.ensures in
    let compared =
    compared c.args.edition c.args.source.now (string_bytes d.text) (tree_after_all cs)
    (moved_by 0 0 d.replacements.items) c.in_ok-tree.tree c.in_ok-new_tree.new_tree c.in_ok-tree.errors.items
    c.in_ok-new_tree.new_errors.items old c.in_ok-new_tree.ensures in
    let same = sym (c.if-same_texts.ensures.0 refl) ∙ c.in_ok-apply_all.ensures in
    let moved =
    rw (c.deref.ensures.value, c.deref-then-same_texts.ensures.value, c.deref-then-same_texts-2.ensures.value)
    at c.are_moved_by.ensures in
    test_of_same_fact c.are_moved_by.result _ _ (λ m. compared.0 (same, m)) (λ x. (compared.1 x).1) moved

pub returns : goal.returns
returns c =
    let cs = map numbered_change c.args.edits.now in
    let d = c.args.draft.now in
    let old = rw c.in_ok-source.ensures.ok at c.in_ok-tree.ensures in
    let compared =
    compared c.args.edition c.args.source.now (string_bytes d.text) (tree_after_all cs)
    (moved_by 0 0 d.replacements.items) c.in_ok-tree.tree c.in_ok-new_tree.new_tree c.in_ok-tree.errors.items
    c.in_ok-new_tree.new_errors.items old c.in_ok-new_tree.ensures in (
      (λ so. cc),
      (λ x. c.if-same_texts.ensures.1 (c.in_ok-apply_all.ensures ∙ sym (compared.1 x).0)),
    )
