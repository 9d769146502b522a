use Rattle.std.proofs.Common.{◌∙◌, List, All, ap, map, string_bytes, subst, sym}
use Rattle.std.proofs.lemmas.List.{map-append}
use Rattle.std.proofs.lemmas.List.Elements.{All-push}
use Rattle.fluent_syntax_edits.specs.Additions.{IsTreeAddition}
use Rattle.fluent_syntax_edits.specs.SeveralEdits.{numbered_change}
use Rattle.fluent_syntax_tree.specs.View.{resource_view}
use Rattle.fluent_syntax_edits.proofs.missing_entries.tree_additions.Goals as goal

pub loop-group-preserved-in-Continue-branch-4 : goal.loop-group-preserved-in-Continue-branch-4
loop-group-preserved-in-Continue-branch-4 c =
    let view = resource_view (λ s. string_bytes s) in
    let is_addition = IsTreeAddition (view c.args.reference.now) (view c.args.tree.now) in
    subst (λ edits. All is_addition (map numbered_change edits)) (sym c.in_ok-push.ensures.items)
    (subst (All is_addition) (sym (map-append numbered_change _ _))
    (All-push is_addition _ _ c.loop-group.invariant (rw c.in-Some-2.is at c.in_ok-edit.ensures)))
