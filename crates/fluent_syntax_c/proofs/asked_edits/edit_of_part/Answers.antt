use Rattle.std.proofs.Common.{IfOk, None, refl, subst, sym, ◌∙◌, ◌≡◌}
use Rattle.fluent_syntax_tree.specs.View.{resource_view}
use Rattle.fluent_syntax_edits.specs.Changes.{Change}
use Rattle.fluent_syntax_edits.specs.SeveralEdits.{numbered_change}
use Rattle.fluent_syntax_c.specs.Edits.{Spells, attributes_at}
use Rattle.fluent_syntax_c.specs.SeveralEdits.{not_found, not_one_entry, part_has_errors}
use Rattle.fluent_syntax_c.proofs.PartChanges.{spelled_edit_is_asked_for}
use Rattle.fluent_syntax_c.proofs.PartsRead.{edit_place_is_by_tree}
use Rattle.fluent_syntax_c.proofs.asked_edits.edit_of_part.Goals as goal

pub returns-in-Some-Ok-clause-asked : goal.returns-in-Some-Ok-clause-asked
returns-in-Some-Ok-clause-asked c = λ by t p is part.
    let body = resource_view (λ text. text.now) c.args.source.now.tree in
    let (change, same, spells) =
    subst
    (λ r.
    IfOk r (λ edit. (x : Change) × (numbered_change edit ≡ record { number = c.in-Some.index; change = x })
    × Spells by c.args.action (attributes_at c.in-Some.index body) p x))
    c.in-Some-Ok.field-0-is (c.in-Some-Ok.ensures.some by p part) in
    spelled_edit_is_asked_for by t c.args.source.now is c.args.action c.args.name.now p c.place_of.result
    c.in-Some.index (numbered_change c.in-Some-Ok.edit) change c.place_of.ensures c.in-Some.is same spells

pub returns-in-Clean-clause-none : goal.returns-in-Clean-clause-none
returns-in-Clean-clause-none c = λ by t p read is.
    not_one_entry by refl (c.in-None-new_edit.ensures.none by p is)

pub returns-in-SyntaxErrors-clause-none : goal.returns-in-SyntaxErrors-clause-none
returns-in-SyntaxErrors-clause-none c = λ by t p read is.
    part_has_errors by is.tiles refl is.has_tiles (sym is.outcome_is ∙ c.in-SyntaxErrors.is)

pub returns-in-None-clause-none : goal.returns-in-None-clause-none
returns-in-None-clause-none c = λ by t p read is.
    not_found by read.tiles refl read.has_tiles
    (edit_place_is_by_tree by t c.args.source.now read c.args.action c.args.name.now c.place_of.result None
    c.place_of.ensures c.in-None.is)
