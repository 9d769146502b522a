use Rattle.std.proofs.Common.{map, refl, subst, sym}
use Rattle.std.proofs.lemmas.Result.{err_from_is_err_and}
use Rattle.std.specs.Prelude.{IsTrue}
use Rattle.fluent_syntax_edits.specs.SeveralEdits.{ReadsAllChanged, made, numbered_change, read_otherwise}
use Rattle.fluent_syntax_edits.proofs.Refused.{fault_of_draft_is_refusal}
use Rattle.fluent_syntax_edits.proofs.several_edits.edited.Goals as goal

pub returns-in_err-draft : goal.returns-in_err-draft
returns-in_err-draft c =
    let p = err_from_is_err_and c.from_residual.result c.from_residual.ensures.1 in
    rw (p.1, p.2)
    (fault_of_draft_is_refusal c.args.edition c.args.source.now (map numbered_change c.args.edits.now) _
    c.in_err-draft.ensures)

pub returns-then-branch : goal.returns-then-branch
returns-then-branch c =
    let cs = map numbered_change c.args.edits.now in
    let rs = c.in_ok-draft.draft.replacements.items in
    let (replaces, text) = c.in_ok-draft.ensures in
    let reads = c.in_ok-reads_all_changed.ensures.0 (subst IsTrue (sym c.if-branch.true) refl) in
    (made replaces (subst (ReadsAllChanged c.args.edition c.args.source.now cs rs) text reads), text)

pub returns-in_ok-first_refusal : goal.returns-in_ok-first_refusal
returns-in_ok-first_refusal c =
    let cs = map numbered_change c.args.edits.now in
    let rs = c.in_ok-draft.draft.replacements.items in
    let (replaces, text) = c.in_ok-draft.ensures in
    rw c.in_ok-first_refusal.ensures
    (read_otherwise rs replaces
    (λ x.
    let so : IsTrue c.in_ok-reads_all_changed.field-0 =
    c.in_ok-reads_all_changed.ensures.1
    (subst (ReadsAllChanged c.args.edition c.args.source.now cs rs) (sym text) x) in
    cc))
