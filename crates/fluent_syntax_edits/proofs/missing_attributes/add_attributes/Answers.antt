use Rattle.std.proofs.Common.{◌≡◌, ◌∙◌, ◌∷◌, Some, ap, refl, string_bytes, sym}
use Rattle.std.proofs.lemmas.Slice.Eq.{bytes_eq-Decides}
use Rattle.fluent_syntax_tree.specs.Bytes.{hyphen}
use Rattle.fluent_syntax_tree.specs.Entry.{message, term}
use Rattle.fluent_syntax_tree.specs.View.{entry_view, message_view, term_view}
use Rattle.fluent_syntax_edits.proofs.Merging.{entry_is_merged_with_none, others_are_merged_where_ok}
use Rattle.fluent_syntax_edits.proofs.Merging.{same_entry_is_merged_where_ok}
use Rattle.fluent_syntax_edits.proofs.missing_attributes.add_attributes.Goals.{in_default-2, in_default-2-2}
use Rattle.fluent_syntax_edits.proofs.missing_attributes.add_attributes.Goals.{in_default-2-3, in_default-2-4}
use Rattle.fluent_syntax_edits.proofs.missing_attributes.add_attributes.Goals.{in_default-2-5}
use Rattle.fluent_syntax_edits.proofs.missing_attributes.add_attributes.Goals as goal

pub returns-in_default : goal.returns-in_default
returns-in_default c = λ theirs number there. entry_is_merged_with_none theirs _

pub returns-in-Message-Message : goal.returns-in-Message-Message
returns-in-Message-Message c =
    let arm = c.in-Message-Message in
    let same = sym ((bytes_eq-Decides _ _).0 (sym c.if-eq.ensures)) in
    rw (arm.is-0, arm.is-1)
    (others_are_merged_where_ok (message (message_view (λ s. string_bytes s) arm.own))
    (message (message_view (λ s. string_bytes s) arm.other)) _ c.merge.result _ refl (ap Some same) c.merge.ensures)

pub returns-in-Term-Term : goal.returns-in-Term-Term
returns-in-Term-Term c =
    let arm = c.in-Term-Term in
    let same = sym ((bytes_eq-Decides _ _).0 (sym c.if-eq-2.ensures)) in
    rw (arm.is-0, arm.is-1)
    (others_are_merged_where_ok (term (term_view (λ s. string_bytes s) arm.own))
    (term (term_view (λ s. string_bytes s) arm.other)) _ c.merge-in-Term-Term.result _ refl
    (ap (λ name. Some (hyphen ∷ name)) same)
    c.merge-in-Term-Term.ensures)

pub returns : goal.returns
returns c =
    let same : c.match-own.own ≡ c.args.own.now =
    elim c.match-own.branch [
      | in_default-2-4 w ↦ w.own-is ∙ sym w.in-Message-Message.is-0
      | in_default-2 w ↦ w.own-is ∙ sym w.in_default-2.is-0
      | in_default-2-5 w ↦ w.own-is ∙ sym w.in-Term-Term.is-0
      | in_default-2-2 w ↦ w.own-is ∙ sym w.in_default-2.is-0
      | in_default-2-3 w ↦ w.own-is
    ] in
    same_entry_is_merged_where_ok _ _ _ c.match-own.result (ap (entry_view (λ s. string_bytes s)) same)
