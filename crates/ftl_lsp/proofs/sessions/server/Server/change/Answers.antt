use Rattle.std.proofs.Common.{List, Some, ap, refl, sym, map, ◌∙◌}
use Rattle.std.specs.Prelude.{option_and_then, option_map}
use Rattle.std.proofs.lemmas.Result.{IfOk-weaker}
use Rattle.serde_json.specs.View.{items_view, view}
use Rattle.serde_json.specs.declared.value.Value.{Value}
use Rattle.ftl_lsp.specs.Edits.{edit_of, edits_in}
use Rattle.ftl_lsp.specs.OpenDocuments.{texts}
use Rattle.ftl_lsp.specs.Replies.{silence, sends_none}
use Rattle.ftl_lsp.specs.Sessions.{passes, session_of}
use Rattle.ftl_lsp.specs.declared.documents.changes.Change.{Change}
use Rattle.ftl_lsp.specs.declared.sessions.methods.Method.TheVariants.{DidChange}
use Rattle.ftl_lsp.proofs.SessionLemmas.{edits_of_changes_are_read, named_document_is_open, unnamed_is_closed}
use Rattle.ftl_lsp.proofs.SessionLemmas.{change_is_answered_by_diagnostics}
use Rattle.ftl_lsp.proofs.SessionLemmas.{changing_needs_open, change_without_edits_concerns_nothing}
use Rattle.ftl_lsp.proofs.sessions.server.Server.change.Goals as goal

pub returns-in_default-clause-follows : goal.returns-in_default-clause-follows
returns-in_default-clause-follows c =
    let old = texts c.args.self.now.documents in
    let d = view c.args.message.now in (
      silence,
      sends_none,
      passes (Some DidChange) old (changing_needs_open old d (unnamed_is_closed old d (sym c.in_default.ensures))) refl,
    )

pub returns-in_default-changes_in-clause-follows : goal.returns-in_default-changes_in-clause-follows
returns-in_default-changes_in-clause-follows c =
    let old = texts c.args.self.now.documents in
    let d = view c.args.message.now in (
      silence,
      sends_none,
      passes (Some DidChange) old
          (change_without_edits_concerns_nothing old d
          (ap (option_and_then edits_in) (sym c.in_default-changes_in.ensures))) refl,
    )

pub returns-then-not-contains-clause-follows : goal.returns-then-not-contains-clause-follows
returns-then-not-contains-clause-follows c =
    let old = texts c.args.self.now.documents in
    let d = view c.args.message.now in
    let named = named_document_is_open old d c.in-Some.uri.now (sym c.in-Some.ensures) in (
      silence,
      sends_none,
      passes (Some DidChange) old (changing_needs_open old d (named ∙ sym c.if-not-contains.ensures)) refl,
    )

pub returns-in_default-2-clause-follows : goal.returns-in_default-2-clause-follows
returns-in_default-2-clause-follows c =
    let old = texts c.args.self.now.documents in
    let d = view c.args.message.now in
    let values = c.in-Some-changes_in.values.now.items in
    let none = sym (ap (option_map (λ changes. map edit_of changes.items)) c.in_default-2.is)
    ∙ c.in_ok-changes.ensures in (
      silence,
      sends_none,
      passes (Some DidChange) old
          (change_without_edits_concerns_nothing old d
          (edits_of_changes_are_read d c.deref.result.now values _ (sym c.in-Some-changes_in.ensures)
          c.deref.ensures.value none))
          refl,
    )

pub returns-clause-phase : goal.returns-clause-phase
returns-clause-phase c = IfOk-weaker c.publish.result _ _ (λ sent e. ap (λ s. s.phase) e) c.publish.ensures.same

pub returns-clause-follows : goal.returns-clause-follows
returns-clause-follows c =
    let values = c.in-Some-changes_in.values.now.items in
    let is_read = ap (λ (vs : List Value). edits_in (items_view vs)) (sym c.deref.ensures.value)
    ∙ sym c.in_ok-changes.ensures ∙ ap (option_map (λ changes. map edit_of changes.items)) c.in-Some-2.is
    ∙ ap (λ (cs : List Change). Some (map edit_of cs)) (sym c.deref-2.ensures.value) in
    change_is_answered_by_diagnostics c.publish.result (view c.args.message.now) c.in-Some.uri.now (items_view values)
    (map edit_of c.deref-2.result.now) c.version_of.result c.in_ok-change.field-0 (session_of c.args.self.now)
    (record { phase = c.args.self.now.phase; texts = texts c.change.new.self }) (session_of c.publish.new.self)
    (sym c.in-Some.ensures) (sym c.in-Some-changes_in.ensures) is_read c.version_of.ensures
    (sym c.if-not-contains.ensures) c.in_ok-change.ensures c.publish.ensures.same c.publish.ensures.sent
