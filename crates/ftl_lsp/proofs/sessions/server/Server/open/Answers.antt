use Rattle.std.proofs.Common.{ap, refl, sym}
use Rattle.std.proofs.Common.{Some}
use Rattle.std.proofs.lemmas.Result.{IfOk-weaker}
use Rattle.serde_json.specs.View.{view}
use Rattle.ftl_lsp.specs.OpenDocuments.{texts}
use Rattle.ftl_lsp.specs.Replies.{silence, sends_none}
use Rattle.ftl_lsp.specs.Sessions.{passes, session_of}
use Rattle.ftl_lsp.specs.declared.sessions.methods.Method.TheVariants.{DidOpen}
use Rattle.ftl_lsp.proofs.SessionLemmas.{opening_without_name_concerns_nothing, opening_without_text_concerns_nothing}
use Rattle.ftl_lsp.proofs.SessionLemmas.{opened_text_is_published}
use Rattle.ftl_lsp.proofs.sessions.server.Server.open.Goals as goal

pub returns-in_default-clause-follows : goal.returns-in_default-clause-follows
returns-in_default-clause-follows c =
    let old = texts c.args.self.now.documents in (
      silence,
      sends_none,
      passes (Some DidOpen) old (opening_without_name_concerns_nothing old _ (sym c.in_default.ensures)) refl,
    )

pub returns-in_default-opened_text-clause-follows : goal.returns-in_default-opened_text-clause-follows
returns-in_default-opened_text-clause-follows c =
    let old = texts c.args.self.now.documents in (
      silence,
      sends_none,
      passes (Some DidOpen) old
          (opening_without_text_concerns_nothing old _ c.in-Some.uri.now (sym c.in-Some.ensures)
          (sym c.in_default-opened_text.ensures)) refl,
    )

pub returns-clause-phase : goal.returns-clause-phase
returns-clause-phase c = IfOk-weaker c.publish.result _ _ (λ sent e. ap (λ s. s.phase) e) c.publish.ensures.same

pub returns-clause-follows : goal.returns-clause-follows
returns-clause-follows c =
    opened_text_is_published c.publish.result (view c.args.message.now) c.in-Some.uri.now c.in-Some-opened_text.text.now
    c.version_of.result (session_of c.args.self.now)
    (record { phase = c.args.self.now.phase; texts = texts c.open.new.self }) (session_of c.publish.new.self)
    (sym c.in-Some.ensures) (sym c.in-Some-opened_text.ensures) c.version_of.ensures c.in_ok-open.ensures
    c.publish.ensures.same c.publish.ensures.sent
