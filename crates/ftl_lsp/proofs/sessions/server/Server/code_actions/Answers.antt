use Rattle.std.proofs.Common.{map, subst, sym}
use Rattle.serde_json.specs.View.{view}
use Rattle.serde_json.proofs.Views.{view-Array}
use Rattle.ftl_lsp.specs.Actions.{AreActions, actions}
use Rattle.ftl_lsp.specs.OpenDocuments.{open_text, texts}
use Rattle.ftl_lsp.proofs.sessions.server.Server.code_actions.Goals as goal

pub returns-clause-actions : goal.returns-clause-actions
returns-clause-actions c =
    subst (AreActions (texts c.args.self.now.documents) (view c.args.message.now)) (sym (view-Array c.in_ok-list.list))
    (actions _ (open_text c.in-Some-get.open.now) (map view c.in_ok-list.list.items) (sym c.in-Some.ensures)
    (sym c.in-Some-get.ensures) c.in_ok-list.ensures)
