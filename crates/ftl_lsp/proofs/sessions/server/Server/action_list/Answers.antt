use Rattle.ftl_lsp.specs.Actions.{IsAction}
use Rattle.ftl_lsp.specs.OpenDocuments.{open_text}
use Rattle.ftl_lsp.proofs.ActionLemmas.{All-appended_values}
use Rattle.ftl_lsp.proofs.sessions.server.Server.action_list.Goals as goal

pub returns : goal.returns
returns c =
    let is_action = IsAction c.args.uri.now (open_text c.args.open.now) in
    All-appended_values is_action _ _ _ c.in_ok-append-2.ensures.items
    (All-appended_values is_action _ _ _ c.in_ok-append.ensures.items c.in_ok-list.ensures c.in_ok-additions.ensures)
    c.in_ok-removals.ensures
