use Rattle.ftl_lsp.proofs.SessionLemmas.{equal_value_is_sent}
use Rattle.ftl_lsp.specs.Replies.{sends_refusal}
use Rattle.ftl_lsp.proofs.sessions.server.Server.refuse.Goals as goal

pub returns : goal.returns
returns c = equal_value_is_sent _ _ _ c.in_ok-refusal.ensures (sends_refusal _ _)
