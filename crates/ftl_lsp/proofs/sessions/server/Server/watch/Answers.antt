use Rattle.std.proofs.Common.{inl, inr}
use Rattle.ftl_lsp.specs.Replies.{sends_none, sends_watch, watch}
use Rattle.ftl_lsp.proofs.SessionLemmas.{equal_value_is_sent}
use Rattle.ftl_lsp.proofs.sessions.server.Server.watch.Goals as goal

pub returns-then-wants_watch : goal.returns-then-wants_watch
returns-then-wants_watch c = inl (equal_value_is_sent watch _ _ c.in_ok-register_request.ensures (sends_watch _))

pub returns : goal.returns
returns c = inr sends_none
