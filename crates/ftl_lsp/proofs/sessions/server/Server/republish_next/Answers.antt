use Rattle.ftl_lsp.specs.Sessions.{session_of}
use Rattle.ftl_lsp.proofs.SessionLemmas.{published_text_is_republished}
use Rattle.ftl_lsp.proofs.sessions.server.Server.republish_next.Goals as goal

pub returns-in-Some-clause-diagnostics : goal.returns-in-Some-clause-diagnostics
returns-in-Some-clause-diagnostics c =
    published_text_is_republished c.publish.result (session_of c.args.self.now) _ c.in-Running.is c.publish.ensures.sent
