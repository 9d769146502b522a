use Rattle.std.proofs.Common.{ap, refl}
use Rattle.std.specs.Prelude.{option_map}
use Rattle.serde_json.specs.View.{view}
use Rattle.ftl_lsp.specs.Served.{has_no_memory}
use Rattle.ftl_lsp.specs.Sessions.{session_of}
use Rattle.ftl_lsp.proofs.ServedLemmas.{reply_is_unsent}
use Rattle.ftl_lsp.proofs.sessions.answer.Goals as goal

pub returns-in-Ok-Some-clause-unsent : goal.returns-in-Ok-Some-clause-unsent
returns-in-Ok-Some-clause-unsent g c =
    reply_is_unsent c.send.result (session_of c.args.server.now) (session_of c.take.new.self) c.args.body.now
    (option_map view c.in-Ok-Some.field-0) (view c.in-Ok-Some.reply) (g.W.Write.contents c.args.writer.now)
    (g.W.Write.contents c.send.new.writer)
    c.in-Ok-Some.ensures (ap (option_map view) c.in-Ok-Some.field-0-is)
    c.send.ensures.fault (λ is. ap g.W.Write.contents (c.send.ensures.unwritten is))

pub returns-in-Err-clause-unsent : goal.returns-in-Err-clause-unsent
returns-in-Err-clause-unsent g c = has_no_memory _ refl
