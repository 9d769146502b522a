use Rattle.std.proofs.Common.{IfOk, subst}
use Rattle.std.specs.Prelude.{option_map}
use Rattle.serde_json.specs.Data.{Data}
use Rattle.serde_json.specs.View.{view}
use Rattle.ftl_lsp.specs.Replies.{IsSent, refused}
use Rattle.ftl_lsp.proofs.sessions.server.Server.refuse_unnamed.Goals as goal

pub returns : goal.returns
returns c =
    subst (λ (id : Data). IfOk c.refuse.result (λ sent. IsSent (refused id c.args.code) (option_map view sent)))
    c.null.ensures c.refuse.ensures
