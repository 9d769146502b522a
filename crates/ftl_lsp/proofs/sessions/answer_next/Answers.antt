use Rattle.std.proofs.Common.{List, refl, subst, ℕ}
use Rattle.std.proofs.lemmas.Result.{IfErr-weaker}
use Rattle.ftl_lsp.specs.Served.{IsUnsent, has_no_frame, is_unanswered}
use Rattle.ftl_lsp.specs.Sessions.{session_of}
use Rattle.ftl_lsp.proofs.sessions.answer_next.Goals as goal

pub returns-in-Ok-clause-stops : goal.returns-in-Ok-clause-stops
returns-in-Ok-clause-stops g c =
    IfErr-weaker c.answer.result _ _
    (λ ending is. is_unanswered ending _ _ c.in-Ok.body.items c.in-Ok.ensures.frame
    (subst
    (λ (body : List ℕ). IsUnsent (session_of c.args.server.now) body (g.W.Write.contents c.args.writer.now) ending
    (g.W.Write.contents c.answer.new.writer))
    c.as_slice.ensures.value is))
    c.answer.ensures.unsent

pub returns-in-Err-clause-stops : goal.returns-in-Err-clause-stops
returns-in-Err-clause-stops g c = has_no_frame c.in-Err.ending _ c.in-Err.ensures.ends refl
