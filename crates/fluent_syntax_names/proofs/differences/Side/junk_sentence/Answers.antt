use Rattle.std.proofs.Common.{◌∙◌, append_assoc}
use Rattle.std.proofs.lemmas.Result.{IfOk-weaker}
use Rattle.fluent_syntax_names.proofs.differences.Side.junk_sentence.Goals as goal

pub returns-in-Reference : goal.returns-in-Reference
returns-in-Reference c =
    IfOk-weaker c.format.result _ _ (λ said is. is ∙ simp (append_assoc, c.in-Reference.is)) c.format.ensures.ok

pub returns-in-Other : goal.returns-in-Other
returns-in-Other c =
    IfOk-weaker c.format-in-Other.result _ _ (λ said is. is ∙ simp (append_assoc, c.in-Other.is))
    c.format-in-Other.ensures.ok
