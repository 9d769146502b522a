use Rattle.std.proofs.Common.{◌∙◌, append_assoc}
use Rattle.std.proofs.lemmas.Result.{IfOk-weaker}
use Rattle.fluent_syntax_names.proofs.differences.Difference.sentence.Goals as goal

pub returns-in-MissingAttribute : goal.returns-in-MissingAttribute
returns-in-MissingAttribute c =
    IfOk-weaker c.format-in-MissingAttribute.result _ _ (λ said is. is ∙ simp (append_assoc, c.in-MissingAttribute.is))
    c.format-in-MissingAttribute.ensures.ok

pub returns-in-MissingReference : goal.returns-in-MissingReference
returns-in-MissingReference c =
    IfOk-weaker c.format-in-MissingReference.result _ _ (λ said is. is ∙ simp (append_assoc, c.in-MissingReference.is))
    c.format-in-MissingReference.ensures.ok

pub returns-in-ObsoleteAttribute : goal.returns-in-ObsoleteAttribute
returns-in-ObsoleteAttribute c =
    IfOk-weaker c.format-in-ObsoleteAttribute.result _ _
    (λ said is. is ∙ simp (append_assoc, c.in-ObsoleteAttribute.is)) c.format-in-ObsoleteAttribute.ensures.ok

pub returns-in-ObsoleteReference : goal.returns-in-ObsoleteReference
returns-in-ObsoleteReference c =
    IfOk-weaker c.format-in-ObsoleteReference.result _ _
    (λ said is. is ∙ simp (append_assoc, c.in-ObsoleteReference.is)) c.format-in-ObsoleteReference.ensures.ok
