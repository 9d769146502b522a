use Rattle.std.proofs.Common.{◌∙◌, subst, sym}
use Rattle.std.proofs.lemmas.Result.{IfOk-weaker}
use Rattle.std.proofs.lemmas.Slice.Eq.{bytes_eq-Decides}
use Rattle.ftl_lsp.specs.Formatting.{FormatsText, IsFormatted, formats, stays}
use Rattle.ftl_lsp.proofs.requests.formatting.formatting_edit.Goals as goal

pub returns-then-eq : goal.returns-then-eq
returns-then-eq c =
    let t = c.args.text.now in
    let same = (bytes_eq-Decides c.args.formatted.now t).0 (sym c.eq.ensures ∙ c.if-eq.true) in
    let (blank_lines, is) = c.requires in
    subst (FormatsText t) (sym c.null.ensures) (stays blank_lines (subst (IsFormatted blank_lines t) same is))

pub returns : goal.returns
returns c =
    let t = c.args.text.now in
    IfOk-weaker c.whole_edit.result _ _
    (λ value is. subst (FormatsText t) (sym is) (formats c.requires.0 c.args.formatted.now c.requires.1))
    c.whole_edit.ensures
