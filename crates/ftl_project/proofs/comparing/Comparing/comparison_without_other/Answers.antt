use Rattle.std.proofs.Common.{string_bytes}
use Rattle.std.proofs.lemmas.Result.{IfOk-weaker}
use Rattle.ftl_project.proofs.Comparisons.{comparison_without_other, IsRead-as}
use Rattle.ftl_project.proofs.comparing.Comparing.comparison_without_other.Goals as goal

pub returns-clause-compared : goal.returns-clause-compared
returns-clause-compared g c =
    let self = c.args.self.now in
    let at = g.S.Store.bytes_at c.args.store.now in
    let pair = c.args.pair.now in
    let text = c.as_str-2.result.now in
    let read = IsRead-as at c.as_str.result.now (string_bytes pair.reference) text
    (string_bytes c.in_ok-reference.reference) c.as_str.ensures.value c.as_str-2.ensures.value
    c.in_ok-reference.ensures.text in
    IfOk-weaker c.comparison_of_reference.result _ _
    (λ compared that. comparison_without_other g.S.Store.fails self.reading self.options at pair text
    compared.errors compared.warnings compared.share (string_bytes compared.report_text) read that)
    c.comparison_of_reference.ensures.compared
