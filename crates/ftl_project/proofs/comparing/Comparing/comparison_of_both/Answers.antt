use Rattle.std.proofs.Common.{string_bytes, subst}
use Rattle.std.proofs.lemmas.Result.{IfOk-weaker}
use Rattle.ftl_project.proofs.Comparisons.{comparison_of_both, IsRead-as}
use Rattle.ftl_project.specs.Faults.{IsRead}
use Rattle.ftl_project.proofs.comparing.Comparing.comparison_of_both.Goals as goal

pub returns-clause-compared : goal.returns-clause-compared
returns-clause-compared g c =
    let self = c.args.self.now in
    let at = g.S.Store.bytes_at c.args.store.now in
    let pair = c.args.pair.now in
    let text = c.as_str-3.result.now in
    let more = c.as_str-4.result.now in
    let read = IsRead-as at c.as_str.result.now (string_bytes pair.reference) text
    (string_bytes c.in_ok-reference.reference) c.as_str.ensures.value c.as_str-3.ensures.value
    c.in_ok-reference.ensures.text in
    let in_place = subst (λ bytes. IsRead bytes (string_bytes c.in_ok-other.other))
    (c.side_text.ensures.untouched c.as_str-2.result.now) c.in_ok-other.ensures.text in
    let other = IsRead-as at c.as_str-2.result.now (string_bytes pair.other) more
    (string_bytes c.in_ok-other.other) c.as_str-2.ensures.value c.as_str-4.ensures.value in_place in
    IfOk-weaker c.comparison_of_texts.result _ _
    (λ compared that. comparison_of_both g.S.Store.fails self.reading self.options at pair text more
    compared.errors compared.warnings compared.share (string_bytes compared.report_text) read other that)
    c.comparison_of_texts.ensures.compared
