use Rattle.std.proofs.Common.{◌≡◌, ◌⊎◌, ◌++◌, ◌+◌, ◌-◌, ◌≤◌, ◌∙◌, OnOk, ap, arith, drop, inl, inr}
use Rattle.std.proofs.Common.{⊎_elim, length, string_bytes, subst, sym, take}
use Rattle.std.proofs.lemmas.Bool.{cases_lt}
use Rattle.ftl_project.specs.Excerpt.{excerpt}
use Rattle.ftl_project.proofs.Windows.{floor_is_near, excerpt_near_place_is_same}
use Rattle.ftl_project.proofs.reporting.excerpt.push_cut_line.Goals as goal

pub returns : goal.returns
returns c =
    let t = c.args.text.now in
    let cut = c.args.cut in
    let start = c.floor_char_boundary-start.result in
    let end = c.floor_char_boundary-end.result in
    let last = c.saturating_add.result in
    let starts = c.floor_char_boundary-start.ensures in
    let ends = c.floor_char_boundary-end.ensures in
    let ahead : start ≤ cut = omega arith in
    let after : cut ≤ end =
    ⊎_elim (λ less. absurd (ends.nearest cut less (omega arith) c.requires)) (λ more. more) (cases_lt end cut) in
    let before : (start ≡ 0) ⊎ (start + 408 ≤ cut) =
    ⊎_elim (λ less. inl (omega arith)) (λ more. inr (omega arith)) (cases_lt cut 408) in
    let beyond : (end ≡ length t) ⊎ (cut + 405 ≤ end) =
    ⊎_elim (λ inside.
    let near = floor_is_near t last end c.utf8.text (omega arith) ends.bound ends.boundary ends.nearest in
    inr (omega arith))
    (λ outside.
    ⊎_elim (λ less. absurd (ends.nearest (length t) less outside (omega arith, λ below. absurd (omega arith))))
    (λ more. inl (omega (arith, ends.boundary.0))) (cases_lt end (length t)))
    (cases_lt last (length t)) in
    let near : c.range.result.now ≡ take (end - start) (drop start t) = c.range.ensures.value in
    let same : excerpt c.args.caret.now c.range.result.now (cut - start) ≡ excerpt c.args.caret.now t cut =
    ap (λ n. excerpt c.args.caret.now n (cut - start)) near
    ∙ sym (excerpt_near_place_is_same c.args.caret.now t start cut end c.utf8.text starts.boundary c.requires
    ends.boundary ahead
    after before beyond) in
    subst (λ e. OnOk c.push_line.result (string_bytes c.push_line.new.out ≡ string_bytes c.args.out.now ++ e)) same
    c.push_line.ensures
