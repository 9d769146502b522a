use Rattle.std.proofs.Common.{sym, ap, ◌∙◌, ◌++◌, map-id, string_bytes}
use Rattle.std.specs.List.{flat_map}
use Rattle.std.proofs.lemmas.Iterator.{YieldsList-from_chars, YieldsList-from_take}
use Rattle.std.proofs.lemmas.Iterator.Adapters.{YieldsList-from_skip}
use Rattle.std.proofs.lemmas.Iterator.Consumers.{YieldsList-end}
use Rattle.ftl_project.specs.Excerpt.{shown_char, window}
use Rattle.ftl_project.proofs.reporting.terminal_text.push_shown.Goals as goal

pub returns : goal.returns
returns c =
    let chars = YieldsList-from_chars c.args.text.now c.utf8.text cc in
    let part = YieldsList-from_take window (YieldsList-from_skip c.args.start chars cc) cc in
    let end = YieldsList-end part c.loop-c.yielded _ c.loop-c.yielded_by _ _ c.in-None.is c.next.ensures.steps in
    c.loop-c.invariant
    ∙ ap (λ cs. string_bytes c.args.out.now ++ flat_map shown_char cs) (sym (map-id c.loop-c.yielded) ∙ end.0)
