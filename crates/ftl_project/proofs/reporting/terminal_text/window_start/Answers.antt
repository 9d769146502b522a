use Rattle.std.proofs.Common.{◌-◌, ap, ◌∙◌}
use Rattle.std.proofs.lemmas.Iterator.{YieldsList-from_chars}
use Rattle.std.proofs.lemmas.Iterator.Consumers.{count_from_yields_List}
use Rattle.ftl_project.specs.Excerpt.{window}
use Rattle.ftl_project.proofs.reporting.terminal_text.window_start.Goals as goal

pub returns : goal.returns
returns c =
    let chars = YieldsList-from_chars c.args.front.now c.utf8.front cc in
    let count = count_from_yields_List c.chars.result _ c.count.ensures.ran chars in
    c.saturating_sub.ensures ∙ ap (λ n. n - window) count
