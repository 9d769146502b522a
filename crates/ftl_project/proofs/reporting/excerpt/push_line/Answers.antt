use Rattle.std.proofs.Common.{append_assoc, rules}
use Rattle.std.proofs.lemmas.Result.{IfOk-equal}
use Rattle.ftl_project.proofs.reporting.excerpt.push_line.Goals as goal

pub returns : goal.returns
returns c = search (rules, IfOk-equal, append_assoc)
