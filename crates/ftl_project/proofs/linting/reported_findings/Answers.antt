use Rattle.std.proofs.Common.{◌≡◌, rules}
use Rattle.std.specs.Prelude.{IfOk, filter}
use Rattle.ftl_project.specs.Linting.{is_reported, name_indexes_of}
use Rattle.ftl_project.proofs.linting.reported_findings.Goals as goal

pub returns : goal.returns
returns c =
    let reported = is_reported c.args.sources.now (name_indexes_of c.in_ok-comments.comments.items) in
    let found : IfOk c.collect.result (λ list. list.items ≡ filter reported c.in_ok-all.all.items) = search rules in
    rw (← c.in_ok-all.ensures, ← c.in_ok-comments.ensures) found
