use Rattle.std.proofs.Common.{Some, sym, subst}
use Rattle.std.proofs.lemmas.Result.{IfOk-weaker}
use Rattle.ftl_project.specs.Rewriting.{FindsLossy}
use Rattle.ftl_project.proofs.formatting.lossy_entry.lossy_note.Goals as goal

pub returns-in-Ok-Some : goal.returns-in-Ok-Some
returns-in-Ok-Some c =
    let finds = subst (FindsLossy c.args.reading c.args.text.now) c.in-Ok-Some.field-0-is
    c.in-Ok-Some.ensures.found in
    IfOk-weaker c.lossy_entry_line.result _ _ (λ note said. (Some c.in-Ok-Some.entry, finds, said.0, said.1))
    c.lossy_entry_line.ensures
