use Rattle.std.proofs.lemmas.Result.{err_from_is_err_and}
use Rattle.ftl_files.proofs.settings.reference_of.Goals as goal

pub returns-in_err-from_str-in-String-clause-refused :
    goal.returns-in_err-from_str-in-String-clause-refused
returns-in_err-from_str-in-String-clause-refused c =
    let p = err_from_is_err_and c.from_residual.result c.from_residual.ensures.1 in
    rw p.1 (λ other. absurd (other p.2))
