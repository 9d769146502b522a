-- Exit statuses, and the lines for standard error.
use Rattle.std.specs.Prelude.{ℕ, List, codes}
use Rattle.ftl.specs.declared.outcome.Outcome.{Outcome}
use Rattle.ftl.specs.declared.outcome.Outcome.TheVariants.{Clean, SyntaxErrors}
use Rattle.ftl.specs.declared.outcome.RunFault.{RunFault}
use Rattle.ftl.specs.declared.outcome.RunFault.TheVariants.{Input, Memory, Output}

abbrev pub status_of : Outcome → ℕ
status_of Clean = 0
status_of SyntaxErrors = 1

abbrev pub fault_status : RunFault → ℕ
fault_status Input = 3
fault_status Memory = 4
fault_status Output = 5

abbrev pub fault_line : RunFault → List ℕ
fault_line Input = codes "ftl: input failed or is not UTF-8"
fault_line Memory = codes "ftl: no memory"
fault_line Output = codes "ftl: output failed"
