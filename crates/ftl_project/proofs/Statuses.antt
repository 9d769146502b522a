-- The statuses of faults.
use Rattle.std.proofs.Common.{◌≤◌, ◌+◌, ◌∙◌, ℕ, arith, sym, ⊎_elim}
use Rattle.std.specs.IoError.{error_kind}
use Rattle.std.specs.declared.io.ErrorKind.{ErrorKind}
use Rattle.std.specs.declared.io.ErrorKind.TheVariants.{OutOfMemory}
use Rattle.ftl.specs.declared.from_json.JsonFault.TheVariants as json
use Rattle.ftl.specs.declared.from_json.JsonFault.TheVariants.{Shape, Syntax}
use Rattle.ftl_project.specs.Faults.{HasStatus, status_of_call}
use Rattle.ftl_project.specs.declared.fault.Fault.{Fault}
use Rattle.ftl_project.specs.declared.fault.Fault.TheVariants.{Json, Memory, NotText, Read, TooDeep, Write}
use Rattle.ftl_project.specs.declared.tally.Tally.{Tally}

call_status_is_3_or_more : (kind : ErrorKind) (other : ℕ) → 3 ≤ other → 3 ≤ status_of_call kind other
call_status_is_3_or_more OutOfMemory other least = omega arith
call_status_is_3_or_more _ other least = least

pub status_of_fault_is_at_least_three : (fault : Fault) (status : ℕ) → HasStatus fault status → 3 ≤ status
status_of_fault_is_at_least_three (Read error) status has =
    omega (arith, has, call_status_is_3_or_more (error_kind error) 3 (omega arith))
status_of_fault_is_at_least_three (NotText invalid) status has = omega arith
status_of_fault_is_at_least_three Memory status has = omega arith
status_of_fault_is_at_least_three (Write error) status has =
    omega (arith, has, call_status_is_3_or_more (error_kind error) 5 (omega arith))
status_of_fault_is_at_least_three TooDeep status has = omega arith
status_of_fault_is_at_least_three (Json (Syntax line column)) status has = omega (arith, has)
status_of_fault_is_at_least_three (Json Shape) status has = omega (arith, has)
status_of_fault_is_at_least_three (Json json.Memory) status has = omega (arith, has)
status_of_fault_is_at_least_three (Json json.TooDeep) status has = omega (arith, has)
