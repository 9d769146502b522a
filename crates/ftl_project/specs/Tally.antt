-- What a run counts, and its exit status.
use Rattle.std.specs.Prelude.{ℕ, ◌+◌, ◌-◌, ◌^◌, ◌==◌, ◌&&◌, Bool, max, min, not, if◌then◌else◌}
use Rattle.ftl_project.specs.declared.tally.Tally.{Tally}

-- How a file was met: it was answered, with so many errors and warnings, and with problems or not; or it was not, with
-- a fault of that status.
pub data Processed : Type 0 where
  answered : (errors warnings : ℕ) (has_problems : Bool) → Processed
  failed : (status : ℕ) → Processed

-- the tally once the file is counted in it; a number that has come to the greatest `usize` stays there
abbrev pub counted : Tally → Processed → Tally
counted tally (answered errors warnings has_problems) = record {
  files = min (tally.files + 1) (2 ^ 64 - 1);
  with_problems = min (tally.with_problems + (if has_problems then 1 else 0)) (2 ^ 64 - 1);
  errors = min (tally.errors + errors) (2 ^ 64 - 1);
  warnings = min (tally.warnings + warnings) (2 ^ 64 - 1);
  fault = tally.fault;
}
counted tally (failed status) = record tally { fault = max tally.fault status }

-- the greatest status of a fault, else 1 where a file has errors or changes, else 0
abbrev pub status_of : Tally → ℕ
status_of tally = if tally.fault == 0 then (if tally.with_problems == 0 then 0 else 1) else tally.fault

-- 1 where there are warnings and they are denied, else 0
abbrev pub warnings_status : Tally → (are_denied : Bool) → ℕ
warnings_status tally are_denied = if are_denied && not (tally.warnings == 0) then 1 else 0
