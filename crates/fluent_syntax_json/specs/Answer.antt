-- What an answer says of what a value spells.
use Rattle.std.specs.Prelude.{◌≡◌, Option, Some, None, Result, Ok, Err}
use Rattle.fluent_syntax_json.specs.declared.fault.ValueFault.{ValueFault}
use Rattle.fluent_syntax_json.specs.declared.fault.ValueFault.TheVariants.{Shape, Memory}

-- `Ok` is what is spelled, as `view` sees it; `Shape` means that nothing is spelled
abbrev pub ReadsValue : {T A : Type 0} → (T → A) → Option A → Result T ValueFault → Type 0
ReadsValue view o (Ok x) = o ≡ Some (view x)
ReadsValue view o (Err Shape) = o ≡ None
ReadsValue view o (Err Memory) = Unit {0}
