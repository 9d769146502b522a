-- What a test of an optional value answers.
use Rattle.std.proofs.Common.{◌≡◌, Bool, true, false, Option, Some, None, not, refl}
use Rattle.std.specs.Prelude.{is_none, is_some}

-- what is answered is whether there is none
pub tested_none_is_none : {X : Type 0} (found : Option X) (is : Bool) → is_some found ≡ not is → is ≡ is_none found
tested_none_is_none None true e = refl
tested_none_is_none None false e = cc
tested_none_is_none (Some x) true e = cc
tested_none_is_none (Some x) false e = refl
