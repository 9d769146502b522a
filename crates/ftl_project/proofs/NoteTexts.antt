-- What a line that was made says.
use Rattle.std.proofs.Common.{◌≡◌, ◌∙◌, ℕ, List, Result, Ok, Err, string_bytes}
use Rattle.std.specs.Global.{Global}
use Rattle.std.specs.Prelude.{IfOk, String}

pub line_says_equal_text : {E : Type 0} (result : Result (String Global) E) (said text : List ℕ) → said ≡ text →
    IfOk result (λ line. string_bytes line ≡ said) → IfOk result (λ line. string_bytes line ≡ text)
line_says_equal_text (Ok line) said text same says = says ∙ same
line_says_equal_text (Err error) said text same says = tt

pub line_says_some_text : {E : Type 0} (result : Result (String Global) E) (said : List ℕ) (text : List ℕ → List ℕ)
    (part : List ℕ) → said ≡ text part → IfOk result (λ line. string_bytes line ≡ said) →
    IfOk result (λ line. (x : List ℕ) × (string_bytes line ≡ text x))
line_says_some_text (Ok line) said text part same says = (part, says ∙ same)
line_says_some_text (Err error) said text part same says = tt
