-- What reading a frame takes of the bytes that are left, and how it ends.
use Rattle.std.specs.Prelude.{◌≡◌, ◌≢◌, ℕ, List, [], Option, Some, None, IfSome}
use Rattle.ftl_lsp.specs.Frames.{IsFrame, IsFraming}
use Rattle.ftl_lsp.specs.declared.sessions.endings.Ending.{Ending}
use Rattle.ftl_lsp.specs.declared.sessions.endings.Ending.TheVariants.{Exited, Left, Input, Memory, Output, Closed}
use Rattle.ftl_lsp.specs.declared.sessions.endings.Ending.TheVariants.{Cut, Refused}
use Rattle.ftl_lsp.specs.declared.sessions.frames.Framing.TheVariants.{Partial}
use Rattle.ftl_lsp.specs.declared.sessions.frames.Framing.TheVariants as framing

-- The bytes that were left, where these are known, are a frame with that body, and the bytes that are left now.
abbrev pub TakesFrame : (old new : Option (List ℕ)) → (body : List ℕ) → Type 0
TakesFrame None new body = Unit {0}
TakesFrame (Some bytes) None body = ⊥
TakesFrame (Some bytes) (Some rest) body = IsFrame bytes body rest

-- Why no frame was read of the bytes that were left: there were none, they are less than one, or no frame.
abbrev pub EndsAs : Option (List ℕ) → Ending → Type 0
EndsAs left Exited = ⊥
EndsAs left Left = ⊥
EndsAs left Input = Unit {0}
EndsAs left Memory = Unit {0}
EndsAs left Output = ⊥
EndsAs left Closed = IfSome left (λ bytes. bytes ≡ [])
EndsAs left Cut = IfSome left (λ bytes. (bytes ≢ []) × IsFraming bytes Partial)
EndsAs left (Refused fault) = IfSome left (λ bytes. IsFraming bytes (framing.Refused fault))

-- Why no more bytes were read after the pending ones.
abbrev pub Stops : (pending : List ℕ) → (left : Option (List ℕ)) → Ending → Type 0
Stops pending left Exited = ⊥
Stops pending left Left = ⊥
Stops pending left Input = Unit {0}
Stops pending left Memory = Unit {0}
Stops pending left Output = ⊥
Stops pending left Closed = IfSome left (λ bytes. bytes ≡ [])
Stops pending left Cut = IfSome left (λ bytes. (bytes ≢ []) × (bytes ≡ pending))
Stops pending left (Refused fault) = ⊥
