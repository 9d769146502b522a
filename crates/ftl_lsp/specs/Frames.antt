-- Frames of the protocol.
use Rattle.std.specs.Prelude.{◌≡◌, ℕ, ◌+◌, ◌<◌, ◌≤◌, List, ◌++◌, take, length, codes, Some, None}
use Rattle.ftl_lsp.specs.HeaderEnds.{IsHeaderEnd, HeaderOf, NoHeader}
use Rattle.ftl_lsp.specs.Fields.{HasLength}
use Rattle.ftl_lsp.specs.declared.limits.TheConstants.{BODY_LIMIT, HEADER_LIMIT}
use Rattle.ftl_lsp.specs.declared.sessions.frames.FrameFault.TheVariants.{LongHeader, NoLength, LongBody}
use Rattle.ftl_lsp.specs.declared.sessions.frames.Framing.{Framing}
use Rattle.ftl_lsp.specs.declared.sessions.frames.Framing.TheVariants.{Frame, Partial, Refused}

-- The bytes are a frame and what comes after it: a header that says how long the body is, an empty line, and the body.
pub record IsFrame (bytes body rest : List ℕ) : Type 0 where
  pub header : List ℕ
  pub whole : bytes ≡ header ++ codes "\r\n\r\n" ++ body ++ rest
  -- there is no empty line in the header
  pub first : IsHeaderEnd bytes (length header)
  pub short : length header + 4 ≤ HEADER_LIMIT
  -- and it says how long the body is
  pub says : HasLength header (Some (length body))
  pub small : length body ≤ BODY_LIMIT

-- A frame is the header that says how long its body is, and the body. Where too few bytes are there, it may become one.
-- Anything else is refused.
pub data IsFraming (t : List ℕ) : Framing → Type 0 where
  frame : (header n : ℕ) → HeaderOf t header → HasLength (take header t) (Some n) → n ≤ BODY_LIMIT →
      header + 4 + n ≤ length t → IsFraming t (Frame (header + 4) (header + 4 + n))
  partial_header : NoHeader t → length t < HEADER_LIMIT → IsFraming t Partial
  partial_body : (header n : ℕ) → HeaderOf t header → HasLength (take header t) (Some n) → n ≤ BODY_LIMIT →
      length t < header + 4 + n → IsFraming t Partial
  long_header : NoHeader t → HEADER_LIMIT ≤ length t → IsFraming t (Refused LongHeader)
  no_length : (header : ℕ) → HeaderOf t header → HasLength (take header t) None → IsFraming t (Refused NoLength)
  long_body : (header n : ℕ) → HeaderOf t header → HasLength (take header t) (Some n) → BODY_LIMIT < n →
      IsFraming t (Refused LongBody)
