-- What a server writes: a frame of each value that it sends.
use Rattle.std.specs.Prelude.{◌≡◌, ◌≤◌, ℕ, List, ◌++◌, length, codes, Option, Some, None}
use Rattle.std.specs.Fmt.{decimal}
use Rattle.std.specs.Io.KnownBytes.{Appends}
use Rattle.serde_json.specs.Data.{Data, depth}
use Rattle.serde_json.specs.Read.{read, max_depth}

-- the header of a body of so many bytes, with the empty line after it
abbrev pub frame_header : ℕ → List ℕ
frame_header n = codes "Content-Length: " ++ decimal n ++ codes "\r\n\r\n"

-- The frame has a body that reads as the value, unless that nests deeper than JSON is read.
pub record IsFrameOf (value : Data) (frame : List ℕ) : Type 0 where
  pub body : List ℕ
  pub whole : frame ≡ frame_header (length body) ++ body
  pub reads : depth value ≤ max_depth → read body ≡ Some value

-- Known bytes grow by the frame of the value, if there is one.
abbrev pub Sends : (old new : Option (List ℕ)) → Option Data → Type 0
Sends old new None = new ≡ old
Sends old new (Some value) = (frame : List ℕ) × IsFrameOf value frame × Appends old new frame
