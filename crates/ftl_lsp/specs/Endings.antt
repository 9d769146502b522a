-- How a session ended: its exit status, and its line for standard error.
use Rattle.std.specs.Prelude.{ℕ, List, codes}
use Rattle.ftl_lsp.specs.declared.sessions.endings.Ending.{Ending}
use Rattle.ftl_lsp.specs.declared.sessions.endings.Ending.TheVariants.{Exited, Left, Input, Memory, Output, Closed}
use Rattle.ftl_lsp.specs.declared.sessions.endings.Ending.TheVariants.{Cut, Refused}
use Rattle.ftl_lsp.specs.declared.sessions.frames.FrameFault.TheVariants.{LongHeader, NoLength, LongBody}

abbrev pub status_of : Ending → ℕ
status_of Exited = 0
status_of Left = 1
status_of Input = 3
status_of Memory = 4
status_of Output = 5
status_of Closed = 6
status_of Cut = 7
status_of (Refused LongHeader) = 8
status_of (Refused NoLength) = 8
status_of (Refused LongBody) = 9

abbrev pub line_of : Ending → List ℕ
line_of Exited = codes ""
line_of Left = codes ""
line_of Input = codes "ftl lsp: input failed"
line_of Memory = codes "ftl lsp: no memory"
line_of Output = codes "ftl lsp: output failed"
line_of Closed = codes "ftl lsp: the input ended without exit"
line_of Cut = codes "ftl lsp: the input ended inside a message"
line_of (Refused LongHeader) = codes "ftl lsp: a header has more than 4096 bytes"
line_of (Refused NoLength) = codes "ftl lsp: a header has no Content-Length"
line_of (Refused LongBody) = codes "ftl lsp: a message has more than 67108864 bytes"
