-- Endings of lines whose places are numbers of the machine's.
use Rattle.std.specs.Prelude.{ℕ, ◌+◌, ◌<◌, ◌^◌}
use Rattle.fluent_syntax_parser.specs.declared.pattern.line.Ending.{Ending}
use Rattle.fluent_syntax_parser.specs.declared.pattern.line.Ending.TheVariants as ends

-- the place after a line end
abbrev pub place_after : Ending → ℕ
place_after (ends.Lf p) = p + 1
place_after (ends.Crlf p) = p + 2
place_after ends.TextEnd = 0

-- that place is a number of the machine's
abbrev pub EndsWithin : Ending → Type 0
EndsWithin ending = place_after ending < 2 ^ 64
