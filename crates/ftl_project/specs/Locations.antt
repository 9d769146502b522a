-- Where names are in a text.
use Rattle.std.specs.Prelude.{◌≡◌, ℕ, List}
use Rattle.ftl_project.specs.Diagnostics.{location_at}
use Rattle.ftl_project.specs.declared.reporting.diagnostics.SourceLocation.{SourceLocation}

-- It is where the text has the name of that range.
abbrev pub IsLocated : (text : List ℕ) → SourceLocation → Type 0
IsLocated text location = location ≡ location_at text (record { start = location.start; end = location.end })
