-- What a diagnostic is about.
use Rattle.std.specs.Prelude.{ℕ, List, Option, option_map}
use Rattle.ftl_project.specs.declared.reporting.diagnostics.Subject.{Subject}

-- its name
abbrev pub subject_name : Option Subject → Option (List ℕ)
subject_name subject = option_map (λ (named : Subject). named.name.now) subject
