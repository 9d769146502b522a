use Rattle.std.proofs.Common.{drop}
use Rattle.fluent_syntax_names.specs.Cycles.{no_pattern}
use Rattle.fluent_syntax_names.specs.ReferenceGraphs.{set_by}
use Rattle.fluent_syntax_names.specs.Findings.{Known, findings_in, nothing}
use Rattle.fluent_syntax_names.specs.Knowing.{knows}
use Rattle.fluent_syntax_names.specs.FirstPlaces.{place_of}
use Rattle.fluent_syntax_names.specs.Tables.{Holds}
use Rattle.fluent_syntax_names.specs.Growing.{Leaves}
use Rattle.fluent_syntax_names.proofs.files.add_findings.Given as goal

-- some knowledge is what the tables hold
abbrev pub invariant-loop-mention : goal.invariant-loop-mention
invariant-loop-mention l =
    let A = set_by (knows l.here.known) l.here.cycles.now in
    let all = findings_in A l.here.file l.here.text.now nothing no_pattern l.mentions in
    (known : Known) × Holds (place_of l.noted.names.table) (place_of l.noted.parts.table) known
    × Leaves l.fn.list.items l.list.items
    (findings_in A l.here.file l.here.text.now known l.pattern (drop l.mention-index l.mentions)) all
