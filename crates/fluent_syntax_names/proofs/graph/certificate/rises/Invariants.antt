use Rattle.std.proofs.Common.{◌<◌, ◌≤◌, ℕ, get_or}
use Rattle.fluent_syntax_names.specs.Graph.{targets_of}
use Rattle.fluent_syntax_names.specs.Certificates.{component_of}
use Rattle.fluent_syntax_names.proofs.graph.certificate.rises.Given as goal

abbrev pub invariant-loop-target : goal.invariant-loop-target
invariant-loop-target l =
    (k : ℕ) → k < l.target-index → l.component ≤ component_of (targets_of l.graph) l.notes (get_or l.target-items k 0)
