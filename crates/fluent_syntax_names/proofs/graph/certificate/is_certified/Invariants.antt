use Rattle.std.proofs.Common.{◌<◌, ℕ}
use Rattle.fluent_syntax_names.specs.Graph.{targets_of}
use Rattle.fluent_syntax_names.specs.Certificates.{IsCertifiedAt}
use Rattle.fluent_syntax_names.proofs.graph.certificate.is_certified.Given as goal

abbrev pub invariant-loop-node : goal.invariant-loop-node
invariant-loop-node l = (u : ℕ) → u < l.node → IsCertifiedAt (targets_of l.graph) l.notes l.roots u
