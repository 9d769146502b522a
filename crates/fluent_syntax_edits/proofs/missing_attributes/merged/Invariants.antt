use Rattle.std.proofs.Common.{string_bytes}
use Rattle.fluent_syntax_edits.specs.Additions.{IsMergedEntry}
use Rattle.fluent_syntax_tree.specs.View.{entry_view, resource_view}
use Rattle.fluent_syntax_edits.proofs.missing_attributes.merged.Given as goal

abbrev pub invariant-loop-place : goal.invariant-loop-place
invariant-loop-place l =
    IsMergedEntry (resource_view (λ s. string_bytes s) l.reference) (entry_view (λ s. string_bytes s) l.own)
    (entry_view (λ s. string_bytes s) l.merged)
