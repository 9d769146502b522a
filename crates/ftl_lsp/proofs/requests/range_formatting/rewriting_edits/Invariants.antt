use Rattle.std.proofs.Common.{All, map}
use Rattle.fluent_syntax_edits.specs.SeveralEdits.{numbered_change}
use Rattle.fluent_syntax_tree.specs.View.{entry_view}
use Rattle.ftl_lsp.specs.RangeFormatting.{Rewrites}
use Rattle.ftl_lsp.proofs.requests.range_formatting.rewriting_edits.Given as goal

abbrev pub invariant-loop-number : goal.invariant-loop-number
invariant-loop-number l =
    All (Rewrites (map (entry_view (λ s. s.now)) l.tree.body.items)) (map numbered_change l.edits.items)
