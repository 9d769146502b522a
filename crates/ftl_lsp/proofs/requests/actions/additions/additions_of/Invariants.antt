use Rattle.std.proofs.Common.{All, map}
use Rattle.serde_json.specs.View.{view}
use Rattle.ftl_lsp.specs.Actions.{IsAction}
use Rattle.ftl_lsp.specs.OpenDocuments.{open_text}
use Rattle.ftl_lsp.proofs.requests.actions.additions.additions_of.Given as goal

abbrev pub invariant-loop-choice : goal.invariant-loop-choice
invariant-loop-choice l = All (IsAction l.mended.uri.now (open_text l.mended.open.now)) (map view l.list.items)
