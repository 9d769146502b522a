use Rattle.std.proofs.Common.{◌≡◌, map, take}
use Rattle.serde_json.specs.View.{view}
use Rattle.ftl_lsp.specs.Actions.{replacement_form}
use Rattle.ftl_lsp.proofs.requests.actions.mended_document.edit_list.Given as goal

abbrev pub invariant-loop-replacement : goal.invariant-loop-replacement
invariant-loop-replacement l = record {
  positions : l.positions ≡ l.text;
  list : map view l.list.items ≡ map (replacement_form l.text) (take l.replacement-index l.found);
}
