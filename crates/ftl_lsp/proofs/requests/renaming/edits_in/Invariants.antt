use Rattle.std.proofs.Common.{◌≡◌, All, map, true}
use Rattle.fluent_syntax_grammar.specs.Spellings.{is_name}
use Rattle.serde_json.specs.View.{view}
use Rattle.ftl_lsp.specs.Occurrences.{shown_of}
use Rattle.ftl_lsp.specs.Renaming.{RenamesAt}
use Rattle.ftl_lsp.proofs.requests.renaming.edits_in.Given as goal

abbrev pub invariant-loop-span : goal.invariant-loop-span
invariant-loop-span l = record {
  positions : l.positions ≡ l.document.text.now;
  edits : is_name (shown_of l.name) ≡ true →
      All (RenamesAt l.document.text.now (shown_of l.name) l.text) (map view l.edits.items);
}
