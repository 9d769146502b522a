use Rattle.std.proofs.Common.{◌≡◌, map, take}
use Rattle.serde_json.specs.View.{view}
use Rattle.ftl_lsp.specs.DiagnosticForms.{note_form}
use Rattle.ftl_lsp.proofs.diagnostics.diagnostic_forms.note_list.Given as goal

abbrev pub invariant-loop-note : goal.invariant-loop-note
invariant-loop-note l = map view l.list.items ≡ map (note_form l.uri) (take l.note-index l.notes)
