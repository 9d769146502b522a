use Rattle.std.proofs.Common.{◌≡◌, ◌∙◌, BTreeMap, Bool, Global, List, String, ap, codes, string_bytes, string_cmp, sym}
use Rattle.std.proofs.Common.{true, ℕ}
use Rattle.std.specs.BTreeMap.{insert_entry}
use Rattle.std.specs.Prelude.{if◌then◌else◌}
use Rattle.serde_json.proofs.Views.{members_view-insert_entry, view-Object}
use Rattle.serde_json.specs.Data.{Data, object, put}
use Rattle.serde_json.specs.View.{members_view, view}
use Rattle.serde_json.specs.declared.value.Value.{Object, Value}
use Rattle.ftl_lsp.specs.DiagnosticForms.{is_faded, tagged, unnecessary, with_tags}
use Rattle.ftl_lsp.specs.declared.diagnostics.diagnostic_forms.LintDiagnosticKind.{LintDiagnosticKind}
use Rattle.ftl_lsp.proofs.diagnostics.diagnostic_forms.tagged.Goals as goal

object_with_tags_is_tagged : (kind : LintDiagnosticKind) (form tags : Value)
    (before after : BTreeMap (String Global) Value) (key : String Global) → is_faded kind ≡ true →
    form ≡ Object before → after.entries ≡ insert_entry string_cmp before.entries key tags →
    string_bytes key ≡ codes "tags" → view tags ≡ unnecessary → view (Object after) ≡ tagged kind (view form)
object_with_tags_is_tagged kind form tags before after key faded is inserted named tagging =
    let members = members_view before.entries in
    view-Object after
    ∙ (ap object (ap members_view inserted
    ∙ (members_view-insert_entry before.entries key tags
    ∙ (ap (λ (k : List ℕ). put k (view tags) members) named
    ∙ ap (λ (d : Data). put (codes "tags") d members) tagging)))
    ∙ (ap (λ (b : Bool). if b then with_tags (object members) else object members) (sym faded)
    ∙ (ap (tagged kind) (sym (view-Object before)) ∙ ap (λ (v : Value). tagged kind (view v)) (sym is))))

pub returns-in_ok-insert-in-Object : goal.returns-in_ok-insert-in-Object
returns-in_ok-insert-in-Object c =
    object_with_tags_is_tagged c.args.kind c.args.form _ c.in-Object.members c.insert.new.self _
    (sym c.is_faded.ensures ∙ c.if-not-is_faded.false) c.in-Object.is c.in_ok-insert-in-Object.ensures.entries
    c.in_ok-from_str-in-Object.ensures.ok c.in_ok-tags-in-Object.ensures
