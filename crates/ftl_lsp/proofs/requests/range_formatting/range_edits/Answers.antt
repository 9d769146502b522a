use Rattle.std.proofs.Common.{◌∙◌, ℕ, List, All, ap, map, string_bytes, subst, sym}
use Rattle.serde_json.proofs.Views.{view-Array}
use Rattle.serde_json.specs.Data.{Data, array}
use Rattle.serde_json.specs.View.{items_of, view}
use Rattle.serde_json.specs.declared.value.Value.{Array}
use Rattle.fluent_syntax_grammar.specs.Written.{Text}
use Rattle.fluent_syntax_tree.specs.Entry.{BodyTree}
use Rattle.ftl_lsp.specs.Actions.{replacement_form}
use Rattle.ftl_lsp.specs.RangeFormatting.{FormatsRange, Rewrites, leaves_entries, rewrites_entries}
use Rattle.ftl_lsp.proofs.requests.range_formatting.range_edits.Goals as goal

pub returns-then-is_empty : goal.returns-then-is_empty
returns-then-is_empty c =
    subst (FormatsRange (string_bytes c.args.document.now.text)) (sym c.null.ensures) leaves_entries

pub returns : goal.returns
returns c =
    let text = c.text-text.result.now in
    let list = c.in_ok-edit_list.field-0 in
    let read = rw c.in-Some.is at c.in_ok-tree.ensures in
    let found = rw c.in-Some-3.is at c.in_ok-found.ensures in
    let edits = c.in_ok-edit_list.ensures ∙ ap (map (replacement_form text)) c.deref-5.ensures.value in
    subst (λ (t : List ℕ). FormatsRange t (view (Array list))) c.text-text.ensures
    (subst (FormatsRange text) (sym (view-Array list ∙ ap (λ (forms : List Data). array (items_of forms)) edits))
    (rewrites_entries read.0 found.0 c.in-Some-3.found read.1
    (subst (λ (entries : BodyTree Text). All (Rewrites entries) found.0) read.2 found.1) found.2))
