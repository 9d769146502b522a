use Rattle.std.proofs.Common.{◌∙◌, ◌∷◌, ◌++◌, [], ℕ, List, ap, map, rules, sym, take}
use Rattle.std.proofs.lemmas.List.{map-append, map_more}
use Rattle.serde_json.specs.Data.{Data}
use Rattle.serde_json.specs.View.{view}
use Rattle.ftl_lsp.specs.Actions.{replacement_form}
use Rattle.ftl_lsp.proofs.requests.actions.mended_document.edit_list.Goals as goal

pub loop-replacement-preserved : goal.loop-replacement-preserved
loop-replacement-preserved c =
    let form = replacement_form c.args.text.now in
    let edit = c.in_ok-replacement_form.field-0 in
    let index = c.loop-replacement.replacement-index in
    let before = map form (take index c.args.found.now) in
    let one =
    c.in_ok-replacement_form.ensures.form
    ∙ (ap (λ (t : List ℕ). replacement_form t c.replacement-item.result) c.loop-replacement.invariant.positions
    ∙ ap form c.replacement-item.is) in
    record {
      positions = c.replacement_form.ensures.text ∙ c.loop-replacement.invariant.positions;
      list =
          ap (map view) c.in_ok-push.ensures.items
          ∙ (map-append view c.loop-replacement.list.items (edit ∷ [])
          ∙ (ap (λ (seen : List Data). seen ++ view edit ∷ []) c.loop-replacement.invariant.list
          ∙ (ap (λ (last : Data). before ++ last ∷ []) one
          ∙ sym (map_more form c.args.found.now index _ (search rules)))));
    }
