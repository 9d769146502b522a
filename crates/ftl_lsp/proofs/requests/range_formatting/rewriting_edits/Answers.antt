use Rattle.std.proofs.Common.{◌∙◌, List, All, ap, arith, map, refl, subst, sym}
use Rattle.std.proofs.lemmas.Bool.Decides.{nat_tests}
use Rattle.std.proofs.lemmas.List.{map-append}
use Rattle.std.proofs.lemmas.List.Elements.{All-push}
use Rattle.std.proofs.lemmas.Option.{slice_get-map, slice_get_read}
use Rattle.std.specs.Prelude.{option_map, slice_get}
use Rattle.fluent_syntax_edits.specs.SeveralEdits.{NumberedChange, numbered_change}
use Rattle.fluent_syntax_edits.specs.declared.numbered_edits.NumberedEdit.{NumberedEdit}
use Rattle.fluent_syntax_tree.specs.View.{entry_view}
use Rattle.ftl_lsp.specs.RangeFormatting.{Rewrites}
use Rattle.ftl_lsp.proofs.requests.range_formatting.rewriting_edits.Goals as goal
use Rattle.ftl_lsp.proofs.requests.range_formatting.rewriting_edits.Goals.{in-Some+in_ok-replace+in_ok-push, in_default}

pub loop-number-preserved : goal.loop-number-preserved
loop-number-preserved c =
    let entries = map (entry_view (λ s. s.now)) c.args.tree.now.body.items in
    let all = λ (edits : List NumberedEdit). All (Rewrites entries) (map numbered_change edits) in
    elim c.match-get.branch [
      | in-Some+in_ok-replace+in_ok-push w ↦
          (let lookup = rw (w.in-Some.is, c.deref.ensures.value) at c.get.ensures.lookup in
          let within = sym lookup.0 in
          let found = slice_get_read c.args.tree.now.body.items _ _ _ refl (grind (arith, nat_tests)) lookup.1 in
          let one : Rewrites entries _ = record {
            entry = _;
            there =
                ap (λ (n : NumberedChange). slice_get entries n.number) w.in_ok-replace.ensures
                ∙ (slice_get-map (entry_view (λ s. s.now)) c.args.tree.now.body.items _
                ∙ ap (option_map (entry_view (λ s. s.now))) found);
            rewrites = ap (λ (n : NumberedChange). n.change) w.in_ok-replace.ensures;
          } in
          subst all (sym (ap (λ v. v.items) w.edits-is ∙ w.in_ok-push.ensures.items))
          (subst (All (Rewrites entries)) (sym (map-append numbered_change _ _))
          (All-push (Rewrites entries) _ _ c.loop-number.invariant one)))
      | in_default w ↦ subst all (sym (ap (λ v. v.items) w.edits-is)) c.loop-number.invariant
    ]
