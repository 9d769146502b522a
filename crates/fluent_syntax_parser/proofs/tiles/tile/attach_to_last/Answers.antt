use Rattle.std.proofs.Common.{◌∷◌, ◌++◌, [], length, ap, sym, ◌∙◌, arith}
use Rattle.std.proofs.lemmas.List.{length_push, same_from_push}
use Rattle.fluent_syntax_tree.specs.declared.ast.Entry.TheVariants as entries
use Rattle.fluent_syntax_parser.specs.MadeEntries.{commented}
use Rattle.fluent_syntax_parser.proofs.entry_forms.MadeEntries.{equal_somes_have_equal_values}
use Rattle.fluent_syntax_parser.proofs.tiles.tile.attach_to_last.Goals as goal

pub returns-in_default : goal.returns-in_default
returns-in_default g c = λ before comm e last.
    let some = c.in_default.ensures.variant.1
    (omega (arith, c.args.body.now.ok.0, ap length last, length_push (before ++ entries.Comment comm ∷ []) e)) in
    cc

pub returns-in_default-take_comment : goal.returns-in_default-take_comment
returns-in_default-take_comment g c = λ before comm e last.
    let ends = same_from_push _ (before ++ entries.Comment comm ∷ []) _ e (sym c.in-Some.ensures.items ∙ last) in
    let some = sym c.in_default-take_comment.is ∙ (c.take_comment.ensures before comm ends.0).0 in
    cc

pub returns-in_ok-add-in-Ok : goal.returns-in_ok-add-in-Ok
returns-in_ok-add-in-Ok g c = λ before comm e last.
    let comment = c.in-Some-take_comment.comment in
    let attached = c.in-Ok.entry in
    let ends = same_from_push _ (before ++ entries.Comment comm ∷ []) _ e (sym c.in-Some.ensures.items ∙ last) in
    let took = c.take_comment.ensures before comm ends.0 in
    let same = equal_somes_have_equal_values comment comm (sym c.in-Some-take_comment.is ∙ took.0) in (
      attached,
      ap (λ x. commented x e) (sym same) ∙ ap (commented comment) (sym ends.1) ∙ c.in-Ok.ensures.attached,
      c.in_ok-add-in-Ok.ensures.added ∙ ap (λ xs. xs ++ attached ∷ []) took.1,
    )

pub returns-in_ok-add-in-Err : goal.returns-in_ok-add-in-Err
returns-in_ok-add-in-Err g c = λ before comm e last.
    let comment = c.in-Some-take_comment.comment in
    let ends = same_from_push _ (before ++ entries.Comment comm ∷ []) _ e (sym c.in-Some.ensures.items ∙ last) in
    let took = c.take_comment.ensures before comm ends.0 in
    let same = equal_somes_have_equal_values comment comm (sym c.in-Some-take_comment.is ∙ took.0) in
    let other = c.in-Err.ensures.other in (
      ap (λ x. commented x e) (sym same) ∙ ap (commented comment) (sym ends.1) ∙ other.1,
      c.in_ok-add-in-Err.ensures.added ∙ ap (λ xs. xs ++ entries.Comment c.in-Err.comment ∷ []) took.1
          ∙ ap (λ x. before ++ entries.Comment x ∷ []) (other.0 ∙ same),
    )
