use Rattle.std.proofs.Common.{subst, sym, ◌∙◌}
use Rattle.std.proofs.lemmas.Str.{IsUtf8-string_bytes}
use Rattle.fluent_syntax_edits.specs.SeveralEdits.{numbered_change}
use Rattle.fluent_syntax_c.specs.Arguments.{edition_number}
use Rattle.fluent_syntax_c.specs.Edits.{Asks}
use Rattle.fluent_syntax_c.specs.SeveralEdits.{AsksForNone}
use Rattle.fluent_syntax_c.proofs.PartChanges.{IfOk-IfErr-to, IfOk-IfOk-to, part_is_read_by_edition}
use Rattle.fluent_syntax_c.proofs.asked_edits.asked_edit.Goals as goal

pub text_tree-requires-clause-utf8 : goal.text_tree-requires-clause-utf8
text_tree-requires-clause-utf8 c = rw c.as_bytes.ensures.value (IsUtf8-string_bytes c.in-Ok.new)

pub returns-clause-asked : goal.returns-clause-asked
returns-clause-asked c = λ by t is number.
    let name = c.in-Ok-Ok.ensures.cases.0 in
    let part = c.in-Ok-Ok.ensures'.cases.0 in
    let read =
    part_is_read_by_edition c.args.edition by c.as_bytes.result.now _ c.in_ok-part.part c.in_ok-part.ensures.tree number
    (c.as_bytes.ensures.value ∙ c.in-Ok.ensures) in
    IfOk-IfOk-to c.edit_of_part.result _ _
    (λ x asks. (
      c.in-Some.action,
      sym c.action_of.ensures ∙ c.in-Some.is,
      subst
          (λ u.
          Asks (edition_number by) t u c.in-Some.action c.args.edit.now.part.now by is.tiles (numbered_change x).number
          (numbered_change x).change)
          name
          (subst
          (λ u.
          Asks (edition_number by) t c.in-Ok-Ok.name.now c.in-Some.action u by is.tiles (numbered_change x).number
          (numbered_change x).change)
          part asks),
    ))
    (c.edit_of_part.ensures.asked by t c.in-Ok-Ok.part.now is read)

pub returns-clause-none : goal.returns-clause-none
returns-clause-none c = λ by t is number.
    let name = c.in-Ok-Ok.ensures.cases.0 in
    let part = c.in-Ok-Ok.ensures'.cases.0 in
    let read =
    part_is_read_by_edition c.args.edition by c.as_bytes.result.now _ c.in_ok-part.part c.in_ok-part.ensures.tree number
    (c.as_bytes.ensures.value ∙ c.in-Ok.ensures) in
    IfOk-IfErr-to c.edit_of_part.result _ _
    (λ why none. (
      c.in-Some.action,
      sym c.action_of.ensures ∙ c.in-Some.is,
      subst (λ u. AsksForNone (edition_number by) t u c.in-Some.action c.args.edit.now.part.now why) name
          (subst (λ u. AsksForNone (edition_number by) t c.in-Ok-Ok.name.now c.in-Some.action u why) part none),
    ))
    (c.edit_of_part.ensures.none by t c.in-Ok-Ok.part.now is read)
