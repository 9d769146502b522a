use Rattle.std.proofs.Common.{ap, inr, rules, subst, sym, ◌∙◌, List, ℕ}
use Rattle.std.proofs.lemmas.Str.{IsUtf8-string_bytes}
use Rattle.std.specs.Prelude.{IfOk}
use Rattle.fluent_syntax_c.specs.Depth.{EditionReadsDeeper}
use Rattle.fluent_syntax_c.specs.Edits.{IsEdited, part_source}
use Rattle.fluent_syntax_c.proofs.PartsRead.{IfOk-anyway, both_have_one_edition}
use Rattle.fluent_syntax_c.proofs.Statuses.{either_of_two_absurd_is_absurd}
use Rattle.fluent_syntax_c.proofs.edits.edited_bytes.Goals as goal

pub text_tree-requires-2-clause-utf8 : goal.text_tree-requires-2-clause-utf8
text_tree-requires-2-clause-utf8 c = rw c.as_bytes.ensures.value (IsUtf8-string_bytes c.in-Ok.new)

pub returns-in_err-part-clause-deeper : goal.returns-in_err-part-clause-deeper
returns-in_err-part-clause-deeper c = λ stated.
    let part = c.in-Ok-Ok.ensures'.cases.0 in
    let same = c.as_bytes.ensures.value ∙ c.in-Ok.ensures ∙ ap (part_source c.args.action) part in
    inr (subst (λ u. EditionReadsDeeper c.args.edition u c.args.nesting) same
    (c.in_err-part.ensures.deeper (search rules)))

pub returns-clause-edited : goal.returns-clause-edited
returns-clause-edited c =
    let name = c.in-Ok-Ok.ensures.cases.0 in
    let part = c.in-Ok-Ok.ensures'.cases.0 in
    let made : (named spelled : List ℕ) → ℕ → Type 0 = λ named spelled n.
    IfOk c.edited_text.result (λ answer. IfOk answer (λ given.
    IsEdited n c.args.input.now named c.args.action spelled given.0.items given.1)) in
    subst (λ u. made u c.args.part.now c.args.edition) name
    (subst (λ u. made c.in-Ok-Ok.name.now u c.args.edition) part
    (both_have_one_edition c.args.edition c.args.input.now c.args.action _ _ c.as_bytes.result.now c.in-Ok-Ok.part.now
    c.in_ok-source.ensures.tree c.in_ok-part.ensures.tree (c.as_bytes.ensures.value ∙ c.in-Ok.ensures)
    (made c.in-Ok-Ok.name.now c.in-Ok-Ok.part.now)
    (λ edition read is. c.edited_text.ensures.edited edition c.args.input.now c.in-Ok-Ok.part.now read is)))

pub returns-clause-shallow : goal.returns-clause-shallow
returns-clause-shallow c =
    let part = c.in-Ok-Ok.ensures'.cases.0 in
    let same = c.as_bytes.ensures.value ∙ c.in-Ok.ensures ∙ ap (part_source c.args.action) part in
    IfOk-anyway _ c.edited_text.result (returns-clause-edited c)
    (λ deeper. either_of_two_absurd_is_absurd c.in_ok-source.ensures.shallow
    (λ nests. c.in_ok-part.ensures.shallow
    (subst (λ u. EditionReadsDeeper c.args.edition u c.args.nesting) (sym same) nests)) deeper)
