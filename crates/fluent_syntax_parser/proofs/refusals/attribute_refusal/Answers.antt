use Rattle.std.proofs.Common.{arith, refl, subst}
use Rattle.fluent_syntax_grammar.specs.Construct.{Read}
use Rattle.fluent_syntax_grammar.specs.Entries.{attribute_of}
use Rattle.fluent_syntax_grammar.specs.Grammar.{family, within}
use Rattle.fluent_syntax_grammar.proofs.Nesting.{within_family}
use Rattle.fluent_syntax_grammar.proofs.TotalEntries.{attribute_too_deep_left}
use Rattle.fluent_syntax_parser.proofs.entry_forms.AttributeRefusals.{attribute_is_refused_where_its_fault_is}
use Rattle.fluent_syntax_parser.proofs.entry_forms.AttributeRefusals.{refusal_place_in_text}
use Rattle.fluent_syntax_parser.proofs.entry_forms.AttributeRefusals.{refusal_starts_in_text}
use Rattle.fluent_syntax_parser.proofs.entry_forms.ExtentForms.{attribute_is_included}
use Rattle.fluent_syntax_parser.proofs.readers.Fails.{failure_is_too_deep}
use Rattle.fluent_syntax_parser.proofs.refusals.attribute_refusal.Goals as goal
use Rattle.fluent_syntax_parser.proofs.refusals.attribute_refusal.Goals.{in-Err-Memory, in-Err-TooDeep, in-Ok}
use Rattle.fluent_syntax_parser.proofs.refusals.attribute_refusal.Goals.{in-Err-Refused+in_ok-kind-in-Err-Refused}

pub pos-requires : goal.pos-requires
pos-requires c =
    let t = c.args.text.now in
    let found = rw (c.as_bytes.ensures.value, c.in-Err-Refused.field-0-is) at c.in-Err-Refused.ensures.finds in
    let inside = refusal_place_in_text c.args.edition t c.args.nesting c.args.start _ _ _ c.requires found in
    omega (arith, inside, c.as_bytes.ensures.len)

pub returns-clause-refusal : goal.returns-clause-refusal
returns-clause-refusal c =
    let edition = c.args.edition in
    let t = c.args.text.now in
    let n = c.args.nesting in
    elim c.match-attribute_parts.branch [
      | in-Ok w ↦
          let (a, parts, begins, same) = rw c.as_bytes.ensures.value at w.in-Ok.ensures.finds in
          let R = within edition t n in
          rw w.result-is (
            a,
            _,
            (attribute_is_included edition t R (family edition t) (within_family edition t n)).part _ _
                (subst (λ i. attribute_of edition t R i (Read a w.in-Ok.field-0.0.span.end)) begins parts.whole),
          )
      | in-Err-Refused+in_ok-kind-in-Err-Refused w ↦
          let found = rw (c.as_bytes.ensures.value, w.in-Err-Refused.field-0-is) at w.in-Err-Refused.ensures.finds in
          let refused = attribute_is_refused_where_its_fault_is edition t n c.args.start _ _ _ c.requires found in
          rw (
            w.result-is,
            w.in_ok-kind-in-Err-Refused.ensures,
            w.pos.ensures.start,
            w.pos.ensures.end,
            c.as_bytes.ensures.value,
          ) (refused, refl)
      | in-Err-TooDeep w ↦ rw w.result-is tt
      | in-Err-Memory w ↦ rw w.result-is tt
    ]

pub returns-clause-place : goal.returns-clause-place
returns-clause-place c =
    elim c.match-attribute_parts.branch [
      | in-Ok w ↦ rw w.result-is tt
      | in-Err-Refused+in_ok-kind-in-Err-Refused w ↦
          let found = rw (c.as_bytes.ensures.value, w.in-Err-Refused.field-0-is) at w.in-Err-Refused.ensures.finds in
          let inside =
          refusal_starts_in_text c.args.edition c.args.text.now c.args.nesting c.args.start _ _ _ c.requires found in
          rw (w.result-is, w.pos.ensures.start) inside
      | in-Err-TooDeep w ↦ rw w.result-is tt
      | in-Err-Memory w ↦ rw w.result-is tt
    ]

pub returns-clause-nests : goal.returns-clause-nests
returns-clause-nests c =
    elim c.match-attribute_parts.branch [
      | in-Ok w ↦ rw w.result-is tt
      | in-Err-Refused+in_ok-kind-in-Err-Refused w ↦ rw w.result-is tt
      | in-Err-TooDeep w ↦
          let found = rw (c.as_bytes.ensures.value, w.in-Err-TooDeep.field-0-is) at w.in-Err-TooDeep.ensures.finds in
          rw w.result-is (λ e. attribute_too_deep_left c.args.edition c.args.text.now c.args.nesting c.args.start
          c.requires (failure_is_too_deep found))
      | in-Err-Memory w ↦ rw w.result-is (λ e. cc)
    ]

pub returns-clause-deeper : goal.returns-clause-deeper
returns-clause-deeper c =
    elim c.match-attribute_parts.branch [
      | in-Ok w ↦ rw w.result-is tt
      | in-Err-Refused+in_ok-kind-in-Err-Refused w ↦ rw w.result-is tt
      | in-Err-TooDeep w ↦
          let found = rw (c.as_bytes.ensures.value, w.in-Err-TooDeep.field-0-is) at w.in-Err-TooDeep.ensures.finds in
          rw w.result-is (λ e. failure_is_too_deep found)
      | in-Err-Memory w ↦ rw w.result-is (λ e. cc)
    ]
