use Rattle.std.proofs.Common.{arith, sym, ◌∙◌}
use Rattle.std.proofs.lemmas.Bool.{false≢true}
use Rattle.ftl_lsp.proofs.FrameLemmas.{line_that_names_length_has_it, length_is_below_line_that_names_none}
use Rattle.ftl_lsp.proofs.FrameLemmas.{last_line_that_names_none_has_no_length}
use Rattle.ftl_lsp.proofs.sessions.header_fields.content_length.Goals as goal

pub returns-then-is_length_field : goal.returns-then-is_length_field
returns-then-is_length_field c =
    c.loop-rest.invariant _
    (line_that_names_length_has_it _ _ _ _ c.line_end-end.ensures c.split_at.ensures.front
    (c.is_length_field.ensures.0 c.if-is_length_field.true) c.length_field_value.ensures)

pub returns-then-rest-end-lt2 : goal.returns-then-rest-end-lt2
returns-then-rest-end-lt2 c =
    c.loop-rest.invariant _
    (last_line_that_names_none_has_no_length _ _ _ c.line_end-end.ensures c.split_at.ensures.front
    (λ names. false≢true (sym c.if-is_length_field.false ∙ c.is_length_field.ensures.1 names)) (omega arith))

pub loop-rest-preserved : goal.loop-rest-preserved
loop-rest-preserved c = λ n has.
    c.loop-rest.invariant n
    (length_is_below_line_that_names_none _ _ _ _ n c.line_end-end.ensures c.split_at.ensures.front
    (λ names. false≢true (sym c.if-is_length_field.false ∙ c.is_length_field.ensures.1 names)) (omega arith)
    c.split_at-in-loop-rest.ensures.back has)
