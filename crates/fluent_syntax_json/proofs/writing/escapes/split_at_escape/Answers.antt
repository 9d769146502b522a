use Rattle.std.proofs.Common.{sym, ◌∙◌, arith}
use Rattle.std.proofs.lemmas.Str.{IsCharBoundary-after_ascii}
use Rattle.fluent_syntax_json.proofs.Escapes.{escaped_is_ascii, plain_bytes_extend_by_plain_byte}
use Rattle.fluent_syntax_json.proofs.writing.escapes.split_at_escape.Goals as goal

pub range_from-requires : goal.range_from-requires
range_from-requires c =
    let text = c.args.text.now in
    let end = c.loop-end.end in
    let within = rw c.as_bytes-bytes.ensures.value at c.loop-end-test.true in
    let stops = sym c.is_plain.ensures ∙ c.if-not-is_plain.true in
    let ascii = escaped_is_ascii _ (rw c.as_bytes-bytes.ensures.value at stops) in
    λ _. IsCharBoundary-after_ascii text end c.utf8.text within ascii

pub loop-end-preserved : goal.loop-end-preserved
loop-end-preserved c =
    let in_place = sym c.is_plain.ensures ∙ c.if-not-is_plain.false in
    record {
      within = omega (arith, c.loop-end-test.true);
      plain = plain_bytes_extend_by_plain_byte c.as_bytes-bytes.result.now c.loop-end.end c.loop-end-test.true in_place
          c.loop-end.invariant.plain;
    }
