use Rattle.std.proofs.Common.{◌≡◌, ◌-◌, ◌<◌, false, sym, arith}
use Rattle.std.specs.Prelude.{◌&&◌}
use Rattle.fluent_syntax_grammar.specs.Bytes.{lf, cr}
use Rattle.fluent_syntax_grammar.specs.Places.{has_byte}
use Rattle.fluent_syntax_grammar.proofs.Tests.{and_is_false_by_left, and_is_false_by_right}
use Rattle.fluent_syntax_parser.proofs.patterns.Runs.{passed_bytes_are_longest_run, run_ends_before_crlf}
use Rattle.fluent_syntax_parser.proofs.source.Source.run_end.Goals as goal
use Rattle.fluent_syntax_parser.proofs.source.Source.run_end.Goals.{
  else-end-ptr-via-then-end-ptr+then-is_byte_at+else-is_byte_at-2,
}
use Rattle.fluent_syntax_parser.proofs.source.Source.run_end.Goals.{else-end-ptr-via-then-end-ptr+else-is_byte_at}
use Rattle.fluent_syntax_parser.proofs.source.Source.run_end.Goals.{else-end-ptr-via-else-end-ptr}

pub returns-then-is_byte_at-2-clause-run : goal.returns-then-is_byte_at-2-clause-run
returns-then-is_byte_at-2-clause-run c =
    run_ends_before_crlf c.args.self.now.bytes.now c.args.ptr c.text_end-end.result c.text_end-end.ensures.text
    (omega (arith, c.if-end-ptr.true)) (sym c.if-is_byte_at-2.ensures) (sym c.if-is_byte_at.ensures)

pub returns-else-end-ptr-clause-run : goal.returns-else-end-ptr-clause-run
returns-else-end-ptr-clause-run c =
    let t = c.args.self.now.bytes.now in
    let m = c.text_end-end.result in
    let last : c.args.ptr < m → (has_byte t cr (m - 1) && has_byte t lf m) ≡ false = λ l.
    elim c.else-end-ptr.branch [
      | else-end-ptr-via-then-end-ptr+then-is_byte_at+else-is_byte_at-2 w ↦ and_is_false_by_left (has_byte t cr (m - 1))
          (has_byte t lf m)
          (sym w.if-is_byte_at-2.ensures)
      | else-end-ptr-via-then-end-ptr+else-is_byte_at w ↦
          and_is_false_by_right (has_byte t cr (m - 1)) (has_byte t lf m) (sym w.if-is_byte_at.ensures)
      | else-end-ptr-via-else-end-ptr w ↦ absurd (omega (arith, w.if-end-ptr.false, l))
    ] in
    passed_bytes_are_longest_run t c.args.ptr m c.text_end-end.ensures.text last
