use Rattle.std.proofs.Common.{rules}
use Rattle.fluent_syntax_grammar.proofs.Bytes.{Appends-bytes}
use Rattle.fluent_syntax_grammar.proofs.Remaining.{RemainingBytes-more, RemainingBytes-last}
use Rattle.fluent_syntax_json.proofs.writing.tokens.write_escaped.Goals as goal

pub loop-plain-preserved : goal.loop-plain-preserved
loop-plain-preserved g c =
    let rest = rw c.in-Some.ensures.parts at c.loop-plain.invariant.rest in
    let escape_left = RemainingBytes-more rest c.write_piece.ensures.written in
    record { is_text = search rules; rest = RemainingBytes-more escape_left c.write_escape.ensures.written }

pub returns : goal.returns
returns g c =
    let plain = rw c.in_default.is at c.split_at_escape.ensures.parts in
    record {
      written = RemainingBytes-last c.loop-plain.invariant.rest
          (Appends-bytes plain c.write_piece-2.ensures.written);
    }
