use Rattle.fluent_syntax_grammar.proofs.Bytes.{Appends-append}
use Rattle.fluent_syntax_json.proofs.writing.tokens.write_control.Goals as goal

pub returns : goal.returns
returns g c =
    let high = rw c.hexadecimal_digit.ensures at c.write_piece-2.ensures.written in
    let low = rw c.hexadecimal_digit-2.ensures at c.write_piece-3.ensures.written in
    record { written = Appends-append c.write_piece.ensures.written (Appends-append high low) }
