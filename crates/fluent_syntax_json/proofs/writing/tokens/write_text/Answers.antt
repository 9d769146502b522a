use Rattle.fluent_syntax_grammar.proofs.Bytes.{Appends-append}
use Rattle.fluent_syntax_json.proofs.writing.tokens.write_text.Goals as goal

pub returns : goal.returns
returns g c =
    let escaped = rw c.as_str.ensures at c.write_escaped.ensures.written in
    let closed = Appends-append escaped c.write_piece-2.ensures.written in
    record { written = Appends-append c.write_piece.ensures.written closed }
