use Rattle.fluent_syntax_grammar.proofs.Bytes.{Appends-bytes}
use Rattle.fluent_syntax_json.proofs.Escapes.{control_byte_is_escaped_in_hex}
use Rattle.fluent_syntax_json.proofs.writing.tokens.write_escape.Goals as goal

pub returns-in-None : goal.returns-in-None
returns-in-None g c =
    let control = control_byte_is_escaped_in_hex c.args.byte c.requires c.in-None.ensures in
    record { written = Appends-bytes control c.write_control.ensures.written }

pub returns-in-Some : goal.returns-in-Some
returns-in-Some g c = record { written = rw (← c.in-Some.ensures) c.write_piece.ensures.written }
