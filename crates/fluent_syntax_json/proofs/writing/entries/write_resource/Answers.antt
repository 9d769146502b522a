use Rattle.fluent_syntax_grammar.proofs.Bytes.{Appends-append, Appends-bytes}
use Rattle.fluent_syntax_json.proofs.Bodies.{unclosed_text-closed}
use Rattle.fluent_syntax_json.proofs.writing.entries.write_resource.Goals as goal

pub returns-clause-written : goal.returns-clause-written
returns-clause-written g c =
    let closed = Appends-append c.write_entries.ensures.written c.write_piece-2.ensures.written in
    Appends-bytes (unclosed_text-closed _) (Appends-append c.write_piece.ensures.written closed)

pub returns-clause-same_sink : goal.returns-clause-same_sink
returns-clause-same_sink g c = (returns-clause-written g c).same_sink
