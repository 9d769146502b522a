use Rattle.std.proofs.Common.{◌∙◌, ap, arith, drop}
use Rattle.std.specs.List.{take_while}
use Rattle.std.proofs.lemmas.List.{drop_min}
use Rattle.fluent_syntax_grammar.specs.Bytes.{is_name_byte}
use Rattle.fluent_syntax_parser.proofs.scanning.NameTexts.{text_of_byte_run_is_taken_while}
use Rattle.fluent_syntax_parser.proofs.source.Source.name_text.Goals as goal

pub returns : goal.returns
returns c =
    let t = c.args.self.now.bytes.now in
    text_of_byte_run_is_taken_while t is_name_byte _ _
    (omega (arith, c.min-start.ensures)) c.name_end-end.ensures.within
    c.name_end-end.ensures.name
    ∙ ap (λ start. take_while is_name_byte (drop start t)) c.min-start.ensures
    ∙ ap (take_while is_name_byte) (drop_min c.args.start t)
