use Rattle.std.proofs.lemmas.Result.{IfOk-weaker}
use Rattle.fluent_syntax_parser.proofs.reader.Reader.add_positional.Goals as goal

pub returns : goal.returns
returns g c =
    IfOk-weaker c.add.result _ _
    (λ done pushed. (_, pushed, λ old tree added. (c.take_inline.ensures old tree added).1)) c.add.ensures.added
