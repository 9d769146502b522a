use Rattle.std.proofs.lemmas.Result.{IfOk-weaker}
use Rattle.fluent_syntax_tree.specs.Entry.{body_map}
use Rattle.fluent_syntax_tree.specs.Spans.{bytes_at}
use Rattle.fluent_syntax_parser.specs.Rest.{AnswersIn}
use Rattle.fluent_syntax.specs.Errors.{ErrorsAscend, JunkIsRefused}
use Rattle.fluent_syntax.proofs.ErrorLemmas.{errors_of_answer_ascend, junk_of_answer_is_refused}
use Rattle.fluent_syntax.proofs.entries.parse_by.Goals as goal

pub returns-clause-tiling : goal.returns-clause-tiling
returns-clause-tiling g c = rw (c.new-slices.ensures, c.as_str.ensures) at c.parse_texts.ensures.tiling

pub returns-clause-junk : goal.returns-clause-junk
returns-clause-junk g c =
    let t = g.S.Slice.text c.args.input.now in
    let options = c.args.options in
    IfOk-weaker c.parse_texts.result
    (AnswersIn g.S.Slice.text (body_map (bytes_at t)) options.comments options.edition t)
    (JunkIsRefused t g.S.Slice.text)
    (λ answer there. junk_of_answer_is_refused g.S.Slice.text options.edition t answer options.comments there)
    (returns-clause-tiling g c)

pub returns-clause-errors : goal.returns-clause-errors
returns-clause-errors g c =
    let t = g.S.Slice.text c.args.input.now in
    let options = c.args.options in
    IfOk-weaker c.parse_texts.result
    (AnswersIn g.S.Slice.text (body_map (bytes_at t)) options.comments options.edition t) (ErrorsAscend t)
    (λ answer there. errors_of_answer_ascend g.S.Slice.text options.edition t answer options.comments there)
    (returns-clause-tiling g c)
