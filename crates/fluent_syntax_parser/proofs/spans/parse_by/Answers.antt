use Rattle.std.proofs.lemmas.Result.{IfOk-weaker}
use Rattle.fluent_syntax_tree.specs.Entry.{body_map}
use Rattle.fluent_syntax_parser.specs.Rest.{AnswersIn, AnswersSpansIn}
use Rattle.fluent_syntax_parser.specs.Parts.{HasParts}
use Rattle.fluent_syntax_parser.proofs.tilings.AnswerOf.{answer_is_in_spans}
use Rattle.fluent_syntax_parser.proofs.tilings.PartsOfTiling.{answer_has_parts_in_text}
use Rattle.fluent_syntax_parser.proofs.spans.parse_by.Goals as goal

pub returns-clause-tiling : goal.returns-clause-tiling
returns-clause-tiling c =
    let t = c.args.source.now in
    let options = c.args.options in
    IfOk-weaker c.parse_texts.result (AnswersIn (λ s. s) (body_map (λ s. s)) options.comments options.edition t)
    (AnswersSpansIn options.comments options.edition t)
    (λ answer there. answer_is_in_spans options.comments options.edition t answer there) c.parse_texts.ensures.tiling

pub returns-clause-spans : goal.returns-clause-spans
returns-clause-spans c =
    let t = c.args.source.now in
    let options = c.args.options in
    IfOk-weaker c.parse_texts.result (AnswersSpansIn options.comments options.edition t) (HasParts t)
    (λ answer there. answer_has_parts_in_text t options.comments options.edition answer c.utf8.source there)
    (returns-clause-tiling c)
