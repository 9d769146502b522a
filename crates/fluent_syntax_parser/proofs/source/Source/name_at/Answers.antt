use Rattle.std.proofs.Common.{refl}
use Rattle.fluent_syntax_parser.proofs.expressions.ArgumentNames.{one_name_is_read, refused_is_not_read}
use Rattle.fluent_syntax_parser.proofs.source.Source.name_at.Goals as goal

pub returns-in-Ok-clause-name : goal.returns-in-Ok-clause-name
returns-in-Ok-clause-name c = λ name end read. one_name_is_read c.args.self.now.bytes.now c.in-Ok.ensures.parses read

pub returns-in-Ok-clause-in_place : goal.returns-in-Ok-clause-in_place
returns-in-Ok-clause-in_place c = (c.in-Ok.end, c.in-Ok.ensures.parses)

pub returns-in-Err-clause-name : goal.returns-in-Err-clause-name
returns-in-Err-clause-name c = λ name end read.
    refused_is_not_read c.args.self.now.bytes.now (c.in-Err.ensures.parses _ _ _ (refl, refl, refl)) read
