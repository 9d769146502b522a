use Rattle.std.proofs.Common.{string_bytes}
use Rattle.serde_json.specs.View.{view}
use Rattle.fluent_syntax_tree.specs.View.{resource_view}
use Rattle.fluent_syntax_json.specs.Reading.{body_in}
use Rattle.fluent_syntax_json.proofs.Outcomes.{answers-Ok, answers-Shape, answers-none}
use Rattle.fluent_syntax_json.proofs.reading.entries.from_value.Goals as goal

pub returns-clause-spelled : goal.returns-clause-spelled
returns-clause-spelled c =
    answers-Ok (resource_view string_bytes) (body_in (view c.args.v.now)) c.resource.result c.resource.ensures

pub returns-clause-none : goal.returns-clause-none
returns-clause-none c =
    answers-Shape (resource_view string_bytes) (body_in (view c.args.v.now)) c.resource.result c.resource.ensures

pub returns-clause-refused : goal.returns-clause-refused
returns-clause-refused c =
    answers-none (resource_view string_bytes) (body_in (view c.args.v.now)) c.resource.result c.resource.ensures
