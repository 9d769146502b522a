use Rattle.std.proofs.Common.{ap, ◌∙◌, string_bytes}
use Rattle.fluent_syntax_tree.specs.View.{resource_view}
use Rattle.fluent_syntax_json.specs.Reading.{body_in}
use Rattle.fluent_syntax_json.proofs.Back.{body_form_reads_back}
use Rattle.fluent_syntax_json.proofs.Outcomes.{reading_is_unique}
use Rattle.fluent_syntax_json.proofs.laws.form_reads.Goals as goal

pub returns-clause-spelled : goal.returns-clause-spelled
returns-clause-spelled c = λ v is. ap body_in is ∙ body_form_reads_back (resource_view string_bytes c.args.r.now)

pub returns-clause-alone : goal.returns-clause-alone
returns-clause-alone c = λ v other is reads.
    reading_is_unique (body_in v) other (resource_view string_bytes c.args.r.now) reads
    (ap body_in is ∙ body_form_reads_back (resource_view string_bytes c.args.r.now))

pub returns-clause-unique : goal.returns-clause-unique
returns-clause-unique c = λ v one other. reading_is_unique (body_in v) one other
