use Rattle.std.proofs.Common.{ap, ◌∙◌}
use Rattle.std.specs.Prelude.{option_and_then}
use Rattle.ftl_lsp.specs.Edits.{position_in}
use Rattle.ftl_lsp.proofs.sessions.params.position_param.Goals as goal

pub returns-in-Some : goal.returns-in-Some
returns-in-Some c = c.position_of.ensures ∙ ap (option_and_then position_in) c.in-Some.ensures
