use Rattle.ftl.proofs.FormattedAgain as again
use Rattle.ftl.proofs.laws.formatting_is_idempotent.Goals as goal

pub returns : goal.returns
returns c = again.formatting_is_idempotent c.args.text.now
