use Rattle.ftl.proofs.KeptAgain as again
use Rattle.ftl.proofs.laws.keeping_is_idempotent.Goals as goal

pub returns : goal.returns
returns c = again.keeping_is_idempotent c.args.text.now
