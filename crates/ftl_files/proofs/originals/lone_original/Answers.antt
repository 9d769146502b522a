use Rattle.ftl_files.proofs.OriginalLemmas.{failed_test_means_other_name}
use Rattle.ftl_files.proofs.originals.lone_original.Goals as goal

pub returns-clause-some : goal.returns-clause-some
returns-clause-some c = (failed_test_means_other_name _ _ _ c.eq.ensures c.if-eq.false, c.in_ok-original.ensures)
