-- What a watched reader or writer shows.
use Rattle.std.specs.Prelude.{Bool}
use Rattle.ftl.specs.declared.watched.Watched.{Watched}

abbrev pub inner_of : {T : Type 0} → Watched T → T
inner_of w = w.inner

abbrev pub has_failed : {T : Type 0} → Watched T → Bool
has_failed w = w.failed
