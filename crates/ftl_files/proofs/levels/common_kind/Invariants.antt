use Rattle.std.proofs.Common.{◌≡◌, drop}
use Rattle.ftl_files.specs.Levels.{have_common_kind}
use Rattle.ftl_files.proofs.levels.common_kind.Given as goal

-- none so far
abbrev pub invariant-loop-kind : goal.invariant-loop-kind
invariant-loop-kind l = record {
  left : have_common_kind (drop l.kind-index l.warned) l.denied ≡ have_common_kind l.warned l.denied;
}
