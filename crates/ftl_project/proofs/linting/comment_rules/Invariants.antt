use Rattle.std.proofs.Common.{◌≡◌, take}
use Rattle.ftl_project.specs.Linting.{name_indexes_of}
use Rattle.ftl_project.proofs.linting.comment_rules.Given as goal

abbrev pub invariant-loop-name_index : goal.invariant-loop-name_index
invariant-loop-name_index l = record {
  said : name_indexes_of l.comments.items ≡ take l.name_index-index l.name_indexes;
}
