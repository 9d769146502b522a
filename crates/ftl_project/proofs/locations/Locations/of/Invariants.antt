use Rattle.std.proofs.Common.{◌≡◌}
use Rattle.std.specs.Prelude.{All}
use Rattle.ftl_project.specs.Locations.{IsLocated}
use Rattle.ftl_project.proofs.locations.Locations.of.Given as goal

abbrev pub invariant-loop-name : goal.invariant-loop-name
invariant-loop-name l = record {
  lines : l.lines ≡ l.text;
  located : All (IsLocated l.text) l.locations.items;
}
