use Rattle.std.proofs.Common.{◌≡◌, ◌++◌, drop, map}
use Rattle.toml.specs.Data.{string}
use Rattle.toml.specs.View.{view}
use Rattle.ftl_files.specs.Kinds.{reported_name}
use Rattle.ftl_files.proofs.settings_kinds.kinds_of.Given as goal

-- the values are the names of the kinds so far, and those that are left
abbrev pub invariant-loop-name : goal.invariant-loop-name
invariant-loop-name l = record {
  named :
      map view l.name-items
      ≡ map (λ kind. string (reported_name kind)) l.kinds.items ++ map view (drop l.name-index l.name-items);
}
