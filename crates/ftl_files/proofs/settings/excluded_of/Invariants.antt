use Rattle.std.proofs.Common.{◌≡◌, ◌++◌, drop, map}
use Rattle.toml.specs.Data.{string}
use Rattle.toml.specs.View.{view}
use Rattle.std.specs.Prelude.{string_bytes}
use Rattle.ftl_files.proofs.settings.excluded_of.Given as goal

-- the values are the texts so far, and those that are left
abbrev pub invariant-loop-text : goal.invariant-loop-text
invariant-loop-text l = record {
  named :
      map view l.text-items
      ≡ map (λ text. string (string_bytes text)) l.texts.items ++ map view (drop l.text-index l.text-items);
}
