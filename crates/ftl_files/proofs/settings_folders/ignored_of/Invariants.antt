use Rattle.std.proofs.Common.{◌≡◌, ◌++◌, drop, map}
use Rattle.toml.specs.Data.{string}
use Rattle.toml.specs.View.{view}
use Rattle.ftl_files.specs.IgnoreRules.{rule_text}
use Rattle.ftl_files.proofs.settings_folders.ignored_of.Given as goal

-- the values are the texts of the rules so far, and those that are left
abbrev pub invariant-loop-text : goal.invariant-loop-text
invariant-loop-text l = record {
  named :
      map view l.text-items
      ≡ map (λ rule. string (rule_text rule)) l.rules.items ++ map view (drop l.text-index l.text-items);
}
