use Rattle.std.proofs.Common.{◌≡◌}
use Rattle.toml.specs.View.{members_view, table_view}
use Rattle.ftl_files.specs.Settings.{are_known}
use Rattle.ftl_files.proofs.settings.check_keys.Given as goal

-- what is left has an unknown key exactly where the table has one
abbrev pub invariant-loop-key : goal.invariant-loop-key
invariant-loop-key l = record { known : are_known (members_view l.key-iterator) ≡ are_known (table_view l.table) }
