use Rattle.std.proofs.Common.{◌≡◌}
use Rattle.toml.specs.View.{members_view, table_view}
use Rattle.ftl_files.specs.Settings.{say_only_ignore}
use Rattle.ftl_files.proofs.settings_folders.check_folder_keys.Given as goal

-- what is left has an unknown key exactly where the table has one
abbrev pub invariant-loop-key : goal.invariant-loop-key
invariant-loop-key l = record {
  known : say_only_ignore (members_view l.key-iterator) ≡ say_only_ignore (table_view l.table);
}
