use Rattle.std.proofs.Common.{◌++◌, List}
use Rattle.toml.specs.View.{members_view, table_view}
use Rattle.ftl_files.specs.Settings.{AreMembers}
use Rattle.ftl_files.specs.declared.settings.FolderRules.{FolderRules}
use Rattle.ftl_files.proofs.settings_folders.folders_of_tables.Given as goal

-- the folders so far and those of the entries that are left are those of the table
abbrev pub invariant-loop-folder : goal.invariant-loop-folder
invariant-loop-folder l = record {
  says :
      (rest : List FolderRules) → AreMembers (members_view l.folder-iterator) rest
      → AreMembers (table_view l.fn.tables) (l.folders.items ++ rest);
  refused :
      (all : List FolderRules) → AreMembers (table_view l.fn.tables) all
      → (rest : List FolderRules) × AreMembers (members_view l.folder-iterator) rest;
}
