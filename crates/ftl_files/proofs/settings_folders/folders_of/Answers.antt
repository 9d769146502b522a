use Rattle.std.proofs.Common.{◌≡◌, ◌∙◌, ap}
use Rattle.std.proofs.lemmas.Result.{err_from_is_err_and}
use Rattle.toml.specs.Data.{table}
use Rattle.toml.specs.View.{table_view, view}
use Rattle.toml.proofs.Views.{view-Table}
use Rattle.ftl_files.proofs.FolderTables.{members_of_folders}
use Rattle.ftl_files.proofs.settings_folders.folders_of.Goals as goal

pub returns-in_err-folders-clause-refused : goal.returns-in_err-folders-clause-refused
returns-in_err-folders-clause-refused c =
    let p = err_from_is_err_and c.from_residual.result c.from_residual.ensures.1 in
    let seen : view c.in-Some.value.now ≡ table (table_view c.in-Table.tables) =
    ap view c.in-Table.is ∙ view-Table c.in-Table.tables in
    rw (p.1, p.2, c.in-Some.is, seen) (λ other folders are. c.in_err-folders.ensures.refused other folders
    (members_of_folders (table_view c.in-Table.tables) folders are))
