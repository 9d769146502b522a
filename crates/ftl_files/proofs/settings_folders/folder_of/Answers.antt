use Rattle.std.proofs.Common.{◌≡◌, ◌∙◌, ap, sym}
use Rattle.std.proofs.lemmas.Result.{err_from_is_err_and}
use Rattle.std.specs.Prelude.{codes}
use Rattle.toml.specs.Data.{table}
use Rattle.toml.specs.View.{table_view, view}
use Rattle.toml.proofs.Views.{table_get, view-Table}
use Rattle.ftl_files.proofs.FolderTables.{table_of_wrong_ignore_is_no_folder}
use Rattle.ftl_files.proofs.settings_folders.folder_of.Goals as goal

pub returns-in_err-ignored-clause-refused : goal.returns-in_err-ignored-clause-refused
returns-in_err-ignored-clause-refused c =
    let p = err_from_is_err_and c.from_residual-in_err-ignored.result c.from_residual-in_err-ignored.ensures.1 in
    let value = table_get c.get.result (codes "ignore") c.in-Table.table.entries c.get.ensures.value in
    let refused = rw value at c.in_err-ignored.ensures.refused in
    let seen : view c.args.value.now ≡ table (table_view c.in-Table.table) =
    ap view c.in-Table.is ∙ view-Table c.in-Table.table in
    rw (p.1, p.2) (λ other rules is. table_of_wrong_ignore_is_no_folder c.args.folder.now (view c.args.value.now)
    (table_view c.in-Table.table) rules seen (refused other) is)

pub returns-clause-says : goal.returns-clause-says
returns-clause-says c =
    let value = table_get c.get.result (codes "ignore") c.in-Table.table.entries c.get.ensures.value in
    let seen : view c.args.value.now ≡ table (table_view c.in-Table.table) =
    ap view c.in-Table.is ∙ view-Table c.in-Table.table in (
      sym c.in_ok-folder.ensures.ok,
      table_view c.in-Table.table,
      seen,
      c.in_ok-check_folder_keys.ensures.known,
      rw value at c.in_ok-ignored.ensures.says,
    )
