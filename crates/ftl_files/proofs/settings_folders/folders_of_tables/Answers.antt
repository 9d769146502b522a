use Rattle.std.proofs.Common.{◌≡◌, ◌∷◌, ◌++◌, ◌∙◌, [], ap, refl, string_bytes, subst, sym}
use Rattle.std.proofs.lemmas.List.{append-nil, append_assoc}
use Rattle.std.proofs.lemmas.Result.{err_from_is_err_and}
use Rattle.toml.specs.Data.{member}
use Rattle.toml.specs.View.{members_view, table_view, view}
use Rattle.toml.proofs.Views.{Entry}
use Rattle.ftl_files.specs.Settings.{AreMembers, IsFolder}
use Rattle.ftl_files.proofs.FolderTables.{first_member_is_no_folder, later_members_have_folders}
use Rattle.ftl_files.proofs.settings_folders.folders_of_tables.Goals as goal

pub returns-in_err-folder_of-clause-refused : goal.returns-in_err-folder_of-clause-refused
returns-in_err-folder_of-clause-refused c =
    let p = err_from_is_err_and c.from_residual.result c.from_residual.ensures.1 in
    let entry : Entry = (c.in-Some.folder.now, c.in-Some.table.now) in
    let step : c.loop-folder.folder-iterator ≡ entry ∷ c.next.new.self = c.in-Some.ensures.steps in
    let refused = rw c.as_str.ensures.value at c.in_err-folder_of.ensures.refused in
    rw (p.1, p.2) (λ other folders are.
    let rest = c.loop-folder.invariant.refused folders are in
    first_member_is_no_folder (string_bytes c.in-Some.folder.now) (view c.in-Some.table.now)
    (members_view c.next.new.self) rest.0 (refused other)
    (subst (λ es. AreMembers (members_view es) rest.0) step rest.1))

pub loop-folder-preserved : goal.loop-folder-preserved
loop-folder-preserved c =
    let entry : Entry = (c.in-Some.folder.now, c.in-Some.table.now) in
    let step : c.loop-folder.folder-iterator ≡ entry ∷ c.next.new.self = c.in-Some.ensures.steps in
    let before = c.loop-folder.folders.items in
    let folder = c.in_ok-folder_of.field-0 in
    let name = string_bytes c.in-Some.folder.now in
    let value = view c.in-Some.table.now in
    let is : IsFolder name value folder = rw c.as_str.ensures.value at c.in_ok-folder_of.ensures.says in
    let added : c.add_folder.new.folders.items ≡ before ++ folder ∷ [] = c.in_ok-add_folder.ensures in
    record {
      says = λ rest are.
          let more : AreMembers (member name value (members_view c.next.new.self)) (folder ∷ rest) = (is, are) in
          subst (λ all. AreMembers (table_view c.args.tables.now) all)
          (sym (append_assoc before (folder ∷ []) rest) ∙ ap (λ fs. fs ++ rest) (sym added))
          (c.loop-folder.invariant.says (folder ∷ rest)
          (subst (λ es. AreMembers (members_view es) (folder ∷ rest)) (sym step) more));
      refused = λ all are.
          let rest = c.loop-folder.invariant.refused all are in
          later_members_have_folders name value (members_view c.next.new.self) rest.0
          (subst (λ es. AreMembers (members_view es) rest.0) step rest.1);
    }

pub returns-clause-says : goal.returns-clause-says
returns-clause-says c =
    subst (λ all. AreMembers (table_view c.args.tables.now) all) (append-nil c.loop-folder.folders.items)
    (c.loop-folder.invariant.says []
    (subst (λ es. AreMembers (members_view es) []) (sym c.in-None.ensures.steps.0) refl))
