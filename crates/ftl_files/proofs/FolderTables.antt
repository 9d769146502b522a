-- Folders and the members that name them.
use Rattle.std.proofs.Common.{◌≡◌, ◌∙◌, ◌∷◌, ℕ, [], List, Some, codes, inl, inr, subst, sym}
use Rattle.toml.specs.Data.{Data, Members, get_member, member, table}
use Rattle.ftl_files.specs.Settings.{AreFolders, AreMembers, IsFolder, IsIgnored}
use Rattle.ftl_files.specs.declared.ignore_rules.IgnoreRule.{IgnoreRule}
use Rattle.ftl_files.specs.declared.settings.FolderRules.{FolderRules}

tables_are_injective : (members others : Members) → table members ≡ table others → members ≡ others
tables_are_injective ms others same = cc

some_tables_are_injective : (members others : Members) → Some (table members) ≡ Some (table others) →
    members ≡ others
some_tables_are_injective ms others same = cc

-- a table says nothing of a folder where its `ignore` says no rules
pub table_of_wrong_ignore_is_no_folder : (name : List ℕ) (value : Data) (members : Members) (rules : FolderRules) →
    value ≡ table members →
    ((ignored : List IgnoreRule) → IsIgnored (get_member (codes "ignore") members) ignored → ⊥) →
    IsFolder name value rules → ⊥
table_of_wrong_ignore_is_no_folder name value members rules at none is =
    let same : is.1 ≡ members = tables_are_injective is.1 members (sym is.2 ∙ at) in
    none rules.ignored.items
    (subst (λ m. IsIgnored (get_member (codes "ignore") m) rules.ignored.items) same is.4)

-- the folders of a table are those of its members
pub members_of_folders : (members : Members) (folders : List FolderRules) →
    AreFolders (Some (table members)) folders → AreMembers members folders
members_of_folders ms folders (inl none) = let other = none.0 in cc
members_of_folders ms folders (inr found) =
    subst (λ m. AreMembers m folders) (sym (some_tables_are_injective ms found.0 found.1)) found.2

-- without the first of them, members are those of folders
pub later_members_have_folders : (name : List ℕ) (value : Data) (members : Members) (folders : List FolderRules) →
    AreMembers (member name value members) folders → (rest : List FolderRules) × AreMembers members rest
later_members_have_folders name value rest [] none = absurd none
later_members_have_folders name value rest (folder ∷ folders) are = (folders, are.1)

pub first_member_is_no_folder : (name : List ℕ) (value : Data) (members : Members) (folders : List FolderRules) →
    ((rules : FolderRules) → IsFolder name value rules → ⊥) → AreMembers (member name value members) folders → ⊥
first_member_is_no_folder name value rest [] other none = none
first_member_is_no_folder name value rest (folder ∷ folders) other are = other folder are.0
