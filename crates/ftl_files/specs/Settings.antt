-- What the document of an `ftl.toml` says.
use Rattle.std.specs.Prelude.{◌≡◌, ◌⊎◌, ◌<◌, ◌^◌, ℕ, List, [], ◌∷◌, map, Option, Some, None, Bool, true, ◌&&◌, ◌||◌}
use Rattle.std.specs.Prelude.{IfSome, String, codes, false, option_map, pos, string_bytes}
use Rattle.std.specs.declared.alloc.Global.{Global}
use Rattle.std.specs.Str.{bytes_eq}
use Rattle.toml.specs.Data.{Data, Members, array, get_member, integer, member, no_members, string, table}
use Rattle.toml.specs.View.{items_of}
use Rattle.fluent_syntax_tree.specs.declared.edition.Edition.{Edition}
use Rattle.ftl_files.specs.IgnoreRules.{rule_text}
use Rattle.ftl_files.specs.Kinds.{reported_name}
use Rattle.ftl_files.specs.Levels.{have_common_kind}
use Rattle.ftl_files.specs.Options.{blank_lines_name, color_name, edition_number, output_name}
use Rattle.ftl_files.specs.declared.ignore_rules.IgnoreRule.{IgnoreRule}
use Rattle.ftl_files.specs.declared.kinds.ReportedKind.{ReportedKind}
use Rattle.ftl_files.specs.declared.options.BlankLines.{BlankLines}
use Rattle.ftl_files.specs.declared.options.Color.{Color}
use Rattle.ftl_files.specs.declared.options.Output.{Output}
use Rattle.ftl_files.specs.declared.settings.FolderRules.{FolderRules}
use Rattle.ftl_files.specs.declared.settings.Settings.{Settings}

-- keys that have a meaning
abbrev pub is_known : List ℕ → Bool
is_known key =
    bytes_eq key (codes "reference") || bytes_eq key (codes "ignore") || bytes_eq key (codes "warn")
    || bytes_eq key (codes "deny") || bytes_eq key (codes "exclude")
    || bytes_eq key (codes "edition") || bytes_eq key (codes "output") || bytes_eq key (codes "nesting")
    || bytes_eq key (codes "color") || bytes_eq key (codes "blank-lines")
    || bytes_eq key (codes "folders")

abbrev pub are_known : Members → Bool
are_known no_members = true
are_known (member key value members) = is_known key && are_known members

-- the reference is the text of its key, or there is neither
abbrev pub IsReference : Option Data → Option (String Global) → Type 0
IsReference value reference = value ≡ option_map (λ path. string (string_bytes path)) reference

-- the things are those that the list of its key names, one by one; or there is no such key
abbrev pub IsListed : {A : Type 0} (named : A → Data) → Option Data → List A → Type 0
IsListed named value things =
    ((value ≡ None) × (things ≡ [])) ⊎ (value ≡ Some (array (items_of (map named things))))

-- the rules are those that these texts say
abbrev pub IsIgnored : Option Data → List IgnoreRule → Type 0
IsIgnored value rules = IsListed (λ rule. string (rule_text rule)) value rules

-- the kinds are those that have these names
abbrev pub AreKinds : Option Data → List ReportedKind → Type 0
AreKinds value kinds = IsListed (λ kind. string (reported_name kind)) value kinds

-- what is excluded is named as it is spelled
abbrev pub IsExcluded : Option Data → List (String Global) → Type 0
IsExcluded value texts = IsListed (λ text. string (string_bytes text)) value texts

-- the edition is that of the number of its key, or there is neither
abbrev pub IsEdition : Option Data → Option Edition → Type 0
IsEdition value edition = value ≡ option_map (λ e. integer (edition_number e)) edition

-- the form is that of the name of its key, or there is neither
abbrev pub IsOutput : Option Data → Option Output → Type 0
IsOutput value output = value ≡ option_map (λ o. string (output_name o)) output

-- the nesting is the number of its key, which is one of 32 bits, or there is neither
abbrev pub IsNesting : Option Data → Option ℕ → Type 0
IsNesting value nesting = (value ≡ option_map (λ n. integer (pos n)) nesting) × IfSome nesting (λ n. n < 2 ^ 32)

-- when there are colours is said by the name of its key, or there is neither
abbrev pub IsColor : Option Data → Option Color → Type 0
IsColor value color = value ≡ option_map (λ c. string (color_name c)) color

-- what becomes of blank lines is said by the name of its key, or there is neither
abbrev pub IsBlankLines : Option Data → Option BlankLines → Type 0
IsBlankLines value blank_lines = value ≡ option_map (λ b. string (blank_lines_name b)) blank_lines

-- the one key that has a meaning in the table of a folder
abbrev pub say_only_ignore : Members → Bool
say_only_ignore no_members = true
say_only_ignore (member key value members) = bytes_eq key (codes "ignore") && say_only_ignore members

-- the folder has this name, and its rules are those that its table says
abbrev pub IsFolder : (name : List ℕ) → Data → FolderRules → Type 0
IsFolder name value rules =
    (name ≡ string_bytes rules.folder) × (members : Members) × (value ≡ table members)
    × (say_only_ignore members ≡ true) × IsIgnored (get_member (codes "ignore") members) rules.ignored.items

-- the folders are the members, one by one
abbrev pub AreMembers : Members → List FolderRules → Type 0
AreMembers no_members folders = folders ≡ []
AreMembers (member _ _ _) [] = ⊥
AreMembers (member name value members) (folder ∷ folders) = IsFolder name value folder × AreMembers members folders

-- the folders are those that have tables in the table of the key; or there is no such key
abbrev pub AreFolders : Option Data → List FolderRules → Type 0
AreFolders value folders =
    ((value ≡ None) × (folders ≡ []))
    ⊎ ((members : Members) × (value ≡ Some (table members)) × AreMembers members folders)

pub record Says (document : Members) (settings : Settings) : Type 0 where
  pub known : are_known document ≡ true
  pub reference : IsReference (get_member (codes "reference") document) settings.reference
  pub ignored : IsIgnored (get_member (codes "ignore") document) settings.ignored.items
  pub warned : AreKinds (get_member (codes "warn") document) settings.warned.items
  pub denied : AreKinds (get_member (codes "deny") document) settings.denied.items
  pub apart : have_common_kind settings.warned.items settings.denied.items ≡ false
  pub excluded : IsExcluded (get_member (codes "exclude") document) settings.excluded.items
  pub edition : IsEdition (get_member (codes "edition") document) settings.edition
  pub output : IsOutput (get_member (codes "output") document) settings.output
  pub nesting : IsNesting (get_member (codes "nesting") document) settings.nesting
  pub color : IsColor (get_member (codes "color") document) settings.color
  pub blank_lines : IsBlankLines (get_member (codes "blank-lines") document) settings.blank_lines
  pub folders : AreFolders (get_member (codes "folders") document) settings.folders.items
