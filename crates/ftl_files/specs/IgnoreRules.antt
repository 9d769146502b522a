-- What is not reported: kinds, and names of them.
use Rattle.std.specs.Prelude.{ℕ, Bool, ◌&&◌, ◌||◌, List, [], ◌∷◌, ◌++◌, string_bytes}
use Rattle.std.specs.List.{list_any}
use Rattle.std.specs.Str.{bytes_eq}
use Rattle.ftl_files.specs.Kinds.{reported_name}
use Rattle.ftl_files.specs.Patterns.{is_empty, name_matches}
use Rattle.ftl_files.specs.declared.ignore_rules.IgnoreRule.{IgnoreRule}
use Rattle.ftl_files.specs.declared.kinds.ReportedKind.{ReportedKind}

-- the name after a `:`; nothing where every name is meant
abbrev pub name_text : (name : List ℕ) → List ℕ
name_text [] = []
name_text (byte ∷ name) = 58 ∷ byte ∷ name

-- the rule, as a text says it
abbrev pub rule_text : IgnoreRule → List ℕ
rule_text rule = reported_name rule.kind ++ name_text (string_bytes rule.name)

-- whether the rule leaves out what is of the kind and has the name
abbrev pub covers : ReportedKind → (name : List ℕ) → IgnoreRule → Bool
covers kind name rule =
    bytes_eq (reported_name rule.kind) (reported_name kind)
    && (is_empty (string_bytes rule.name) || name_matches (string_bytes rule.name) name)

-- whether one of the rules does
abbrev pub is_ignored : List IgnoreRule → ReportedKind → (name : List ℕ) → Bool
is_ignored rules kind name = list_any (covers kind name) rules
