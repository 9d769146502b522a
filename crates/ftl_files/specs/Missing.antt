-- What is reported of what one of two files is missing.
use Rattle.std.specs.Prelude.{ℕ, Bool, true, not, ◌&&◌, List, Option, None, Some}
use Rattle.fluent_syntax_names.specs.Differences.{side_difference}
use Rattle.fluent_syntax_names.specs.ShownNames.{shown_name}
use Rattle.fluent_syntax_names.specs.declared.differences.Difference.{Difference}
use Rattle.fluent_syntax_names.specs.declared.differences.Side.{Side}
use Rattle.fluent_syntax_names.specs.declared.missing_part.MissingPart.{MissingPart}
use Rattle.fluent_syntax_names.specs.declared.name_index.NameIndex.{NameIndex}
use Rattle.ftl_files.specs.CommentRules.{is_part_left_out}
use Rattle.ftl_files.specs.IgnoreRules.{is_ignored}
use Rattle.ftl_files.specs.declared.ignore_rules.IgnoreRule.{IgnoreRule}
use Rattle.ftl_files.specs.declared.kinds.ReportedKind.{ReportedKind}
use Rattle.ftl_files.specs.declared.kinds.ReportedKind.TheVariants as kinds

-- whether neither a rule leaves out what is of the kind and has the name, nor a comment, where it leaves this out
abbrev pub is_difference_reported : List IgnoreRule → (leaves_out : ReportedKind → List ℕ → Bool) → (name : List ℕ) →
    Option Difference → Bool
is_difference_reported ignored leaves_out name None = true
is_difference_reported ignored leaves_out name (Some difference) =
    not (is_ignored ignored (kinds.Difference difference) name) && not (leaves_out (kinds.Difference difference) name)

-- whether a part that the one file has and the other one lacks is reported
abbrev pub is_part_reported : List IgnoreRule → Side → (own other : NameIndex) → MissingPart → Bool
is_part_reported ignored side own other missing =
    is_difference_reported ignored (is_part_left_out side own other missing) (shown_name own.text.now missing.name)
    (side_difference side missing.part)
