-- What one of two texts has and the other lacks, as rows.
use Rattle.std.specs.Prelude.{◌≡◌, ◌++◌, ℕ, List, [], ◌∷◌, Option, Some, None}
use Rattle.std.specs.List.{flat_map}
use Rattle.fluent_syntax_names.specs.Differences.{side_difference}
use Rattle.fluent_syntax_names.specs.MissingParts.{all_missing_parts}
use Rattle.fluent_syntax_names.specs.declared.missing_part.MissingPart.{MissingPart}
use Rattle.fluent_syntax_names.specs.declared.name_index.NameIndex.{NameIndex}
use Rattle.ftl.specs.declared.outcome.Outcome.{Outcome}
use Rattle.fluent_syntax_c.specs.Findings.{finding_row_of}
use Rattle.fluent_syntax_c.specs.NameIndexes.{IsEditionNameIndex, either_outcome}
use Rattle.fluent_syntax_names.specs.declared.differences.Side.{Side}
use Rattle.fluent_syntax_names.specs.declared.differences.Side.TheVariants.{Reference, Other}
use Rattle.fluent_syntax_c.specs.declared.findings.FtlFinding.{FtlFinding}
use Rattle.fluent_syntax_names.specs.declared.differences.Difference.{Difference}
use Rattle.fluent_syntax_c.specs.declared.finding_kinds.FindingKind.TheVariants.{Between}

-- the number of the text
abbrev pub side_number : Side → ℕ
side_number Reference = 0
side_number Other = 1

module _ (side : Side) (text : List ℕ) where
  -- the row of a difference at the name, where there is one
  abbrev pub difference_rows : Option Difference → MissingPart → List FtlFinding
  difference_rows None missing = []
  difference_rows (Some difference) missing =
      finding_row_of (Between difference) (side_number side) text missing.name None ∷ []

  abbrev pub missing_part_rows : MissingPart → List FtlFinding
  missing_part_rows missing = difference_rows (side_difference side missing.part) missing

-- the rows of what the reference has and the other text lacks, and after them those of what the other one has
abbrev pub compared_rows : (reference other : NameIndex) → List FtlFinding
compared_rows reference other =
    flat_map (missing_part_rows Reference reference.text.now) (all_missing_parts reference other)
    ++ flat_map (missing_part_rows Other other.text.now) (all_missing_parts other reference)

-- The two texts are UTF-8, and the rows are those of what each of them says of names and the other lacks, by the
-- edition of the number, with the outcome of both.
pub record AreDifferences (number : ℕ) (reference other : List ℕ) (rows : List FtlFinding) (outcome : Outcome)
    : Type 0 where
  pub reference_name_index : NameIndex
  pub reference_outcome : Outcome
  pub is_reference : IsEditionNameIndex number reference reference_name_index reference_outcome
  pub other_name_index : NameIndex
  pub other_outcome : Outcome
  pub is_other : IsEditionNameIndex number other other_name_index other_outcome
  pub rows_are : rows ≡ compared_rows reference_name_index other_name_index
  pub outcome_is : outcome ≡ either_outcome reference_outcome other_outcome
