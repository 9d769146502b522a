-- What formatting makes of a text.
use Rattle.std.specs.Prelude.{◌≡◌, ◌≢◌, ◌⊎◌, ◌<◌, ℕ, List, [], false, length, true}
use Rattle.fluent_syntax_tree.specs.declared.edition.Edition.TheVariants.{One}
use Rattle.fluent_syntax_grammar.specs.Body.{faults}
use Rattle.fluent_syntax_grammar.specs.Nesting.{NestsDeeper}
use Rattle.fluent_syntax_grammar.specs.RoundTrip.{tree_of}
use Rattle.fluent_syntax_grammar.specs.Tiling.{Tile, Tiling}
use Rattle.serde_json.specs.Data.{Data, null, array, item, no_items}
use Rattle.ftl.specs.Answer.{normal_text}
use Rattle.ftl.specs.BlankLines.{IsKept}
use Rattle.ftl.specs.Lossless.{is_lossless}
use Rattle.ftl_files.specs.declared.options.BlankLines.{BlankLines}
use Rattle.ftl_files.specs.declared.options.BlankLines.TheVariants.{Keep, Normal}
use Rattle.ftl_lsp.specs.Locations.{edit_form}
use Rattle.ftl_lsp.specs.declared.limits.TheConstants.{NESTING_LIMIT}

-- what is written of a text with that normal form: it, or what is kept of the text
abbrev pub IsWritten : BlankLines → (t normal written : List ℕ) → Type 0
IsWritten Normal t normal written = written ≡ normal
IsWritten Keep t normal written = IsKept One t normal written

-- The written text of a text without errors that nests no deeper than the limit, and whose tree is safe to write: it
-- reads back.
abbrev pub IsFormatted : BlankLines → (t written : List ℕ) → Type 0
IsFormatted blank_lines t written =
    (tiles : List Tile) × Tiling One t tiles × (faults tiles ≡ []) ×
    IsWritten blank_lines t (normal_text t tiles) written ×
    (is_lossless One (tree_of t tiles) ≡ true) × (NestsDeeper One t NESTING_LIMIT → ⊥)

-- What is left as it is: a text that has errors, one whose tree is not safe to write, or one that nests deeper than the
-- limit and has more bytes than that.
abbrev pub IsLeft : List ℕ → Type 0
IsLeft t =
    ((tiles : List Tile) × Tiling One t tiles
    × ((faults tiles ≢ []) ⊎ (is_lossless One (tree_of t tiles) ≡ false)) × (NestsDeeper One t NESTING_LIMIT → ⊥)) ⊎
    ((NESTING_LIMIT < length t) × NestsDeeper One t NESTING_LIMIT)

-- the edit that sets the whole text
abbrev pub whole_edit_form : (t written : List ℕ) → Data
whole_edit_form t written = array (item (edit_form t written (record { start = 0; end = length t })) no_items)

-- The value is the edit that makes of the text its formatted text; or null, of one that is left as it is, or is so
-- formatted.
pub data FormatsText (t : List ℕ) : Data → Type 0 where
  formats : (blank_lines : BlankLines) (written : List ℕ) → IsFormatted blank_lines t written →
      FormatsText t (whole_edit_form t written)
  stays : (blank_lines : BlankLines) → IsFormatted blank_lines t t → FormatsText t null
  leaves : IsLeft t → FormatsText t null
