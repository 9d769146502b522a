-- What formatting of a range makes of a text.
use Rattle.std.specs.Prelude.{◌≡◌, ℕ, List, map, All, Some, Ok, Vec, slice_get}
use Rattle.std.specs.Global.{Global}
use Rattle.serde_json.specs.Data.{Data, null, array}
use Rattle.serde_json.specs.View.{items_of}
use Rattle.fluent_syntax_grammar.specs.RoundTrip.{tree_of}
use Rattle.fluent_syntax_grammar.specs.Tiling.{Tile, Tiling}
use Rattle.fluent_syntax_grammar.specs.Written.{Text}
use Rattle.fluent_syntax_tree.specs.Entry.{BodyTree, EntryTree}
use Rattle.fluent_syntax_tree.specs.declared.edition.Edition.TheVariants.{One}
use Rattle.fluent_syntax_edits.specs.Changes.{joined_part, replaces}
use Rattle.fluent_syntax_edits.specs.SeveralEdits.{AreReplacements, NumberedChange}
use Rattle.fluent_syntax_edits.specs.declared.drafts.Replacement.{Replacement}
use Rattle.ftl_lsp.specs.Actions.{replacement_form}

-- The change puts one of these entries in its own place.
pub record Rewrites (entries : BodyTree Text) (change : NumberedChange) : Type 0 where
  pub entry : EntryTree Text
  pub there : slice_get entries change.number ≡ Some entry
  pub rewrites : change.change ≡ replaces (joined_part entry)

-- The value is null, or the edits of the text that put some of its entries in their own places, each as it is written.
-- With them the text is read as its tree with these entries joined, and with its errors, each moved.
pub data FormatsRange (t : List ℕ) : Data → Type 0 where
  leaves_entries : FormatsRange t null
  rewrites_entries : (tiles : List Tile) (changes : List NumberedChange) (replacements : Vec Replacement Global) →
      Tiling One t tiles → All (Rewrites (tree_of t tiles)) changes → AreReplacements One t changes (Ok replacements) →
      FormatsRange t (array (items_of (map (replacement_form t) replacements.items)))
