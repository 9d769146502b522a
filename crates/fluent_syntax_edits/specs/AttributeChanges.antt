-- The change of an attribute's value, for other crates.
use Rattle.std.specs.Prelude.{ℕ}
use Rattle.fluent_syntax_tree.specs.Tree.{PatternTree}
use Rattle.fluent_syntax_grammar.specs.Written.{Text}
use Rattle.fluent_syntax_edits.specs.Changes.{Change, sets}
use Rattle.fluent_syntax_edits.specs.declared.edited_ranges.ValueTarget.TheVariants.{Attribute}

-- that pattern comes in the place of the value of the n-th attribute
abbrev pub sets_attribute : (n : ℕ) → PatternTree Text → Change
sets_attribute n v = sets (Attribute n) v
