-- Entries and tiles over a family that is included in another: what is read within a number is read.
use Rattle.std.proofs.Common.{ℕ, List, Option, Some, None}
use Rattle.fluent_syntax_tree.specs.Entry.{AttributeTree}
use Rattle.fluent_syntax_tree.specs.declared.edition.Edition.{Edition}
use Rattle.fluent_syntax_tree.specs.declared.spans.Span.{Span}
use Rattle.fluent_syntax_grammar.specs.Construct.{Outcome}
use Rattle.fluent_syntax_grammar.specs.Entries.{attribute_of, attributes_of, no_more, one_more, message_of, term_of}
use Rattle.fluent_syntax_grammar.specs.Family.{Family}
use Rattle.fluent_syntax_grammar.specs.Tiling.{Tile, TileIn, reads, refuses, entry_of, entry_in}
use Rattle.fluent_syntax_grammar.proofs.Included.{IsIncluded, IsIncludedFamily, inclusions, pattern_is_included}

module _ (edition : Edition) (t : List ℕ) (R S : Family) (h : IsIncludedFamily R S) where
  attribute_is_included : IsIncluded (attribute_of edition t R) (attribute_of edition t S)
  attribute_is_included = search (inclusions, pattern_is_included) depth 30

  attributes_outcome_is_included : (i : ℕ) (o : Outcome (List (AttributeTree Span))) → attributes_of edition t R i o →
      attributes_of edition t S i o
  attributes_outcome_is_included i o (no_more x) = no_more (attribute_is_included.part i _ x)
  attributes_outcome_is_included i o (one_more {j = j} x y) =
      one_more (attribute_is_included.part i _ x) (attributes_outcome_is_included j _ y)

  pub attributes_are_included : IsIncluded (attributes_of edition t R) (attributes_of edition t S)
  attributes_are_included = record { part = attributes_outcome_is_included }

  pub message_is_included : IsIncluded (message_of edition t R) (message_of edition t S)
  message_is_included = search (inclusions, pattern_is_included, attributes_are_included) depth 30

  term_is_included : IsIncluded (term_of edition t R) (term_of edition t S)
  term_is_included = search (inclusions, pattern_is_included, attributes_are_included) depth 30

  entry_of_is_included : (b : Option ℕ) → IsIncluded (entry_of edition t R b) (entry_of edition t S b)
  entry_of_is_included None = message_is_included
  entry_of_is_included (Some b) = search (inclusions, message_is_included, term_is_included) depth 30

  pub entry_is_included : IsIncluded (entry_in edition t R) (entry_in edition t S)
  entry_is_included = search (inclusions, entry_of_is_included) depth 30

  pub tile_in_family_is_included : (i j : ℕ) (x : Tile) → TileIn edition t R i j x → TileIn edition t S i j x
  tile_in_family_is_included i j x (reads a) = reads (entry_is_included.part i _ a)
  tile_in_family_is_included i j x (refuses a b) = refuses (entry_is_included.part i _ a) b
