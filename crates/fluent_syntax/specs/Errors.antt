-- The errors of what parsing answers, and the junk of its tree.
use Rattle.std.specs.Prelude.{◌≡◌, ℕ, List, [], map, slice_range, Option, Some, option_map, Result, Ok, Err}
use Rattle.std.specs.List.{flat_map}
use Rattle.fluent_syntax_tree.specs.Entry.{BodyTree}
use Rattle.fluent_syntax_tree.specs.View.{resource_view}
use Rattle.fluent_syntax_tree.specs.declared.ast.Resource.{Resource}
use Rattle.fluent_syntax_tree.specs.declared.errors.ParserError.{ParserError}
use Rattle.fluent_syntax_grammar.specs.UniqueReading.{Ascend, junk_slice}
use Rattle.fluent_syntax_grammar.specs.Tiling.{Fault}
use Rattle.fluent_syntax_parser.specs.Faults.{fault_of}
use Rattle.fluent_syntax_parser.specs.declared.fault.ParseFault.{ParseFault}
use Rattle.fluent_syntax_parser.specs.declared.fault.ParseFault.TheVariants.{Syntax, Memory}

-- the texts of a body's junk, in order
abbrev pub junk_texts : {X : Type 0} → BodyTree X → List X
junk_texts body = flat_map junk_slice body

-- the text that an error says to have become junk
abbrev pub refused_text : List ℕ → ParserError → Option (List ℕ)
refused_text t e = option_map (λ range. slice_range t range.start range.end) e.slice

module _ {S : Type 0} (t : List ℕ) where
  -- There are as many errors as junk entries, in the same order; each junk is the source's text at its error's stretch.
  abbrev pub JunkIsRefused : (text : S → List ℕ) → Result (Resource S) (ParseFault S) → Type 0
  JunkIsRefused text (Ok tree) = junk_texts (resource_view text tree) ≡ []
  JunkIsRefused text (Err (Syntax tree errors)) =
      map Some (junk_texts (resource_view text tree)) ≡ map (refused_text t) errors.items
  JunkIsRefused text (Err Memory) = Unit {0}

  -- The errors report faults that ascend: their stretches are nonempty and disjoint, in order, and each error's place
  -- begins within its stretch, both ends included.
  abbrev pub ErrorsAscend : Result (Resource S) (ParseFault S) → Type 0
  ErrorsAscend (Ok tree) = Unit {0}
  ErrorsAscend (Err (Syntax tree errors)) =
      (fs : List Fault) × (map fault_of errors.items ≡ map Some fs) × Ascend t 0 fs
  ErrorsAscend (Err Memory) = Unit {0}
