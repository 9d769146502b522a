-- Names as nodes of a graph.
use Rattle.std.specs.Prelude.{◌≡◌, ℕ, Bool, true, false, nat_eq, List, length, Option, None, Some}
use Rattle.std.specs.Prelude.{option_and_then, slice_get}
use Rattle.fluent_syntax_names.specs.Growing.{Adds}
use Rattle.fluent_syntax_names.specs.Graph.{Graph, HasEdge}
use Rattle.fluent_syntax_names.specs.Cycles.{Link, links_to, is_cyclic}
use Rattle.fluent_syntax_names.specs.Findings.{Set}
use Rattle.fluent_syntax_names.specs.NamedLists.{Numbering, Within, IsInjective, numbers_of, lists_of}
use Rattle.fluent_syntax_names.specs.FirstPlaces.{place_of}
use Rattle.fluent_syntax_names.specs.QualifiedNames.{Text}
use Rattle.fluent_syntax_names.specs.declared.cycles.Cycles.{Cycles}
use Rattle.fluent_syntax_names.specs.declared.reference_graph.ReferenceGraph.{ReferenceGraph}

-- the graph has an edge between two nodes exactly where the names lead to one another
pub record HasEdges (all : List Link) (node : Numbering) (g : Graph) : Type 0 where
  pub within : Within node (length g)
  pub apart : IsInjective node
  pub has_edges : (x y : Text) → links_to all x y ≡ true
      → (u : ℕ) × (v : ℕ) × (node x ≡ Some u) × (node y ≡ Some v) × HasEdge g u v
  pub named : (u v : ℕ) → HasEdge g u v
      → (x : Text) × (y : Text) × (node x ≡ Some u) × (node y ≡ Some v) × (links_to all x y ≡ true)

abbrev pub IsReferenceGraph : List Link → ReferenceGraph → Type 0
IsReferenceGraph all reference_graph = HasEdges all (numbers_of reference_graph.nodes) (lists_of reference_graph.nodes)

abbrev pub IsSomeReferenceGraph : ReferenceGraph → Type 0
IsSomeReferenceGraph reference_graph = (all : List Link) × IsReferenceGraph all reference_graph

-- what was drawn is drawn still, with what `more` puts before other links
abbrev pub AddsLinks : ReferenceGraph → ReferenceGraph → (more : List Link → List Link) → Type 0
AddsLinks old new more = (before : List Link) → IsReferenceGraph before old
    → (now : List Link) × IsReferenceGraph now new × Adds before now more

-- ---- Parts of the graph

abbrev pub part_at : Cycles → Text → Option ℕ
part_at cycles name = option_and_then (slice_get cycles.parts.items) (place_of cycles.numbers.table name)

abbrev pub same_option : Option ℕ → Option ℕ → Bool
same_option None None = true
same_option None (Some y) = false
same_option (Some x) None = false
same_option (Some x) (Some y) = nat_eq x y

abbrev pub same_part : Cycles → Text → Text → Bool
same_part cycles from to = same_option (part_at cycles from) (part_at cycles to)

-- it is known of each reference whether it comes back
abbrev pub KnowsCycles : List Link → Cycles → Type 0
KnowsCycles all cycles = (from to : Text) → links_to all from to ≡ true
    → same_part cycles from to ≡ is_cyclic all from to

abbrev pub set_by : (Text → Bool) → Cycles → Set
set_by defines cycles = record { defines = defines; is_cyclic = same_part cycles }
