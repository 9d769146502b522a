-- Notes on the nodes of a graph that show what its components are.
use Rattle.std.specs.Prelude.{◌≡◌, ◌<◌, ◌≤◌, ◌⊎◌, ℕ, List, get_or, length, map}
use Rattle.fluent_syntax_names.specs.Graph.{Graph, edges, target}
use Rattle.fluent_syntax_names.specs.declared.graph.search.NodeNote.{NodeNote}

abbrev pub no_note : NodeNote
no_note = record { component = 0; met_by = record { from = 0; place = 0 }; met = 0; onward = 0; put = 0 }

abbrev pub note_of : List NodeNote → ℕ → NodeNote
note_of notes u = get_or notes u no_note

-- the number of each node's component
abbrev pub numbers_of : List NodeNote → List ℕ
numbers_of notes = map (λ (note : NodeNote). note.component) notes

module _ (g : Graph) (notes : List NodeNote) where
  abbrev pub component_of : ℕ → ℕ
  component_of u = (note_of notes u).component

  -- no edge of the node leads to a lower component
  abbrev pub Rises : ℕ → Type 0
  Rises u = (k : ℕ) → k < length (edges g u) → component_of u ≤ component_of (target g u k)

  -- an edge leads to the node from one of its component that was met before it
  abbrev pub IsMet : ℕ → Type 0
  IsMet u = (v : ℕ) × (k : ℕ) × (k < length (edges g v)) × (target g v k ≡ u)
      × ((note_of notes v).met < (note_of notes u).met) × (component_of v ≡ component_of u)

  -- an edge of the node leads to one of its component that was put there before it
  abbrev pub IsPut : ℕ → Type 0
  IsPut u = (k : ℕ) × (k < length (edges g u)) × ((note_of notes (target g u k)).put < (note_of notes u).put)
      × (component_of (target g u k) ≡ component_of u)

  module _ (roots : List ℕ) where
    abbrev pub root_of : ℕ → ℕ
    root_of u = get_or roots (component_of u) 0

    -- each node but the root of its component is met from there, and comes there
    abbrev pub IsCertifiedAt : ℕ → Type 0
    IsCertifiedAt u = Rises u × ((u ≡ root_of u) ⊎ (IsMet u × IsPut u))

    abbrev pub IsCertified : Type 0
    IsCertified = (length notes ≡ length g) × ((u : ℕ) → u < length g → IsCertifiedAt u)
