-- Directed graphs, and what reaches what.
use Rattle.std.specs.Prelude.{◌≡◌, ◌<◌, ◌↔◌, ℕ, List, [], Vec, length, map, get_or}
use Rattle.std.specs.declared.alloc.Global.{Global}

-- for each node those that its edges lead to
abbrev pub Graph : Type 0
Graph = List (List ℕ)

abbrev pub targets_of : List (Vec ℕ Global) → Graph
targets_of graph = map (λ targets. targets.items) graph

abbrev pub edges : Graph → ℕ → List ℕ
edges g u = get_or g u []

abbrev pub target : Graph → ℕ → ℕ → ℕ
target g u k = get_or (edges g u) k 0

-- each edge leads to a node
abbrev pub IsGraph : Graph → Type 0
IsGraph g = (u k : ℕ) → k < length (edges g u) → target g u k < length g

-- some edge of the one leads to the other
abbrev pub HasEdge : Graph → ℕ → ℕ → Type 0
HasEdge g u v = (k : ℕ) × (k < length (edges g u)) × (target g u k ≡ v)

-- a node reaches itself, and what those reach that its edges lead to
pub data Reaches (g : Graph) : ℕ → ℕ → Type 0 where
  here : (u : ℕ) → Reaches g u u
  onward : (u v w : ℕ) → HasEdge g u v → Reaches g v w → Reaches g u w

-- two nodes have one number exactly where each reaches the other
abbrev pub SameComponents : Graph → List ℕ → Type 0
SameComponents g numbers = (u v : ℕ) → u < length g → v < length g →
    (get_or numbers u 0 ≡ get_or numbers v 0) ↔ (Reaches g u v × Reaches g v u)
