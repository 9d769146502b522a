-- Notes that are certified show which nodes reach one another.
use Rattle.std.proofs.Common.{◌≡◌, ◌∙◌, ◌<◌, ◌≤◌, ◌↔◌, ⊎_elim, inl, inr, ℕ, zero, suc, List, [], ap, arith, get_or}
use Rattle.std.proofs.Common.{length, refl, subst, sym}
use Rattle.std.proofs.lemmas.Bool.{cases_lt}
use Rattle.std.proofs.lemmas.List.{get_or-map, get_or_past}
use Rattle.fluent_syntax_names.specs.Certificates.{IsCertified, component_of, no_note, note_of, numbers_of, root_of}
use Rattle.fluent_syntax_names.specs.Graph.{Graph, HasEdge, IsGraph, Reaches, SameComponents, edges, here, onward}
use Rattle.fluent_syntax_names.specs.Graph.{target}
use Rattle.fluent_syntax_names.specs.declared.graph.search.NodeNote.{NodeNote}

reach_through_node_is_reach : (g : Graph) (u v w : ℕ) → Reaches g u v → Reaches g v w → Reaches g u w
reach_through_node_is_reach g u v w (here u') second = second
reach_through_node_is_reach g u v w (onward u' x v' leads first) second =
    onward u x w leads (reach_through_node_is_reach g x v w first second)

-- an edge lies on a cycle exactly where its nodes have one number
pub edge_is_on_cycle : (g : Graph) (list : List ℕ) → SameComponents g list → (u v : ℕ) → u < length g → v < length g
    → HasEdge g u v → (get_or list u 0 ≡ get_or list v 0) ↔ Reaches g v u
edge_is_on_cycle g list same u v u_in v_in leads = (
  λ e. ((same u v u_in v_in).0 e).1,
  λ back. (same u v u_in v_in).1 (onward u v v leads (here v), back),
)

module _ (g : Graph) (is_graph : IsGraph g) (notes : List NodeNote) (roots : List ℕ)
    (certified : IsCertified g notes roots) where
  -- what a node reaches is in no lower component
  component_rises_along_reach : (u v : ℕ) → u < length g → Reaches g u v →
      component_of g notes u ≤ component_of g notes v
  component_rises_along_reach u v u_in (here w) = omega arith
  component_rises_along_reach u v u_in (onward w x y leads rest) =
      let x_in : x < length g = subst (λ (n : ℕ). n < length g) leads.2 (is_graph u leads.0 leads.1) in
      let first : component_of g notes u ≤ component_of g notes x =
      subst (λ (n : ℕ). component_of g notes u ≤ component_of g notes n) leads.2
      ((certified.1 u u_in).0 leads.0 leads.1) in
      omega (arith, first, component_rises_along_reach x v x_in rest)

  node_with_edge_is_in_graph : (v k : ℕ) → k < length (edges g v) → v < length g
  node_with_edge_is_in_graph v k within = elim (cases_lt v (length g)) [
    | inl inside ↦ inside
    | inr beyond ↦ absurd (omega (arith, within, ap length (get_or_past g v [] beyond)))
  ]

  -- nodes of one component have one root
  nodes_of_component_have_one_root : (u v : ℕ) → component_of g notes u ≡ component_of g notes v →
      root_of g notes roots u ≡ root_of g notes roots v
  nodes_of_component_have_one_root u v same = ap (λ c. get_or roots c 0) same

  -- the root reaches the nodes of its component, whichever way they were met
  root_reaches_its_nodes : (n u : ℕ) → (note_of notes u).met < n → u < length g → Reaches g (root_of g notes roots u) u
  root_reaches_its_nodes zero u fewer u_in = absurd (omega (arith, fewer))
  root_reaches_its_nodes (suc n) u fewer u_in = ⊎_elim
      (λ is_root. subst (λ r. Reaches g r u) is_root (here u))
      (λ ways.
      let (v, k, within, leads, earlier, same) = ways.0 in
      let before = root_reaches_its_nodes n v (omega (arith, fewer, earlier)) (node_with_edge_is_in_graph v k within) in
      let reached = subst (λ r. Reaches g r v) (nodes_of_component_have_one_root v u same) before in
      reach_through_node_is_reach g (root_of g notes roots u) v u reached (onward v u u (k, within, leads) (here u)))
      (certified.1 u u_in).1

  -- and they reach it, the way that they were put in the component
  nodes_reach_their_root : (n u : ℕ) → (note_of notes u).put < n → u < length g → Reaches g u (root_of g notes roots u)
  nodes_reach_their_root zero u fewer u_in = absurd (omega (arith, fewer))
  nodes_reach_their_root (suc n) u fewer u_in = ⊎_elim
      (λ is_root. subst (λ r. Reaches g u r) is_root (here u))
      (λ ways.
      let (k, within, earlier, same) = ways.1 in
      let v = target g u k in
      let after = nodes_reach_their_root n v (omega (arith, fewer, earlier)) (is_graph u k within) in
      onward u v (root_of g notes roots u) (k, within, refl)
      (subst (λ r. Reaches g v r) (nodes_of_component_have_one_root v u same) after))
      (certified.1 u u_in).1

  reaches_in_component : (u v : ℕ) → u < length g → v < length g → component_of g notes u ≡ component_of g notes v →
      Reaches g u v
  reaches_in_component u v u_in v_in same =
      let to = nodes_reach_their_root (suc (note_of notes u).put) u (omega arith) u_in in
      let from = root_reaches_its_nodes (suc (note_of notes v).met) v (omega arith) v_in in
      reach_through_node_is_reach g u (root_of g notes roots u) v to
      (subst (λ r. Reaches g r v) (sym (nodes_of_component_have_one_root u v same)) from)

  number_of_node_is_its_component : (u : ℕ) → u < length g → get_or (numbers_of notes) u 0 ≡ component_of g notes u
  number_of_node_is_its_component u u_in =
      get_or-map (λ (note : NodeNote). note.component) notes u no_note 0 (omega (arith, certified.0))

  pub numbers_are_strong_components : SameComponents g (numbers_of notes)
  numbers_are_strong_components u v u_in v_in = (
    λ equal.
        let same = sym (number_of_node_is_its_component u u_in) ∙ equal ∙ number_of_node_is_its_component v v_in in
        (reaches_in_component u v u_in v_in same, reaches_in_component v u v_in u_in (sym same)),
    λ both.
        omega (
          arith,
          number_of_node_is_its_component u u_in,
          number_of_node_is_its_component v v_in,
          component_rises_along_reach u v u_in both.0,
          component_rises_along_reach v u v_in both.1,
        ),
  )
