-- Names as nodes of a graph: what reaches what among the names is what does among the nodes.
use Rattle.std.proofs.Common.{◌≡◌, ◌↔◌, ◌⊎◌, inl, inr, ℕ, ◌<◌, true, List, length, get_or, Option, Some, refl, sym, ap}
use Rattle.std.proofs.Common.{◌∙◌, subst, nat_eq, arith}
use Rattle.std.specs.Prelude.{option_and_then, slice_get}
use Rattle.std.proofs.lemmas.Bool.{eqb-true, eq-eqb}
use Rattle.std.proofs.lemmas.Bool.Decides.{same_from_decides}
use Rattle.std.proofs.lemmas.Option.{slice_get-get_or}
use Rattle.fluent_syntax_names.specs.Graph.{Graph, HasEdge, IsGraph, target, Reaches as GraphReaches, here}
use Rattle.fluent_syntax_names.specs.Graph.{onward as graph_onward}
use Rattle.fluent_syntax_names.specs.Cycles.{Link, links_to, Reaches, next, onward, reaches, is_cyclic}
use Rattle.fluent_syntax_names.specs.ReferenceGraphs.{HasEdges, same_option}
use Rattle.fluent_syntax_names.specs.NamedLists.{Numbering}
use Rattle.fluent_syntax_names.specs.QualifiedNames.{Text}
use Rattle.fluent_syntax_names.proofs.Ways.{reaches_decides_reach}

some_node_is_injective : (u v : ℕ) → Some u ≡ Some v → u ≡ v
some_node_is_injective u v e = cc

module _ (all : List Link) (node : Numbering) (g : Graph) (has_edges : HasEdges all node g) where
  pub edges_of_name_graph_lead_to_nodes : IsGraph g
  edges_of_name_graph_lead_to_nodes u k within =
      let name = has_edges.named u (target g u k) (k, within, refl) in has_edges.within name.1 (target g u k) name.3

  -- of what is reached each name has its node
  reached_name_has_reached_node : (x y : Text) → Reaches all x y → (u : ℕ) → node x ≡ Some u
      → (v : ℕ) × (node y ≡ Some v) × GraphReaches g u v
  reached_name_has_reached_node x y (next x' y' e) u is =
      let d = has_edges.has_edges x y e in
      let same : d.0 ≡ u = some_node_is_injective d.0 u (sym d.2 ∙ is) in
      let leads_on = subst (λ (w : ℕ). HasEdge g w d.1) same d.4 in
      (d.1, d.3, graph_onward u d.1 d.1 leads_on (here d.1))
  reached_name_has_reached_node x y (onward x' w y' e rest) u is =
      let d = has_edges.has_edges x w e in
      let same : d.0 ≡ u = some_node_is_injective d.0 u (sym d.2 ∙ is) in
      let leads_on = subst (λ (z : ℕ). HasEdge g z d.1) same d.4 in
      let later = reached_name_has_reached_node w y rest d.1 d.3 in
      (later.0, later.1, graph_onward u d.1 later.0 leads_on later.2)

  -- and what the nodes reach, the names do
  reached_node_has_reached_name : (u v : ℕ) → GraphReaches g u v → (x y : Text) → node x ≡ Some u → node y ≡ Some v
      → (x ≡ y) ⊎ Reaches all x y
  reached_node_has_reached_name u v (here w) x y is_x is_y = inl (has_edges.apart x y w is_x is_y)
  reached_node_has_reached_name u v (graph_onward u' w v' leads_on rest) x y is_x is_y =
      let d = has_edges.named u w leads_on in
      let from : d.0 ≡ x = has_edges.apart d.0 x u d.2 is_x in
      let e : links_to all x d.1 ≡ true = ap (λ (z : Text). links_to all z d.1) (sym from) ∙ d.4 in
      elim (reached_node_has_reached_name w v rest d.1 y d.3 is_y) [
        | inl same ↦ inr (next x y (ap (λ (z : Text). links_to all x z) (sym same) ∙ e))
        | inr reached ↦ inr (onward x d.1 y e reached)
      ]

  -- whether a reference comes back is whether its nodes are in one part
  module _ (parts : List ℕ) (sizes : length parts ≡ length g)
      (cycles : (u v : ℕ) → u < length g → HasEdge g u v
      → (get_or parts u 0 ≡ get_or parts v 0) ↔ GraphReaches g v u) where
    component_of_name_is_that_of_node : (x : Text) (u : ℕ) → node x ≡ Some u
        → option_and_then (slice_get parts) (node x) ≡ Some (get_or parts u 0)
    component_of_name_is_that_of_node x u is =
        ap (option_and_then (slice_get parts)) is
        ∙ slice_get-get_or parts u 0 (omega (arith, sizes, has_edges.within x u is))

    pub same_component_means_cyclic : (x y : Text) → links_to all x y ≡ true
        → same_option (option_and_then (slice_get parts) (node x)) (option_and_then (slice_get parts) (node y))
        ≡ is_cyclic all x y
    same_component_means_cyclic x y e =
        let d = has_edges.has_edges x y e in
        let u = d.0 in
        let v = d.1 in
        let p = get_or parts u 0 in
        let q = get_or parts v 0 in
        let cycle = cycles u v (has_edges.within x u d.2) d.4 in
        let by_parts :
        same_option (option_and_then (slice_get parts) (node x)) (option_and_then (slice_get parts) (node y))
        ≡ nat_eq p q =
        ap (λ (o : Option ℕ). same_option o (option_and_then (slice_get parts) (node y)))
        (component_of_name_is_that_of_node x u d.2)
        ∙ ap (λ (o : Option ℕ). same_option (Some p) o) (component_of_name_is_that_of_node y v d.3) in
        let to_names : nat_eq p q ≡ true → Reaches all y x =
        λ same. elim (reached_node_has_reached_name v u (cycle.0 (eqb-true p q same)) y x d.3 d.2) [
          | inl one ↦ next y x (ap (λ (z : Text). links_to all z x) one ∙ ap (λ (z : Text). links_to all x z) (sym one)
              ∙ e)
          | inr reached ↦ reached
        ] in
        let to_nodes : Reaches all y x → nat_eq p q ≡ true =
        λ reached.
        let r = reached_name_has_reached_node y x reached v d.3 in
        let same : r.0 ≡ u = some_node_is_injective r.0 u (sym r.1 ∙ d.2) in
        eq-eqb p q (cycle.1 (subst (λ (z : ℕ). GraphReaches g v z) same r.2)) in
        by_parts
        ∙ same_from_decides (nat_eq p q) (reaches all y x) (to_names, to_nodes) (reaches_decides_reach all y x)
