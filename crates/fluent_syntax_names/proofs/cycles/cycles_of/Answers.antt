use Rattle.std.proofs.Common.{◌∙◌, List, Vec, ℕ, sym, subst, arith}
use Rattle.std.specs.declared.alloc.Global.{Global}
use Rattle.std.proofs.lemmas.List.{length-map}
use Rattle.fluent_syntax_names.specs.Graph.{IsGraph, targets_of}
use Rattle.fluent_syntax_names.specs.Cycles.{links}
use Rattle.fluent_syntax_names.specs.ReferenceGraphs.{HasEdges}
use Rattle.fluent_syntax_names.specs.NamedLists.{numbers_of}
use Rattle.fluent_syntax_names.proofs.Nodes.{edges_of_name_graph_lead_to_nodes, same_component_means_cyclic}
use Rattle.fluent_syntax_names.proofs.cycles.cycles_of.Goals as goal

pub components-requires : goal.components-requires
components-requires c =
    let reference_graph = c.in_ok-reference_graph.reference_graph in
    subst (λ (l : List (Vec ℕ Global)). IsGraph (targets_of l)) (sym c.deref.ensures.value)
    (edges_of_name_graph_lead_to_nodes (links c.args.files.now) (numbers_of reference_graph.nodes)
    (targets_of reference_graph.nodes.lists.items)
    c.in_ok-reference_graph.ensures)

pub returns : goal.returns
returns c =
    let reference_graph = c.in_ok-reference_graph.reference_graph in
    let graph = c.deref.result.now in
    let has_edges : HasEdges (links c.args.files.now) (numbers_of reference_graph.nodes) (targets_of graph) =
    subst (λ (l : List (Vec ℕ Global)). HasEdges (links c.args.files.now) (numbers_of reference_graph.nodes)
    (targets_of l))
    (sym c.deref.ensures.value) c.in_ok-reference_graph.ensures in
    let long = length-map graph (λ (v : Vec ℕ Global). v.items) in
    same_component_means_cyclic (links c.args.files.now) (numbers_of reference_graph.nodes)
    (targets_of graph) has_edges c.in_ok-parts.parts.items
    (c.in_ok-parts.ensures.len ∙ sym long)
    (λ u v within leads_on. c.in_ok-parts.ensures.cycles u v (omega (arith, long)) leads_on)
