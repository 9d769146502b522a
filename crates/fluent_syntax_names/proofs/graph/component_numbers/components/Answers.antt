use Rattle.std.proofs.Common.{◌≡◌, ◌<◌, ◌↔◌, ℕ, List, Vec, Result, Ok, Err, arith, length, subst, sym}
use Rattle.std.specs.Prelude.{IfOk, slice_index}
use Rattle.std.specs.declared.alloc.Global.{Global}
use Rattle.std.proofs.lemmas.List.{length-map}
use Rattle.fluent_syntax_names.specs.Certificates.{numbers_of}
use Rattle.fluent_syntax_names.specs.Graph.{HasEdge, IsGraph, Reaches, SameComponents, targets_of}
use Rattle.fluent_syntax_names.proofs.Certified.{edge_is_on_cycle, numbers_are_strong_components}
use Rattle.fluent_syntax_names.proofs.graph.component_numbers.components.Goals as goal

ok_list_holds : {E : Type 0} (P : List ℕ → Type 0) (r : Result (Vec ℕ Global) E) (list : List ℕ)
    → IfOk r (λ v. v.items ≡ list) → P list → IfOk r (λ v. P v.items)
ok_list_holds P (Ok v) list is holds = subst P (sym is) holds
ok_list_holds P (Err e) list is holds = is

same_component_is_cycle : (graph : List (Vec ℕ Global)) → IsGraph (targets_of graph) → (list : List ℕ)
    → SameComponents (targets_of graph) list → (from to : ℕ) → from < length graph → HasEdge (targets_of graph) from to
    → (slice_index list from ≡ slice_index list to) ↔ Reaches (targets_of graph) to from
same_component_is_cycle graph is_graph list same from to within leads =
    let long = length-map graph (λ (v : Vec ℕ Global). v.items) in
    let to_in : to < length (targets_of graph) =
    subst (λ (x : ℕ). x < length (targets_of graph)) leads.2 (is_graph from leads.0 leads.1) in
    edge_is_on_cycle (targets_of graph) list same from to (omega (arith, long)) to_in leads

pub returns-then-is_certified-clause-strongly_connected : goal.returns-then-is_certified-clause-strongly_connected
returns-then-is_certified-clause-strongly_connected c =
    let g = targets_of c.args.graph.now in
    let notes = c.as_slice-notes.result.now in
    let certified = c.is_certified.ensures c.if-is_certified.true in
    ok_list_holds (SameComponents g) c.numbers_of.result (numbers_of notes) c.numbers_of.ensures
    (numbers_are_strong_components g c.requires notes _ certified)

pub returns-then-is_certified-clause-cycles : goal.returns-then-is_certified-clause-cycles
returns-then-is_certified-clause-cycles c =
    let graph = c.args.graph.now in
    let g = targets_of graph in
    let notes = c.as_slice-notes.result.now in
    let certified = c.is_certified.ensures c.if-is_certified.true in
    ok_list_holds (λ (l : List ℕ). (from to : ℕ) → from < length graph → HasEdge g from to
    → (slice_index l from ≡ slice_index l to) ↔ Reaches g to from) c.numbers_of.result (numbers_of notes)
    c.numbers_of.ensures (same_component_is_cycle graph c.requires (numbers_of notes)
    (numbers_are_strong_components g c.requires notes _ certified))
