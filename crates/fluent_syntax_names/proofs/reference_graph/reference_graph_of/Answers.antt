use Rattle.std.proofs.Common.{[], refl, sym, subst}
use Rattle.fluent_syntax_names.specs.Graph.{Graph}
use Rattle.fluent_syntax_names.specs.ReferenceGraphs.{HasEdges}
use Rattle.fluent_syntax_names.specs.NamedLists.{lists_of, numbers_of}
use Rattle.fluent_syntax_names.proofs.Linking.{links_are_left_after_next_file, links_after_last_file_are_all}
use Rattle.fluent_syntax_names.proofs.Linking.{HasEdges-none}
use Rattle.fluent_syntax_names.proofs.reference_graph.reference_graph_of.Goals as goal

pub loop-file-init : goal.loop-file-init
loop-file-init c =
    let node = numbers_of c.new.result in
    let empty : HasEdges [] node (lists_of c.new.result) =
    subst (λ (g : Graph). HasEdges [] node g) (sym c.new.ensures.lists) (HasEdges-none node c.new.ensures.numbers) in
    record { left = ([], empty, refl) }

pub add_file-requires : goal.add_file-requires
add_file-requires c = (c.loop-file.invariant.left.0, c.loop-file.invariant.left.1)

pub loop-file-preserved : goal.loop-file-preserved
loop-file-preserved c = record {
  left = links_are_left_after_next_file c.args.files.now c.loop-file.reference_graph c.loop-file.file-index
      c.add_file.new.self c.file-item.result c.loop-file-test.true c.file-item.is c.loop-file.invariant.left
      (rw c.deref.ensures.value at c.in_ok-add_file.ensures);
}

pub returns : goal.returns
returns c =
    links_after_last_file_are_all c.args.files.now c.loop-file.reference_graph c.loop-file.file-index
    c.loop-file-test.false
    c.loop-file.invariant.left
