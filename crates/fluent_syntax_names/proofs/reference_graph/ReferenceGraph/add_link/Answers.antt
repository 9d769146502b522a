use Rattle.std.proofs.Common.{◌≡◌, [], ◌∷◌, ◌++◌, Some, sym, ap, ◌∙◌}
use Rattle.std.proofs.lemmas.List.{append_assoc}
use Rattle.fluent_syntax_names.specs.Cycles.{link_of}
use Rattle.fluent_syntax_names.specs.NamedLists.{numbers_of}
use Rattle.fluent_syntax_names.proofs.Linking.{HasEdges-more_link, HasEdges-add_name}
use Rattle.fluent_syntax_names.proofs.reference_graph.ReferenceGraph.add_link.Goals as goal

pub push-requires : goal.push-requires
push-requires c =
    let all = c.requires.0 in
    let first = c.in_ok-from-2.ensures in
    let second = c.in_ok-to-2.ensures in
    let from = c.in_ok-from.from.items in
    let to = c.in_ok-to.to.items in
    let u = c.in_ok-from-2.from in
    let named = c.number_for.new.self in
    let has_edges = HasEdges-add_name all c.args.self.now.nodes named from u first c.requires.1 in
    (HasEdges-add_name all named c.number_for-2.new.self to c.in_ok-to-2.to second has_edges).within from u
    (second.stays from u first.known)

pub returns : goal.returns
returns c = λ before drawn_before.
    let text = c.args.text.now in
    let first = c.in_ok-from-2.ensures in
    let second = c.in_ok-to-2.ensures in
    let from = c.in_ok-from.from.items in
    let to = c.in_ok-to.to.items in
    let u = c.in_ok-from-2.from in
    let v = c.in_ok-to-2.to in
    let named = c.number_for.new.self in
    let both = c.number_for-2.new.self in
    let has_edges =
    HasEdges-add_name before named both to v second
    (HasEdges-add_name before c.args.self.now.nodes named from u first drawn_before) in
    let link = link_of text c.args.pattern c.args.target in
    let from_is : numbers_of both link.from ≡ Some u =
    ap (numbers_of both) (sym c.in_ok-from.ensures) ∙ second.stays from u first.known in
    let to_is : numbers_of both link.to ≡ Some v = ap (numbers_of both) (sym c.in_ok-to.ensures) ∙ second.known in (
      before ++ link ∷ [],
      HasEdges-more_link before both c.push.new.self has_edges link u v from_is to_is c.in_ok-push.ensures,
      λ rest. append_assoc before (link ∷ []) rest,
    )
