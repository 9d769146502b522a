use Rattle.std.proofs.Common.{◌≡◌, List, [], drop, take, map, reverse}
use Rattle.fluent_syntax_tree.specs.declared.ast.NamedArgument.{NamedArgument}
use Rattle.fluent_syntax_tree.specs.Tree.{nameds_of}
use Rattle.fluent_syntax_tree.specs.View.{named_view}
use Rattle.fluent_syntax_writer.specs.SingleRule.{have_new_names}
use Rattle.fluent_syntax_writer.specs.Names.{name_of}
use Rattle.fluent_syntax_writer.proofs.canonical.argument_names.have_new_names_by_pairs.Given as goal

abbrev pub invariant-loop-index : goal.invariant-loop-index
invariant-loop-index g l =
    let tree = λ (ns : List (NamedArgument g.row.X.Denot)). nameds_of (map (named_view g.T.ReadTexts.text) ns) in
    let used = reverse (map (name_of g.T.ReadTexts.text) (take l.index l.named)) in
    record { rest : have_new_names used (tree (drop l.index l.named)) ≡ have_new_names [] (tree l.named) }
