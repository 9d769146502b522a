use Rattle.std.proofs.Common.{◌≡◌, List, [], drop, take, map, reverse}
use Rattle.fluent_syntax_tree.specs.declared.ast.NamedArgument.{NamedArgument}
use Rattle.fluent_syntax_tree.specs.Tree.{nameds_of}
use Rattle.fluent_syntax_tree.specs.View.{named_view}
use Rattle.fluent_syntax_grammar.specs.NameKeys.{NotesAll}
use Rattle.fluent_syntax_writer.specs.SingleRule.{have_new_names}
use Rattle.fluent_syntax_writer.specs.Names.{name_of}
use Rattle.fluent_syntax_writer.proofs.canonical.argument_names.have_new_names_by_table.Given as goal

abbrev pub invariant-loop-argument : goal.invariant-loop-argument
invariant-loop-argument g l =
    let text = g.T.ReadTexts.text in
    let tree = λ (ns : List (NamedArgument g.row.X.Denot)). nameds_of (map (named_view text) ns) in
    let earlier = map (name_of text) (take l.argument-index l.named) in
    record {
      noted : NotesAll (λ k. k.now) l.table.keys earlier;
      rest : have_new_names (reverse earlier) (tree (drop l.argument-index l.named)) ≡ have_new_names [] (tree l.named);
    }
