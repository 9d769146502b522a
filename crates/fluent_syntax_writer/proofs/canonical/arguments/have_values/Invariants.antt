use Rattle.std.proofs.Common.{◌≡◌, List, drop, map}
use Rattle.fluent_syntax_tree.specs.declared.ast.NamedArgument.{NamedArgument}
use Rattle.fluent_syntax_tree.specs.Tree.{nameds_of}
use Rattle.fluent_syntax_tree.specs.View.{named_view}
use Rattle.fluent_syntax_writer.specs.SingleRule.{have_values}
use Rattle.fluent_syntax_writer.proofs.canonical.arguments.have_values.Given as goal

abbrev pub invariant-loop-argument : goal.invariant-loop-argument
invariant-loop-argument g l =
    let have = λ (ns : List (NamedArgument g.row.X.Denot)).
    have_values (nameds_of (map (named_view g.T.ReadTexts.text) ns)) in
    record { rest : have (drop l.argument-index l.named) ≡ have l.named }
