use Rattle.std.proofs.Common.{◌≡◌, List, drop, map}
use Rattle.fluent_syntax_tree.specs.declared.ast.PatternElement.{PatternElement}
use Rattle.fluent_syntax_tree.specs.Tree.{elements_of}
use Rattle.fluent_syntax_tree.specs.View.{element_view}
use Rattle.fluent_syntax_grammar.specs.Canonical.{are_lone}
use Rattle.fluent_syntax_writer.specs.Places.{position_of}
use Rattle.fluent_syntax_writer.proofs.canonical.flush.are_lone.Given as goal

abbrev pub invariant-loop-element : goal.invariant-loop-element
invariant-loop-element g l =
    let tree = λ (es : List (PatternElement g.row.X.Denot)). elements_of (map (element_view g.T.ReadTexts.text) es) in
    record {
      rest :
          are_lone (position_of l.position) (tree (drop l.element-index l.elements))
          ≡ are_lone (position_of l.fn.first) (tree l.elements);
    }
