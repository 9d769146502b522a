use Rattle.std.proofs.Common.{◌≡◌, List, drop, map}
use Rattle.fluent_syntax_tree.specs.declared.ast.PatternElement.{PatternElement}
use Rattle.fluent_syntax_tree.specs.Tree.{elements_of}
use Rattle.fluent_syntax_tree.specs.View.{element_view}
use Rattle.fluent_syntax_grammar.specs.Canonical.{line_indents}
use Rattle.fluent_syntax_grammar.specs.Layout.{least}
use Rattle.fluent_syntax_writer.specs.Places.{position_of, least_of_two}
use Rattle.fluent_syntax_writer.proofs.canonical.flush.least_number.Given as goal

abbrev pub invariant-loop-element : goal.invariant-loop-element
invariant-loop-element g l =
    let tree = λ (es : List (PatternElement g.row.X.Denot)). elements_of (map (element_view g.T.ReadTexts.text) es) in
    record {
      rest :
          least_of_two l.least (least (line_indents l.edition (position_of l.position)
          (tree (drop l.element-index l.elements))))
          ≡ least (line_indents l.edition (position_of l.fn.first) (tree l.elements));
    }
