use Rattle.std.proofs.Common.{◌≡◌, ◌&&◌, List, drop, map}
use Rattle.fluent_syntax_tree.specs.declared.ast.PatternElement.{PatternElement}
use Rattle.fluent_syntax_tree.specs.Tree.{elements_of}
use Rattle.fluent_syntax_tree.specs.View.{element_view}
use Rattle.fluent_syntax_grammar.specs.Readable.{opening}
use Rattle.fluent_syntax_writer.specs.Places.{position_of}
use Rattle.fluent_syntax_writer.specs.RuleSets.{keeps}
use Rattle.fluent_syntax_writer.specs.SingleRule.{texts_keep}
use Rattle.fluent_syntax_writer.specs.declared.canonical.rules.Rule.{Rule}
use Rattle.fluent_syntax_writer.proofs.canonical.layout.texts_break.Given as goal

abbrev pub invariant-loop-index : goal.invariant-loop-index
invariant-loop-index g l =
    let tree = λ (es : List (PatternElement g.row.X.Denot)). elements_of (map (element_view g.T.ReadTexts.text) es) in
    record {
      rest : (rule : Rule) → (keeps l.broken rule
          && texts_keep l.edition rule l.multiline (position_of l.position) (tree (drop l.index l.elements)))
          ≡ texts_keep l.edition rule l.multiline opening (tree l.elements);
    }
