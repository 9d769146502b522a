use Rattle.std.proofs.Common.{◌≡◌, List, ◌+◌, ◌≤◌, drop, map}
use Rattle.fluent_syntax_tree.specs.declared.ast.Variant.{Variant}
use Rattle.fluent_syntax_tree.specs.Tree.{variants_of}
use Rattle.fluent_syntax_tree.specs.View.{variant_view}
use Rattle.fluent_syntax_grammar.specs.Readable.{defaults}
use Rattle.fluent_syntax_writer.proofs.canonical.expressions.defaults.Given as goal

abbrev pub invariant-loop-variant : goal.invariant-loop-variant
invariant-loop-variant g l =
    let tree = λ (vs : List (Variant g.row.X.Denot)). variants_of (map (variant_view g.T.ReadTexts.text) vs) in
    record {
      within : l.count ≤ l.variant-index;
      rest : l.count + defaults (tree (drop l.variant-index l.variants)) ≡ defaults (tree l.variants);
    }
