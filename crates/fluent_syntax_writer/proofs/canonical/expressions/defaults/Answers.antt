use Rattle.std.proofs.Common.{◌≡◌, ◌+◌, List, drop, map, sym, ap, ◌∙◌, arith, if◌then◌else◌}
use Rattle.fluent_syntax_tree.specs.declared.ast.Variant.{Variant}
use Rattle.fluent_syntax_tree.specs.Tree.{variants, variants_of}
use Rattle.fluent_syntax_tree.specs.View.{key_view, pattern_view, variant_view}
use Rattle.fluent_syntax_tree.proofs.Views.{view-Variant}
use Rattle.fluent_syntax_grammar.specs.Readable.{defaults}
use Rattle.fluent_syntax_writer.proofs.rules.Nodes.{defaults-next}
use Rattle.fluent_syntax_writer.proofs.rules.Steps.{drop_is_cons}
use Rattle.fluent_syntax_writer.proofs.canonical.expressions.defaults.Goals as goal
use Rattle.fluent_syntax_writer.proofs.canonical.expressions.defaults.Goals.{then-variant, else-variant}

pub loop-variant-preserved : goal.loop-variant-preserved
loop-variant-preserved g c =
    let f = g.T.ReadTexts.text in
    let items = c.args.variants.now in
    let place = c.loop-variant.variant-index in
    let tree = λ (vs : List (Variant g.row.X.Denot)). variants_of (map (variant_view f) vs) in
    let next = drop_is_cons (λ vs. defaults (tree vs)) items place _ c.loop-variant-test.true c.variant-item.is in
    let seen = ap (λ v. defaults (variants v (tree (drop (place + 1) items)))) (view-Variant f c.variant-item.result) in
    let count = c.loop-variant.count in
    let counted : c.if-variant.count ≡ (if c.variant-item.result.default then count + 1 else count) =
    elim c.if-variant.branch [
      | then-variant w ↦ rw w.if-variant.true w.count-is
      | else-variant w ↦ rw w.if-variant.false w.count-is
    ] in
    let variant = c.variant-item.result in
    let key = key_view f variant.key in
    let value = pattern_view f variant.value in
    let later = tree (drop (place + 1) items) in
    let added = defaults-next key value variant.default later count c.if-variant.count counted in
    record {
      within = elim c.if-variant.branch [ then-variant w ↦ omega arith | else-variant w ↦ omega arith ];
      rest = added ∙ sym (ap (λ n. count + n) (next ∙ seen)) ∙ c.loop-variant.invariant.rest;
    }
