use Rattle.std.proofs.Common.{ap, ◌∙◌, sym}
use Rattle.fluent_syntax_grammar.specs.RoundTrip.{tree_of}
use Rattle.fluent_syntax_grammar.proofs.OneTiling.{tilings_of_text_are_same}
use Rattle.ftl.proofs.blank_lines.reads_alike.Goals as goal

pub returns : goal.returns
returns c =
    let edition = c.args.edition in
    let t = c.args.text.now in
    let u = c.args.other.now in
    let (tiles, tiling, tree_is) = c.in_ok-tree.ensures in
    let (others, other_tiling, other_is) = c.in_ok-other.ensures in (
      λ so. (tiles, others, tiling, other_tiling, sym tree_is ∙ (c.same_texts.ensures.0 so ∙ other_is)),
      λ (xs, ys, a, b, same). c.same_texts.ensures.1 (tree_is
          ∙ (ap (tree_of t) (tilings_of_text_are_same edition t tiles xs tiling a)
          ∙ (same ∙ (ap (tree_of u) (tilings_of_text_are_same edition u ys others b other_tiling) ∙ sym other_is)))),
    )
