use Rattle.std.proofs.Common.{ap, ◌∙◌}
use Rattle.fluent_syntax_tree.specs.Entry.{body_map}
use Rattle.fluent_syntax_tree.specs.Spans.{bytes_at}
use Rattle.fluent_syntax_tree.specs.View.{resource_view}
use Rattle.fluent_syntax_grammar.specs.Body.{faults}
use Rattle.fluent_syntax_c.proofs.text_trees.text_tree.Goals as goal

pub returns-in-Ok-clause-tree : goal.returns-in-Ok-clause-tree
returns-in-Ok-clause-tree c =
    let reading = c.in_ok-reading.reading in
    let by = c.in_ok-reading.ensures.reading in
    let is = by.2 in (
      by.0,
      by.1,
      record {
        is_utf8 = is.is_utf8;
        text_is = is.text_is;
        edition_is = is.edition_is;
        tiles = is.tiles;
        has_tiles = is.has_tiles;
        tree_is =
            c.in-Ok.ensures.texts
            ∙ ap (λ t. body_map (bytes_at t) (resource_view (λ s. s) reading.tree)) is.text_is
            ∙ ap (body_map (bytes_at c.args.input.now)) is.tree_is;
        outcome_is = c.outcome_of.ensures (faults is.tiles) is.errors_are;
      },
    )
