use Rattle.std.proofs.Common.{◌≡◌, [], ◌∷◌, ◌++◌, map, ap, refl, sym, ◌∙◌}
use Rattle.std.specs.Vec.Iter.{into_iter_items}
use Rattle.std.proofs.lemmas.List.{nil_from_length}
use Rattle.std.proofs.lemmas.Result.{IfOk-equal}
use Rattle.fluent_syntax_tree.proofs.Lists.{map-push}
use Rattle.fluent_syntax_parser.specs.Elements.{flushed, item_shape, leading, pending_run}
use Rattle.fluent_syntax_grammar.specs.Elements.{placeable_item, with_ending}
use Rattle.fluent_syntax_grammar.specs.Layout.{placed, run}
use Rattle.fluent_syntax_parser.specs.Lines.{ending_view, piece_shape}
use Rattle.fluent_syntax_parser.proofs.patterns.Waiting.{no_pieces_are_led_by_nothing, waiting_placed_added}
use Rattle.fluent_syntax_parser.proofs.patterns.Waiting.{run_waits_as_pending_text}
use Rattle.fluent_syntax_parser.proofs.pattern.elements.add_pieces.Goals as goal

pub loop-piece-preserved-in-Run : goal.loop-piece-preserved-in-Run
loop-piece-preserved-in-Run g c =
    let old = c.loop-piece in
    let xs = map item_shape old.items.items in
    let rest = map piece_shape (into_iter_items c.next.new.self) in
    let end = ending_view c.args.ending in
    let to = c.in-Run.to in
    let found : map piece_shape (into_iter_items old.piece-iterator) ≡ run c.in-Run.from to ∷ rest =
    ap (map piece_shape) c.in-Some.ensures.steps.0 ∙ ap (λ p. piece_shape p ∷ rest) c.in-Run.is in
    record {
      whole =
          ap (λ ys. ys ++ with_ending (run c.unwrap_or.result to ∷ rest) end) c.in_ok-add_pending_run.ensures
          ∙ ap (λ k. flushed xs old.pending ++ with_ending (run k to ∷ rest) end) c.unwrap_or.ensures
          ∙ run_waits_as_pending_text end xs old.pending old.led c.in-Run.from to rest
          ∙ ap (λ ps. xs ++ with_ending (pending_run old.pending (leading old.led ps)) end) (sym found)
          ∙ old.invariant.whole;
    }

pub loop-piece-preserved : goal.loop-piece-preserved
loop-piece-preserved g c =
    let old = c.loop-piece in
    let xs = map item_shape old.items.items in
    let rest = map piece_shape (into_iter_items c.next.new.self) in
    let end = ending_view c.args.ending in
    let e = c.in-Placed.expression in
    let found : map piece_shape (into_iter_items old.piece-iterator) ≡ placed e ∷ rest =
    ap (map piece_shape) c.in-Some.ensures.steps.0 ∙ ap (λ p. piece_shape p ∷ rest) c.in-Placed.is in
    let added : map item_shape c.push.new.self.items ≡ flushed xs old.pending ++ placeable_item e ∷ [] =
    map-push item_shape _ _ _ (placeable_item e) c.in_ok-push-in-Placed.ensures.items refl
    ∙ ap (λ ys. ys ++ placeable_item e ∷ []) c.in_ok-add_pending_run.ensures in
    record {
      whole =
          ap (λ ys. ys ++ with_ending rest end) added
          ∙ waiting_placed_added end xs old.pending old.led e rest
          ∙ ap (λ ps. xs ++ with_ending (pending_run old.pending (leading old.led ps)) end) (sym found)
          ∙ old.invariant.whole;
    }

pub returns : goal.returns
returns g c =
    let old = c.loop-piece in
    let xs = map item_shape old.items.items in
    let left = old.piece-iterator.rest in
    let nothing = nil_from_length left.items (sym left.ok.0 ∙ c.in-None.ensures.steps.0) in
    let end = ending_view c.args.ending in
    let ended : leading old.led (map piece_shape (into_iter_items old.piece-iterator)) ≡ [] =
    ap (λ ps. leading old.led (map piece_shape ps)) nothing ∙ no_pieces_are_led_by_nothing old.led in
    IfOk-equal c.add_ending.result _ _ _ c.add_ending.ensures
    (ap (λ ps. xs ++ with_ending (pending_run old.pending ps) end) (sym ended) ∙ old.invariant.whole)
