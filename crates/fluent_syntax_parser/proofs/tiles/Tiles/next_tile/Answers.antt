use Rattle.std.proofs.Common.{arith, refl, ap, sym, ◌∙◌, ◌∷◌, ◌++◌, ◌<◌, [], length, Some}
use Rattle.std.proofs.lemmas.Result.{err_from_is_err_and}
use Rattle.std.specs.Prelude.{option_to_list}
use Rattle.fluent_syntax_parser.specs.Rest.{faults_of, tree_of}
use Rattle.fluent_syntax_parser.proofs.entry_forms.MadeEntries.{equal_somes_have_equal_values}
use Rattle.fluent_syntax_parser.specs.declared.options.Comments.TheVariants.{Kept}
use Rattle.fluent_syntax_parser.proofs.tilings.DeeperTiles.{after_one, tile_is_too_deep_where_entry_is, one_led}
use Rattle.fluent_syntax_parser.proofs.tilings.DeeperTiles.{text_is_deeper_by_its_tile}
use Rattle.fluent_syntax_parser.proofs.tilings.DeeperTiles.{no_tile_is_deeper_at_end_of_text}
use Rattle.fluent_syntax_parser.proofs.tilings.DeeperTiles.{tile_is_deeper_by_its_text}
use Rattle.fluent_syntax_parser.proofs.tilings.Rests.{TileAt-within}
use Rattle.fluent_syntax_parser.proofs.readers.SameTrees.{identity_keeps_entry}
use Rattle.fluent_syntax_parser.proofs.tiles.Tiles.next_tile.Goals as goal

pub returns-in_default : goal.returns-in_default
returns-in_default c =
    let put = c.in_ok-end.ensures.adds in
    let some =
    sym c.in_default.is
    ∙ c.only_item.ensures (Some put.entry)
    (put.added ∙ ap (λ xs. xs ++ put.entry ∷ []) c.new-body.ensures.items) in
    cc

pub returns-clause-next : goal.returns-clause-next
returns-clause-next c =
    let put = c.in_ok-end.ensures.adds in
    let made = put.tile in
    let found = made.yields in
    let same =
    sym c.in-Some.is
    ∙ c.only_item.ensures (Some put.entry)
    (put.added ∙ ap (λ xs. xs ++ put.entry ∷ []) c.new-body.ensures.items) in
    let stated =
    c.only_item-error.ensures put.error
    (put.errors_are ∙ ap (λ xs. xs ++ option_to_list put.error) c.new-errors.ensures.items) in
    record {
      tile = found.tile;
      blank = c.skip_blank_block-start.ensures.blank;
      inside = omega (arith, c.in_ok-end.ensures.within.0, c.in_ok-end.ensures.within.1);
      in_place = TileAt-within c.args.self.now.edition c.args.self.now.source.bytes.now c.args.self.now.nesting _ _
          found.tile found.in_place;
      yields = record {
        entry =
            found.entry ∙ ap (λ e. e ∷ []) (sym (made.same ∙ identity_keeps_entry made.tree))
            ∙ ap (λ e. tree_of e ∷ []) (sym (equal_somes_have_equal_values c.in-Some.entry put.entry same));
        errors = found.errors ∙ ap faults_of (sym stated);
      };
      ends = refl;
    }

-- ---- how deeply it nests

pub returns-in_err-end-clause-deeper : goal.returns-in_err-end-clause-deeper
returns-in_err-end-clause-deeper c =
    let tiles = c.args.self.now in
    let t = tiles.source.bytes.now in
    let start = c.skip_blank_block-start.ensures in
    let inside : c.skip_blank_block-start.result < length t = omega (arith, start.within, c.if-start-source.false) in
    let halt = err_from_is_err_and c.from_residual.result c.from_residual.ensures.1 in
    rw (halt.1, halt.2) (λ e. text_is_deeper_by_its_tile tiles.edition t tiles.nesting Kept _ _ start.blank
    (tile_is_too_deep_where_entry_is tiles.edition t tiles.nesting Kept _ (λ dropped. cc) inside
    (c.in_err-end.ensures.deeper e)))

pub returns-then-start-source-clause-shallow : goal.returns-then-start-source-clause-shallow
returns-then-start-source-clause-shallow c = λ deeper.
    let tiles = c.args.self.now in
    let t = tiles.source.bytes.now in
    no_tile_is_deeper_at_end_of_text tiles.edition t tiles.nesting Kept _ c.if-start-source.true
    (tile_is_deeper_by_its_text tiles.edition t tiles.nesting Kept _ _ c.skip_blank_block-start.ensures.blank deeper)

pub returns-clause-shallow : goal.returns-clause-shallow
returns-clause-shallow c =
    let tiles = c.args.self.now in
    let t = tiles.source.bytes.now in
    let blank = c.skip_blank_block-start.ensures.blank in
    let read = c.in_ok-end.ensures in
    let inside : c.skip_blank_block-start.result < length t = omega (arith, read.within.0, read.within.1) in
    let tile = read.adds.tile.yields in (
      λ deeper. one_led tiles.edition t tiles.nesting Kept _ _ inside tile.tile tile.in_place
          (tile_is_deeper_by_its_text tiles.edition t tiles.nesting Kept _ _ blank deeper),
      λ deeper. text_is_deeper_by_its_tile tiles.edition t tiles.nesting Kept _ _ blank
          (after_one tiles.edition t tiles.nesting Kept _ _ inside tile.tile tile.in_place deeper),
    )
