use Rattle.std.proofs.Common.{◌<◌, ◌∷◌, ◌++◌, ◌∙◌, [], length, refl, sym, ap, arith}
use Rattle.std.proofs.lemmas.Result.{err_from_is_err_and}
use Rattle.fluent_syntax_parser.proofs.tilings.DeeperTiles.{after_comment, after_attached, after_one}
use Rattle.fluent_syntax_parser.proofs.tilings.DeeperTiles.{tile_is_too_deep_where_entry_is}
use Rattle.fluent_syntax_parser.proofs.tilings.DeeperTiles.{attached_led, one_led, no_tile_is_deeper_at_end_of_text}
use Rattle.fluent_syntax_parser.proofs.entry_forms.MadeEntries.{body_that_ends_with_comment_added_it}
use Rattle.fluent_syntax_parser.proofs.entry_forms.MadeEntries.{body_that_ends_otherwise_added_no_comment}
use Rattle.fluent_syntax_parser.specs.MadeEntries.{ends_with_comment}
use Rattle.fluent_syntax_parser.proofs.tilings.Rests.{mode_has_tile, end_of_text_has_empty_rest}
use Rattle.fluent_syntax_parser.proofs.tilings.Rests.{rest_begins_with_entry_with_comment}
use Rattle.fluent_syntax_parser.proofs.tilings.Rests.{rest_holds_from_unattachable_tile}
use Rattle.fluent_syntax_parser.proofs.reader.Reader.add_next.Goals as goal

-- ---- what is added

pub returns-then-start-self-clause-next : goal.returns-then-start-self-clause-next
returns-then-start-self-clause-next g c = (
  c.tile_start-start.ensures.rest c.args.self.now.edition _ _
      (end_of_text_has_empty_rest c.args.comments c.args.self.now.edition c.args.self.now.source.bytes.now _
      c.if-start-self.true),
  refl,
  refl,
)

pub returns-then-not-ends_with_comment-clause-next : goal.returns-then-not-ends_with_comment-clause-next
returns-then-not-ends_with_comment-clause-next g c =
    let t = c.args.self.now.source.bytes.now in
    let edition = c.args.self.now.edition in
    let f = g.M.MakeTexts.source c.args.self.now.texts.now in
    let start = c.tile_start-start in
    let read = c.in_ok-end.ensures in
    let put = read.adds in
    let tile = put.tile in
    let inside : start.result < length t = omega (arith, read.within.0, read.within.1) in
    let last = ap ends_with_comment (sym c.deref.ensures.value) ∙ sym c.ends_with_comment.ensures in
    let other =
    body_that_ends_otherwise_added_no_comment f g.M.MakeTexts.made _ _ put.entry tile.tree put.added tile.same
    (last ∙ c.if-not-ends_with_comment.true) in
    record {
      entry = put.entry;
      error = put.error;
      added = put.added;
      errors_are = put.errors_are;
      tree = tile.tree;
      in_place = record {
        order = (start.ensures.within.0, read.within.0);
        kept = start.ensures.dropped;
        before = start.ensures.rest edition;
        in_place = rest_holds_from_unattachable_tile edition t _ _ inside c.args.comments start.ensures.dropped
            tile.tree put.error c.args.nesting tile.yields other;
      };
      same = tile.same;
    }

pub returns-clause-next : goal.returns-clause-next
returns-clause-next g c =
    let t = c.args.self.now.source.bytes.now in
    let edition = c.args.self.now.edition in
    let f = g.M.MakeTexts.source c.args.self.now.texts.now in
    let start = c.tile_start-start in
    let read = c.in_ok-end.ensures in
    let put = read.adds in
    let tile = put.tile in
    let inside : start.result < length t = omega (arith, read.within.0, read.within.1) in
    let last = ap ends_with_comment (sym c.deref.ensures.value) ∙ sym c.ends_with_comment.ensures in
    let is =
    body_that_ends_with_comment_added_it f g.M.MakeTexts.made _ _ put.entry tile.tree put.added tile.same
    (last ∙ c.if-not-ends_with_comment.false) in
    let before = c.args.body.now.items in
    let attached = c.in_ok-end-2.ensures.attaches before is.lines (put.added ∙ ap (λ x. before ++ x ∷ []) is.is) in
    let made = attached.2 is.content is.same in
    record {
      entry = attached.0;
      error = put.error;
      added = attached.1;
      errors_are = put.errors_are;
      tree = made.0;
      in_place = record {
        order = (start.ensures.within.0, omega (arith, read.within.0, c.in_ok-end-2.ensures.within.0));
        kept = start.ensures.dropped;
        before = start.ensures.rest edition;
        in_place =
            rest_begins_with_entry_with_comment edition t _ _ _ inside tile.tree put.error tile.yields is.content
            is.tree_is
            c.args.comments start.ensures.dropped made.0 _ made.1;
      };
      same = made.2;
    }

-- ---- how deeply it nests

pub returns-in_err-end-clause-deeper : goal.returns-in_err-end-clause-deeper
returns-in_err-end-clause-deeper g c =
    let p = err_from_is_err_and c.from_residual.result c.from_residual.ensures.1 in
    let start = c.tile_start-start in
    let inside = c.tile_start-start.ensures.within in
    rw (p.1, p.2) (λ e. start.ensures.deeper c.args.self.now.edition c.args.nesting
    (tile_is_too_deep_where_entry_is c.args.self.now.edition c.args.self.now.source.bytes.now c.args.nesting
    c.args.comments _
    start.ensures.dropped
    (omega (arith, inside, c.if-start-self.false)) (c.in_err-end.ensures.deeper e)))

pub returns-in_err-end-2-clause-deeper : goal.returns-in_err-end-2-clause-deeper
returns-in_err-end-2-clause-deeper g c =
    let t = c.args.self.now.source.bytes.now in
    let edition = c.args.self.now.edition in
    let f = g.M.MakeTexts.source c.args.self.now.texts.now in
    let start = c.tile_start-start in
    let read = c.in_ok-end.ensures in
    let put = read.adds in
    let tile = put.tile in
    let inside : start.result < length t = omega (arith, read.within.0, read.within.1) in
    let last = ap ends_with_comment (sym c.deref.ensures.value) ∙ sym c.ends_with_comment.ensures in
    let is =
    body_that_ends_with_comment_added_it f g.M.MakeTexts.made _ _ put.entry tile.tree put.added tile.same
    (last ∙ c.if-not-ends_with_comment.false) in
    let p = err_from_is_err_and c.from_residual-in_err-end-2.result c.from_residual-in_err-end-2.ensures.1 in
    rw (p.1, p.2) (λ e. start.ensures.deeper edition c.args.nesting
    (after_comment edition t c.args.nesting _ _ inside tile.tree put.error tile.yields is.content is.tree_is
    c.args.comments start.ensures.dropped (c.in_err-end-2.ensures.deeper e)))

pub returns-then-start-self-clause-shallow : goal.returns-then-start-self-clause-shallow
returns-then-start-self-clause-shallow g c =
    let t = c.args.self.now.source.bytes.now in
    λ h. no_tile_is_deeper_at_end_of_text c.args.self.now.edition t c.args.nesting c.args.comments _
    c.if-start-self.true
    (c.tile_start-start.ensures.shallow c.args.self.now.edition c.args.nesting h)

pub returns-clause-shallow : goal.returns-clause-shallow
returns-clause-shallow g c =
    let t = c.args.self.now.source.bytes.now in
    let edition = c.args.self.now.edition in
    let f = g.M.MakeTexts.source c.args.self.now.texts.now in
    let start = c.tile_start-start in
    let read = c.in_ok-end.ensures in
    let put = read.adds in
    let tile = put.tile in
    let inside : start.result < length t = omega (arith, read.within.0, read.within.1) in
    let last = ap ends_with_comment (sym c.deref.ensures.value) ∙ sym c.ends_with_comment.ensures in
    let is =
    body_that_ends_with_comment_added_it f g.M.MakeTexts.made _ _ put.entry tile.tree put.added tile.same
    (last ∙ c.if-not-ends_with_comment.false) in
    let attached = c.in_ok-end-2.ensures in (
      λ h. attached_led edition t c.args.nesting _ _ inside tile.tree put.error tile.yields is.content is.tree_is
          c.args.comments start.ensures.dropped _ attached.shallow (start.ensures.shallow edition c.args.nesting h),
      λ h. start.ensures.deeper edition c.args.nesting
          (after_attached edition t c.args.nesting _ _ inside tile.tree put.error tile.yields is.content is.tree_is
          c.args.comments start.ensures.dropped _ attached.beyond h),
    )

pub returns-then-not-ends_with_comment-clause-shallow : goal.returns-then-not-ends_with_comment-clause-shallow
returns-then-not-ends_with_comment-clause-shallow g c =
    let t = c.args.self.now.source.bytes.now in
    let edition = c.args.self.now.edition in
    let n = c.args.nesting in
    let start = c.tile_start-start in
    let read = c.in_ok-end.ensures in
    let inside : start.result < length t = omega (arith, read.within.0, read.within.1) in
    let tile = mode_has_tile c.args.comments edition t _ _ _ _ start.ensures.dropped read.adds.tile.yields.in_place in (
      λ h. one_led edition t n c.args.comments _ _ inside _ tile (start.ensures.shallow edition n h),
      λ h. start.ensures.deeper edition n (after_one edition t n c.args.comments _ _ inside _ tile h),
    )
