use Rattle.std.proofs.Common.{◌<◌, length, sym, arith}
use Rattle.fluent_syntax_grammar.proofs.Functional.{blank_block_ends_at_one_place}
use Rattle.fluent_syntax_parser.proofs.tilings.DeeperTiles.{tile_is_deeper_by_text_after_dropped}
use Rattle.fluent_syntax_parser.proofs.tilings.DeeperTiles.{text_after_dropped_is_deeper_by_tile}
use Rattle.fluent_syntax_parser.proofs.tilings.DeeperTiles.{text_is_deeper_by_its_tile, tile_is_deeper_by_its_text}
use Rattle.fluent_syntax_parser.proofs.tilings.Rests.{rest_holds_from_block_before, rest_holds_from_dropped_comment}
use Rattle.fluent_syntax_parser.proofs.source.Source.tile_start.Goals as goal

pub loop-comments-init : goal.loop-comments-init
loop-comments-init c =
    let t = c.args.self.now.bytes.now in
    let block = c.skip_blank_block-start.ensures in
    record {
      forward = block.forward;
      within = block.within;
      rest = λ edition entries errors rest.
          rest_holds_from_block_before c.args.comments edition t _ _ entries errors block.blank rest;
      deeper = λ edition n h. text_is_deeper_by_its_tile edition t n c.args.comments _ _ block.blank h;
      shallow = λ edition n h. tile_is_deeper_by_its_text edition t n c.args.comments _ _ block.blank h;
      blank = λ all. blank_block_ends_at_one_place.same c.args.ptr _ _ block.blank all;
    }

pub loop-comments-preserved : goal.loop-comments-preserved
loop-comments-preserved c =
    let t = c.args.self.now.bytes.now in
    let inv = c.loop-comments.invariant in
    let line = c.skip_comment.ensures in
    let block = c.skip_blank_block-start-in-loop-comments.ensures in
    let inside : c.loop-comments.start < length t = omega (arith, line.within.0, line.within.1) in
    record {
      forward = omega (arith, inv.forward, line.within.0, block.forward);
      within = block.within;
      rest = λ edition entries errors rest. inv.rest edition entries errors
          (rest_holds_from_dropped_comment edition t _ _ inside c.args.comments (sym c.loop-comments-test.ensures)
          (sym c.if-is_byte_at.ensures) line.line entries errors
          (rest_holds_from_block_before c.args.comments edition t _ _ entries errors block.blank rest));
      deeper = λ edition n h. inv.deeper edition n
          (tile_is_deeper_by_text_after_dropped edition t n _ _ inside c.args.comments
          (sym c.loop-comments-test.ensures)
          (sym c.if-is_byte_at.ensures) line.line
          (text_is_deeper_by_its_tile edition t n c.args.comments _ _ block.blank h));
      shallow = λ edition n h. tile_is_deeper_by_its_text edition t n c.args.comments _ _ block.blank
          (text_after_dropped_is_deeper_by_tile edition t n _ _ inside c.args.comments
          (sym c.loop-comments-test.ensures)
          (sym c.if-is_byte_at.ensures) line.line (inv.shallow edition n h));
      blank = λ all. let end = inv.blank all in absurd (omega (arith, end, inside));
    }
