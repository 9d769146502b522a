use Rattle.std.proofs.Common.{◌+◌, ◌≤◌, length, arith}
use Rattle.fluent_syntax_json.proofs.Escapes.{plain_block_extends_plain_beginning}
use Rattle.fluent_syntax_json.proofs.writing.escapes.plain_blocks_end.Goals as goal

pub loop-end-preserved : goal.loop-end-preserved
loop-end-preserved c =
    let bytes = c.args.bytes.now in
    let end = c.loop-end.end in
    let room : end + 8 ≤ length bytes = omega (arith, c.loop-end-test.true, c.loop-end.invariant.within) in
    let plain = rw c.if-is_plain_block.true at c.is_plain_block.ensures in
    record {
      within = room;
      plain =
          plain_block_extends_plain_beginning bytes end 8 room plain c.loop-end.invariant.plain;
    }
