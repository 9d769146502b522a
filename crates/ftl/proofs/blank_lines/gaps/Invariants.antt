use Rattle.std.proofs.Common.{◌≡◌, ◌-◌, length}
use Rattle.ftl.proofs.GapsRead.{HasGapsBefore}
use Rattle.ftl.proofs.blank_lines.gaps.Given as goal

abbrev pub invariant-loop-found : goal.invariant-loop-found
invariant-loop-found l = record {
  text : l.tiles.source.bytes.now ≡ l.text;
  edition : l.tiles.edition ≡ l.fn.edition;
  read : HasGapsBefore l.fn.edition l.text l.tiles.ptr l.gaps.items l.last;
}

abbrev pub decreases-loop-found : goal.decreases-loop-found
decreases-loop-found l = length l.text - l.tiles.ptr
