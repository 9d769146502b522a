use Rattle.std.proofs.Common.{◌≡◌, ◌++◌, drop}
use Rattle.ftl.specs.BlankLines.{places_of}
use Rattle.ftl.proofs.blank_lines.places_of.Given as goal

abbrev pub invariant-loop-index : goal.invariant-loop-index
invariant-loop-index l = record {
  rest :
      l.places.items ++ places_of (drop l.index l.wanted) (drop l.index l.there) ≡ places_of l.wanted l.there;
}
