use Rattle.std.proofs.Common.{◌≡◌, drop}
use Rattle.ftl.specs.FromJson.{nests_deeper, opens_more}
use Rattle.ftl.proofs.from_json.nests_deeper.Given as goal

abbrev pub invariant-loop-byte : goal.invariant-loop-byte
invariant-loop-byte l = opens_more l.depth l.opened (drop l.byte-index l.json) ≡ nests_deeper l.depth l.json
