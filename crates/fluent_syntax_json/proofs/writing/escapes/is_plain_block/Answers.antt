use Rattle.std.proofs.Common.{arith}
use Rattle.json.proofs.Printed.Plain.{plain_from_lanes}
use Rattle.fluent_syntax_json.proofs.writing.escapes.is_plain_block.Goals as goal

pub returns : goal.returns
returns c = plain_from_lanes c.args.bytes.now c.args.start 8 c.requires (omega arith) c.type_inv.bytes
