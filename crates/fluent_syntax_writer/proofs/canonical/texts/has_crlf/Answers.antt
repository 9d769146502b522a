use Rattle.fluent_syntax_writer.proofs.rules.Bytes.{has_crlf_after-false}
use Rattle.fluent_syntax_writer.proofs.canonical.texts.has_crlf.Goals as goal

pub loop-byte-init : goal.loop-byte-init
loop-byte-init c = record { rest = has_crlf_after-false c.args.bytes.now }
