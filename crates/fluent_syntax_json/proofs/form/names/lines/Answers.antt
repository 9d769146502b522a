use Rattle.std.proofs.Common.{string_bytes}
use Rattle.serde_json.specs.Data.{string}
use Rattle.fluent_syntax_json.proofs.Forms.{list-made}
use Rattle.fluent_syntax_json.proofs.form.names.lines.Goals as goal

pub returns : goal.returns
returns c =
    list-made c.loop-line.list _ c.args.comment.now.content.items c.loop-line.line-index string string_bytes
    c.loop-line.invariant c.loop-line-test.false c.deref-line-items.ensures.value
