use Rattle.std.proofs.Common.{string_bytes}
use Rattle.fluent_syntax_tree.specs.View.{entry_view}
use Rattle.fluent_syntax_json.specs.Form.{entry_form}
use Rattle.fluent_syntax_json.proofs.Forms.{list-made}
use Rattle.fluent_syntax_json.proofs.form.entries.to_value.Goals as goal

pub returns : goal.returns
returns c =
    let made =
    list-made c.loop-item.list _ c.args.r.now.body.items c.loop-item.item-index entry_form (entry_view string_bytes)
    c.loop-item.invariant c.loop-item-test.false c.deref-item-items.ensures.value in
    rw (c.into_value.ensures, c.in_ok-with.ensures, c.new.ensures, made)
