use Rattle.fluent_syntax_c.proofs.NodeRows.{all_is_what_was_added}
use Rattle.fluent_syntax_c.proofs.nodes.node_rows.Goals as goal

pub returns : goal.returns
returns c =
    let adds = rw (c.new-rows.ensures.items, c.deref.ensures.value) at c.in_ok-add_entries.ensures in
    all_is_what_was_added c.add_entries.new.rows.items _ adds
