use Rattle.std.proofs.Common.{take, not, sym, ap, ◌∙◌}
use Rattle.fluent_syntax_writer.proofs.rules.Named.{new_names, one_new_name, with_name, first_new_name, new_name-used}
use Rattle.fluent_syntax_writer.proofs.rules.Named.{used, used-next}
use Rattle.fluent_syntax_writer.proofs.rules.Steps.{rest_decides_after_item_that_passes, item_that_breaks_decides_rest}
use Rattle.fluent_syntax_writer.proofs.canonical.argument_names.have_new_names_by_pairs.Goals as goal

pub returns-then-is_used : goal.returns-then-is_used
returns-then-is_used g c =
    let f = g.T.ReadTexts.text in
    let named = c.args.named.now in
    let earlier = take c.loop-index.index named in
    let options = rw c.as_str.ensures at c.is_used.ensures in
    let fails = ap not (sym (options ∙ new_name-used f earlier c.index-named-index.result) ∙ c.if-is_used.true) in
    item_that_breaks_decides_rest (new_names f) (one_new_name f) (with_name f) (first_new_name f) (used f earlier) named
    _ _ _
    c.loop-index-test.true c.index-named-index.is fails c.loop-index.invariant.rest

pub loop-index-preserved : goal.loop-index-preserved
loop-index-preserved g c =
    let f = g.T.ReadTexts.text in
    let named = c.args.named.now in
    let earlier = take c.loop-index.index named in
    let options = rw c.as_str.ensures at c.is_used.ensures in
    let holds = ap not (sym (options ∙ new_name-used f earlier c.index-named-index.result) ∙ c.if-is_used.false) in
    let rest =
    rest_decides_after_item_that_passes (new_names f) (one_new_name f) (with_name f) (first_new_name f) (used f earlier)
    named _ _ _
    c.loop-index-test.true c.index-named-index.is holds c.loop-index.invariant.rest in
    record { rest = rw (← used-next f named _ _ c.loop-index-test.true c.index-named-index.is) rest }
