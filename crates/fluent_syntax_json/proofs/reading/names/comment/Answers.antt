use Rattle.std.proofs.Common.{string_bytes, sym, ◌∙◌}
use Rattle.std.proofs.lemmas.Result.{err_from_is_err_and}
use Rattle.serde_json.specs.Find.{as_str}
use Rattle.serde_json.specs.View.{view}
use Rattle.fluent_syntax_json.proofs.Items.{handed, pushed, item_that_fails_fails_items}
use Rattle.fluent_syntax_json.proofs.Lines.{non_text_is_list_of_lines}
use Rattle.fluent_syntax_json.proofs.reading.names.comment.Goals as goal

pub returns-in_err-text-2 : goal.returns-in_err-text-2
returns-in_err-text-2 c =
    let p = err_from_is_err_and c.from_residual-in_err-text-2.result c.from_residual-in_err-text-2.ensures.1 in
    handed _ _ _ _ _ _ p.1 p.2
    (λ q. rw (
      c.in_ok-content.ensures,
      non_text_is_list_of_lines (view c.in_ok-content.content.now) (sym c.is_string.ensures ∙ c.if-is_string.false),
      c.in_ok-list.ensures,
      item_that_fails_fails_items as_str c.in_ok-list.field-0.now.items c.deref-line-items.result.now
          c.loop-line.line-index
          c.line-item.result c.loop-line-test.true c.line-item.is c.deref-line-items.ensures.value q,
    ))
    c.in_err-text-2.ensures

pub loop-line-preserved : goal.loop-line-preserved
loop-line-preserved c =
    pushed as_str string_bytes _ _ c.in_ok-text-2.field-0 _ c.loop-line.line-index c.line-item.result
    c.loop-line.invariant c.in_ok-push-2.ensures.items c.loop-line-test.true c.line-item.is c.in_ok-text-2.ensures
