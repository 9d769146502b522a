use Rattle.std.proofs.Common.{◌≡◌, ◌∙◌, ◌+◌, ◌++◌, ◌∷◌, [], ap, false, get_or, sym, take}
use Rattle.std.specs.List.{cons_option}
use Rattle.std.proofs.lemmas.List.{append-nil, take_more}
use Rattle.std.proofs.lemmas.List.Elements.{filter_map-append}
use Rattle.fluent_syntax_tree.specs.declared.spans.Span.{Span}
use Rattle.fluent_syntax_names.specs.declared.mention.Mention.{Mention}
use Rattle.fluent_syntax_names.specs.declared.mention.Mention.TheVariants as says
use Rattle.ftl_files.specs.CommentRules.{definition_start, definition_starts}
use Rattle.ftl_files.proofs.comment_rules.commented_entries.Goals.{in-Some+in_ok-add_entry, in_default}
use Rattle.ftl_files.proofs.comment_rules.commented_entries.Goals as goal

pub loop-mention-preserved : goal.loop-mention-preserved
loop-mention-preserved c =
    let first : Mention Span = says.Message (record { start = 0; end = 0 }) false in
    let items = c.deref-mention-items.result.now in
    let i = c.loop-mention.mention-index in
    let mention = get_or items i first in
    let before = definition_starts (take i items) in
    let more : definition_starts (take (i + 1) items) ≡ before ++ cons_option (definition_start mention) [] =
    ap definition_starts (take_more items i first c.loop-mention-test.true)
    ∙ filter_map-append definition_start (take i items) (mention ∷ []) in
    let inv = c.loop-mention.invariant in
    elim c.match-definition_start.branch [
      | in-Some+in_ok-add_entry w ↦ rw w.entries-is (record {
        read = w.in_ok-add_entry.ensures.read inv.read;
        all =
            w.in_ok-add_entry.ensures.start ∙ ap (λ starts. starts ++ w.in-Some.start ∷ []) inv.all
            ∙ ap (λ found. before ++ cons_option found []) (sym w.in-Some.is ∙ c.definition_start.ensures)
            ∙ sym more;
      })
      | in_default w ↦ rw w.entries-is (record {
        read = inv.read;
        all =
            inv.all ∙ sym (append-nil before)
            ∙ ap (λ found. before ++ cons_option found []) (sym w.in_default.is ∙ c.definition_start.ensures)
            ∙ sym more;
      })
    ]
