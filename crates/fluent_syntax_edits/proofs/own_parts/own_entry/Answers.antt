use Rattle.std.proofs.Common.{[], ◌∷◌, ◌++◌, ◌∙◌, ap, map, string_bytes}
use Rattle.fluent_syntax_tree.specs.View.{entry_view}
use Rattle.fluent_syntax_edits.proofs.JoinedParts.{last_joined_entry_is_joined_part}
use Rattle.fluent_syntax_edits.proofs.own_parts.own_entry.Goals as goal

pub returns-in-Some : goal.returns-in-Some
returns-in-Some g c =
    let text = entry_view g.S.Slice.text in
    let pushed =
    c.in_ok-push.ensures.items ∙ ap (λ es. es ++ c.in_ok-try_clone.field-0 ∷ []) c.new-body.ensures.items in
    last_joined_entry_is_joined_part (entry_view string_bytes) _ _ c.in-Some.own _ _ c.in-Some.ensures.items
    c.in_ok-tree.ensures.joined (ap (map text) pushed ∙ ap (λ e. e ∷ []) c.in_ok-try_clone.ensures)
