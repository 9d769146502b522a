use Rattle.std.proofs.Common.{◌≡◌, ◌++◌, ◌∷◌, ◌∙◌, [], ℕ, List, ap, append_assoc, string_bytes}
use Rattle.std.specs.Fmt.{decimal}
use Rattle.ftl_project.specs.Excerpt.{shown_text}
use Rattle.ftl_project.specs.Summaries.{placed_note, lossy_entry_line_of}
use Rattle.ftl_project.proofs.NoteTexts.{line_says_some_text}
use Rattle.ftl_project.proofs.formatting.lossy_entry.lossy_entry_line.Goals as goal

joined_parts_of_note_are_placed_note : (path : List ℕ) (line column : ℕ) (note rule : List ℕ) →
    path ++ (58 ∷ (decimal line ++ (58 ∷ (decimal column ++ (58 ∷ 32 ∷ (note ++ (58 ∷ 32 ∷ (rule ++ (10 ∷ [])))))))))
    ≡ placed_note path line column note rule
joined_parts_of_note_are_placed_note path line column note rule = simp append_assoc

pub returns : goal.returns
returns c =
    let path = shown_text c.args.path.now in
    let shown = c.in_ok-push_shown_text.ensures ∙ ap (λ front. front ++ path) c.new-shown.ensures.bytes in
    let entry = c.args.entry in
    let note = c.args.note.now in
    let rule = string_bytes c.in_ok-rule.rule in
    line_says_some_text c.format-2.result _ (lossy_entry_line_of c.args.path.now entry note) rule
    (joined_parts_of_note_are_placed_note _ entry.line entry.column note rule
    ∙ ap (λ front. placed_note front entry.line entry.column note rule)
    shown)
    c.format-2.ensures.ok
