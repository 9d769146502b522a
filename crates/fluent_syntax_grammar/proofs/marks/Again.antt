-- Written again: canonical trees are written apart, and what a text is read as is written alike once it is joined.
use Rattle.std.proofs.Common.{◌≡◌, ℕ, List, [], ◌∷◌, Bool, None, true, false, sym, ◌∙◌, subst, ap, map, append-nil}
use Rattle.std.specs.List.{flat_map}
use Rattle.fluent_syntax_tree.specs.Entry.{message, term, comment, junk, BodyTree, body_map, message_map, term_map}
use Rattle.fluent_syntax_tree.specs.Spans.{bytes_at}
use Rattle.fluent_syntax_tree.specs.declared.edition.Edition.{Edition}
use Rattle.fluent_syntax_tree.specs.declared.edition.Edition.TheVariants.{One}
use Rattle.fluent_syntax_tree.specs.declared.spans.Span.{Span}
use Rattle.fluent_syntax_grammar.specs.Tiling.{Tile, Tiling}
use Rattle.fluent_syntax_grammar.specs.Body.{body, faults}
use Rattle.fluent_syntax_grammar.specs.UniqueReading.{junk_slice, fault_slice}
use Rattle.fluent_syntax_grammar.specs.Written.{Text, text_after, message_marks, term_marks, free_comment_marks}
use Rattle.fluent_syntax_grammar.specs.Written.{hashes_of, body_marks, written}
use Rattle.fluent_syntax_grammar.specs.Joined.{joined_message, joined_term, joined_body}
use Rattle.fluent_syntax_grammar.specs.RoundTrip.{ReadsAs, tree_of, WrittenApart, WrittenAgain}
use Rattle.fluent_syntax_grammar.proofs.OneTiling.{tilings_of_text_are_same}
use Rattle.fluent_syntax_grammar.proofs.JunkAndSpans.{junk_is_where_errors_are}
use Rattle.fluent_syntax_grammar.proofs.marks.Entries.{written_is_read_back}
use Rattle.fluent_syntax_grammar.proofs.marks.JoinedTrees.{SameText, marks_have_their_own_text, SameText-append}
use Rattle.fluent_syntax_grammar.proofs.marks.JoinedTrees.{joining_keeps_text_of_message, joining_keeps_text_of_term}
use Rattle.fluent_syntax_grammar.proofs.marks.JoinedTrees.{joined_reads_back}

-- a text reads as one tree
text_reads_as_one_tree : (edition : Edition) (t : Text) (r other : BodyTree Text) → ReadsAs edition t r →
    ReadsAs edition t other → r ≡ other
text_reads_as_one_tree edition t r other a b =
    sym a.same ∙ (ap (tree_of t) (tilings_of_text_are_same edition t a.tiles b.tiles a.tiling b.tiling) ∙ b.same)

-- Two canonical trees that are written as one text are equal.
pub serialize_is_injective : (edition : Edition) (r other : BodyTree Text) → WrittenApart edition r other
serialize_is_injective edition r other h g e =
    text_reads_as_one_tree edition (written false r) r other (written_is_read_back edition r false h)
    (subst (λ t. ReadsAs edition t other) (sym e) (written_is_read_back edition other false g))

-- ---- a body without junk is written as its joined body is

module _ (t : List ℕ) where
  body_without_junk_has_text_of_joined : (es : BodyTree Span) (follows : Bool) → flat_map junk_slice es ≡ [] →
      SameText (body_marks false follows (body_map (bytes_at t) es))
      (body_marks false follows (joined_body (body_map (bytes_at t) es)))
  body_without_junk_has_text_of_joined [] follows h = marks_have_their_own_text []
  body_without_junk_has_text_of_joined (message m ∷ es) follows h =
      let n = message_map (bytes_at t) m in
      let rest = body_map (bytes_at t) es in
      SameText-append (message_marks n) (message_marks (joined_message n)) (body_marks false true rest)
      (body_marks false true (joined_body rest)) (joining_keeps_text_of_message n)
      (body_without_junk_has_text_of_joined es true h)
  body_without_junk_has_text_of_joined (term m ∷ es) follows h =
      let n = term_map (bytes_at t) m in
      let rest = body_map (bytes_at t) es in
      SameText-append (term_marks n) (term_marks (joined_term n)) (body_marks false true rest)
      (body_marks false true (joined_body rest)) (joining_keeps_text_of_term n)
      (body_without_junk_has_text_of_joined es true h)
  body_without_junk_has_text_of_joined (comment level content ∷ es) follows h =
      let lines = free_comment_marks follows (hashes_of level) (map (bytes_at t) content) in
      let rest = body_map (bytes_at t) es in
      SameText-append lines lines (body_marks false true rest) (body_marks false true (joined_body rest))
      (marks_have_their_own_text lines)
      (body_without_junk_has_text_of_joined es true h)
  body_without_junk_has_text_of_joined (junk s ∷ es) follows h = absurd cc

  body_without_junk_is_written_as_joined : (es : BodyTree Span) → flat_map junk_slice es ≡ [] →
      written false (joined_body (body_map (bytes_at t) es)) ≡ written false (body_map (bytes_at t) es)
  unfolding written
  body_without_junk_is_written_as_joined es h =
      let xs = body_marks false false (body_map (bytes_at t) es) in
      let ys = body_marks false false (joined_body (body_map (bytes_at t) es)) in
      sym (ap (text_after None) (sym (append-nil xs))
      ∙ (body_without_junk_has_text_of_joined es false h None [] ∙ ap (text_after None) (append-nil ys)))

  faultless_tiles_have_no_junk : (tiles : List Tile) → Tiling One t tiles → faults tiles ≡ [] →
      flat_map junk_slice (body tiles) ≡ []
  faultless_tiles_have_no_junk tiles tiling clean =
      junk_is_where_errors_are One t tiles tiling ∙ ap (map fault_slice) clean

  -- What a text is read as is written as a text that reads as its joined tree, and is written so again.
  pub text_is_written_again : WrittenAgain t
  text_is_written_again tiles tiling canonical = (
    joined_reads_back (tree_of t tiles) canonical,
    written_is_read_back One (joined_body (tree_of t tiles)) false canonical,
    λ clean. body_without_junk_is_written_as_joined (body tiles) (faultless_tiles_have_no_junk tiles tiling clean),
  )
