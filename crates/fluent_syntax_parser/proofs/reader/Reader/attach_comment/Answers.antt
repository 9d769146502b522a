use Rattle.std.proofs.Common.{◌<◌, ◌∷◌, ◌++◌, [], length, refl, sym, ap, arith, ◌∙◌}
use Rattle.fluent_syntax_tree.specs.Entry.{comment, regular}
use Rattle.fluent_syntax_tree.specs.declared.ast.Entry.TheVariants as entries
use Rattle.fluent_syntax_grammar.specs.Tiling.{reads}
use Rattle.fluent_syntax_parser.proofs.entry_forms.EntryForms.{no_comment_attaches_to_entry_at_hash}
use Rattle.fluent_syntax_parser.proofs.entry_forms.AttachesOn.{attaches_not_after_blank}
use Rattle.fluent_syntax_parser.proofs.entry_forms.AttachesOn.{unattached_comment_attaches_to_nothing}
use Rattle.fluent_syntax_parser.proofs.entry_forms.AttachesOn.{comment_attaches_to_next_entry}
use Rattle.fluent_syntax_parser.proofs.entry_forms.AttachesOn.{comment_attaches_not_to_refused_entry}
use Rattle.fluent_syntax_parser.proofs.entry_forms.AttachesOn.{comment_attaches_not_to_other_entry}
use Rattle.fluent_syntax_grammar.proofs.TotalEntries.{too_deep_entry_has_more_bytes_than_depth}
use Rattle.fluent_syntax_parser.proofs.tilings.DeeperTiles.{after_one, tile_is_too_deep_where_entry_is, one_led}
use Rattle.fluent_syntax_parser.proofs.tilings.DeeperTiles.{text_is_deeper_by_its_tile, tile_is_deeper_by_its_text}
use Rattle.fluent_syntax_parser.proofs.readers.Fails.{failure_is_refused_as, failure_is_too_deep}
use Rattle.fluent_syntax_parser.proofs.readers.Made.{made_was_read}
use Rattle.fluent_syntax_parser.proofs.entry_forms.MadeEntries.{attached_entry_has_attached_tree}
use Rattle.fluent_syntax_parser.proofs.entry_forms.MadeEntries.{unattached_entry_has_unattached_tree}
use Rattle.fluent_syntax_parser.proofs.tilings.Rests.{entry_at-within}
use Rattle.fluent_syntax_parser.specs.declared.options.Comments.TheVariants.{Kept}
use Rattle.fluent_syntax_parser.proofs.reader.Reader.attach_comment.Goals as goal
use Rattle.fluent_syntax_parser.proofs.reader.Reader.attach_comment.Goals.{then-is_byte_at-via-then-is_byte_at}
use Rattle.fluent_syntax_parser.proofs.reader.Reader.attach_comment.Goals.{
  then-is_byte_at-via-else-is_byte_at+then-skip_blank_block-ptr,
}

pub returns-then-is_byte_at-clause-attaches : goal.returns-then-is_byte_at-clause-attaches
returns-then-is_byte_at-clause-attaches g c = λ before comm last.
    let edition = c.args.self.now.edition in
    let t = c.args.self.now.source.bytes.now in (
      entries.Comment comm,
      last,
      (λ content lines. (
        comment regular content,
        unattached_comment_attaches_to_nothing edition t content c.args.ptr (comment regular content) refl
            (elim c.then-is_byte_at.branch [
              | then-is_byte_at-via-then-is_byte_at w ↦
                  (λ block e j read.
                  no_comment_attaches_to_entry_at_hash edition t content c.args.ptr j e (sym w.if-is_byte_at.ensures)
                  read)
              | then-is_byte_at-via-else-is_byte_at+then-skip_blank_block-ptr w ↦
                  attaches_not_after_blank edition t content c.args.ptr _ w.skip_blank_block.ensures.blank
                  w.if-skip_blank_block-ptr.true
            ]),
        ap (comment regular) lines,
      )),
    )

pub returns-then-attaches-clause-attaches : goal.returns-then-attaches-clause-attaches
returns-then-attaches-clause-attaches g c = λ before comm last.
    let t = c.args.self.now.source.bytes.now in
    let edition = c.args.self.now.edition in
    let f = g.M.MakeTexts.source c.args.self.now.texts.now in
    let found = c.in-Ok.ensures in
    let e = found.adds.0 in
    let inside : c.args.ptr < length t = omega (arith, found.within.0, found.within.1) in
    let block = rw c.if-skip_blank_block-ptr.false at c.skip_blank_block.ensures.blank in
    let attached = c.in_ok-attaches-in-Ok.ensures before comm e (found.adds.1 ∙ ap (λ xs. xs ++ e ∷ []) last) in
    let attaches = rw c.if-attaches.true at attached in (
      attaches.0,
      attaches.2,
      (λ content lines. made_was_read found.adds.2 (λ tree read same.
          let made = attached_entry_has_attached_tree f g.M.MakeTexts.made comm e content tree lines same _
          attaches.1 in (
            made.0,
            comment_attaches_to_next_entry edition t content c.args.ptr tree made.0 _ block inside
                (entry_at-within edition t c.args.nesting c.args.ptr read) made.1,
            made.2,
          ))),
    )

pub returns-else-attaches-clause-attaches : goal.returns-else-attaches-clause-attaches
returns-else-attaches-clause-attaches g c = λ before comm last.
    let t = c.args.self.now.source.bytes.now in
    let edition = c.args.self.now.edition in
    let f = g.M.MakeTexts.source c.args.self.now.texts.now in
    let found = c.in-Ok.ensures in
    let e = found.adds.0 in
    let attached = c.in_ok-attaches-in-Ok.ensures before comm e (found.adds.1 ∙ ap (λ xs. xs ++ e ∷ []) last) in
    let other = rw c.if-attaches.false at attached in (
      entries.Comment comm,
      other.1,
      (λ content lines. made_was_read found.adds.2 (λ tree read same. (
        comment regular content,
        unattached_comment_attaches_to_nothing edition t content c.args.ptr (comment regular content) refl
            (comment_attaches_not_to_other_entry edition t content c.args.ptr tree _
            (entry_at-within edition t c.args.nesting c.args.ptr read)
            (unattached_entry_has_unattached_tree f g.M.MakeTexts.made comm e content tree lines same other.0)),
        ap (comment regular) lines,
      ))),
    )

pub returns-in-Err-Refused-clause-attaches : goal.returns-in-Err-Refused-clause-attaches
returns-in-Err-Refused-clause-attaches g c = λ before comm last.
    let edition = c.args.self.now.edition in
    let t = c.args.self.now.source.bytes.now in
    let found = rw c.in-Err-Refused.field-0-is at c.in-Err-Refused.ensures.adds in (
      entries.Comment comm,
      found.1 ∙ last,
      (λ content lines. (
        comment regular content,
        unattached_comment_attaches_to_nothing edition t content c.args.ptr (comment regular content) refl
            (comment_attaches_not_to_refused_entry edition t content c.args.ptr _
            (λ k from to shows. entry_at-within edition t c.args.nesting c.args.ptr
            (failure_is_refused_as found.0 k from to shows))),
        ap (comment regular) lines,
      )),
    )

-- ---- how deeply it nests

pub returns-then-attaches-clause-beyond : goal.returns-then-attaches-clause-beyond
returns-then-attaches-clause-beyond g c =
    let t = c.args.self.now.source.bytes.now in
    let read = c.in-Ok.ensures in
    let inside : c.args.ptr < length t = omega (arith, read.within.0, read.within.1) in
    let block = rw c.if-skip_blank_block-ptr.false at c.skip_blank_block.ensures.blank in
    made_was_read read.adds.2
    (λ tree there same. λ h. text_is_deeper_by_its_tile c.args.self.now.edition t c.args.nesting Kept _ _ block
    (after_one c.args.self.now.edition t c.args.nesting Kept _ _ inside _ (reads there) h))

pub returns-in-Err-TooDeep-clause-deeper : goal.returns-in-Err-TooDeep-clause-deeper
returns-in-Err-TooDeep-clause-deeper g c =
    let t = c.args.self.now.source.bytes.now in
    let block = rw c.if-skip_blank_block-ptr.false at c.skip_blank_block.ensures.blank in
    let deep = failure_is_too_deep (rw c.in-Err-TooDeep.field-0-is at c.in-Err-TooDeep.ensures.adds).0 in
    let left = too_deep_entry_has_more_bytes_than_depth c.args.self.now.edition t c.args.nesting c.args.ptr c.requires
    deep in
    λ e. text_is_deeper_by_its_tile c.args.self.now.edition t c.args.nesting Kept _ _ block
    (tile_is_too_deep_where_entry_is c.args.self.now.edition t c.args.nesting Kept _ (λ f. cc) (omega (arith, left))
    deep)

pub returns-in-Err-TooDeep-clause-nests : goal.returns-in-Err-TooDeep-clause-nests
returns-in-Err-TooDeep-clause-nests g c = λ e.
    too_deep_entry_has_more_bytes_than_depth c.args.self.now.edition c.args.self.now.source.bytes.now _ _ c.requires
    (failure_is_too_deep (rw c.in-Err-TooDeep.field-0-is at c.in-Err-TooDeep.ensures.adds).0)

pub returns-then-attaches-clause-shallow : goal.returns-then-attaches-clause-shallow
returns-then-attaches-clause-shallow g c =
    let t = c.args.self.now.source.bytes.now in
    let read = c.in-Ok.ensures in
    let inside : c.args.ptr < length t = omega (arith, read.within.0, read.within.1) in
    let block = rw c.if-skip_blank_block-ptr.false at c.skip_blank_block.ensures.blank in
    made_was_read read.adds.2
    (λ tree there same. λ h. one_led c.args.self.now.edition t c.args.nesting Kept _ _ inside _
    (reads there) (tile_is_deeper_by_its_text c.args.self.now.edition t c.args.nesting Kept _ _ block h))
