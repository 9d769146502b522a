-- From marks to bytes: entries and bodies.
use Rattle.std.proofs.Common.{◌≡◌, ℕ, List, [], ◌∷◌, ◌++◌, Option, Some, None, Bool, true, false, refl, sym, ◌∙◌, subst}
use Rattle.std.proofs.Common.{ap, append_assoc}
use Rattle.std.specs.Prelude.{◌==◌, codes, if◌then◌else◌}
use Rattle.std.specs.List.{list_all}
use Rattle.fluent_syntax_tree.specs.Tree.{PatternTree}
use Rattle.fluent_syntax_tree.specs.Entry.{AttributeTree, MessageTree, TermTree, message, term, comment, junk, Level}
use Rattle.fluent_syntax_tree.specs.Entry.{regular, group, resource, BodyTree}
use Rattle.fluent_syntax_tree.specs.declared.edition.Edition.{Edition}
use Rattle.fluent_syntax_grammar.specs.Bytes.{lf, cr}
use Rattle.fluent_syntax_grammar.specs.Spellings.{is_name}
use Rattle.fluent_syntax_grammar.specs.Written.{Text, Mark, literal, line_end, last_of, is_last, text_after}
use Rattle.fluent_syntax_grammar.specs.Written.{is_nonblank_line, comment_line_marks, comment_marks, hashes_of}
use Rattle.fluent_syntax_grammar.specs.Written.{own_comment_marks, attribute_line_marks, attributes_marks, value_marks}
use Rattle.fluent_syntax_grammar.specs.Written.{pattern_marks, message_marks, term_marks, gap_marks, free_comment_marks}
use Rattle.fluent_syntax_grammar.specs.Written.{body_marks, written}
use Rattle.fluent_syntax_grammar.specs.Rules.{option_obeys, pattern_obeys, attribute_obeys, message_obeys, term_obeys}
use Rattle.fluent_syntax_grammar.specs.Rules.{entry_obeys, body_obeys}
use Rattle.fluent_syntax_grammar.specs.Readable.{has_field}
use Rattle.fluent_syntax_grammar.specs.Canonical.{canonical_rules, is_canonical}
use Rattle.fluent_syntax_grammar.specs.RoundTrip.{ReadsAs, ReadsBack}
use Rattle.fluent_syntax_grammar.proofs.Facts.{and_gives_left, and_gives_right}
use Rattle.fluent_syntax_grammar.proofs.marks.WrittenBytes.{pattern_bytes}
use Rattle.fluent_syntax_grammar.proofs.marks.WrittenEntries.{doubled, after_hashes, comment_bytes, own_comment_bytes}
use Rattle.fluent_syntax_grammar.proofs.marks.WrittenEntries.{more_attributes, value_bytes, message_bytes, term_bytes}
use Rattle.fluent_syntax_grammar.proofs.marks.LastBytes.{literal_is_written}
use Rattle.fluent_syntax_grammar.proofs.marks.Words.{name_ends_plainly}
use Rattle.fluent_syntax_grammar.proofs.marks.Trees.{text_after_other_byte_is_same, whole_pattern_is_written}
use Rattle.fluent_syntax_grammar.proofs.forward.Bodies.{IsWritten, nothing, a_message, a_term, a_comment, gap_bytes}
use Rattle.fluent_syntax_grammar.proofs.forward.Bodies.{canonical_body_reads_back}

-- ---- comments

-- a line end after a byte
line_end_mark_is_written : (last : Option ℕ) (after_cr : Bool) (ms : List Mark) → is_last cr last ≡ after_cr →
    text_after last (line_end ∷ ms) ≡ doubled after_cr (text_after (Some lf) ms)
line_end_mark_is_written last true ms e = rw e refl
line_end_mark_is_written last false ms e = rw e refl

space_keeps_last_cr : (line : Text) → is_last cr (last_of (Some 32) line) ≡ is_last cr (last_of None line)
space_keeps_last_cr [] = refl
space_keeps_last_cr (b ∷ bs) = refl

comment_text_is_written : (line : Text) (shown : Bool) (b : ℕ) (ms : List Mark) → (b == lf) ≡ false → (b == cr) ≡ false
    →
    text_after (Some b) (((if shown then literal 0 (codes " ") ∷ literal 0 line ∷ [] else []) ++ (line_end ∷ [])) ++ ms)
    ≡ after_hashes shown line (text_after (Some lf) ms)
comment_text_is_written line true b ms e f =
    rw e (ap (λ x. 32 ∷ (line ++ x))
    (line_end_mark_is_written (last_of (Some 32) line) (is_last cr (last_of None line)) ms (space_keeps_last_cr line)))
comment_text_is_written line false b ms e f = line_end_mark_is_written (Some b) false ms f

comment_line_is_written : (level : Level) (line : Text) (ms : List Mark) →
    text_after (Some lf) (comment_line_marks (hashes_of level) line ++ ms)
    ≡ hashes_of level ++ after_hashes (is_nonblank_line line) line (text_after (Some lf) ms)
comment_line_is_written regular line ms = ap (λ x. 35 ∷ x) (comment_text_is_written line (is_nonblank_line line) 35 ms
    refl refl)
comment_line_is_written group line ms = ap (λ x. 35 ∷ 35 ∷ x) (comment_text_is_written line (is_nonblank_line line) 35
    ms refl refl)
comment_line_is_written resource line ms =
    ap (λ x. 35 ∷ 35 ∷ 35 ∷ x) (comment_text_is_written line (is_nonblank_line line) 35 ms refl refl)

comment_is_written : (level : Level) (content : List Text) (ms : List Mark) →
    text_after (Some lf) (comment_marks (hashes_of level) content ++ ms)
    ≡ comment_bytes (hashes_of level) content (text_after (Some lf) ms)
comment_is_written level [] ms = refl
comment_is_written level (line ∷ lines) ms =
    ap (text_after (Some lf))
    (append_assoc (comment_line_marks (hashes_of level) line) (comment_marks (hashes_of level) lines) ms)
    ∙ comment_line_is_written level line (comment_marks (hashes_of level) lines ++ ms)
    ∙ ap (λ x. hashes_of level ++ after_hashes (is_nonblank_line line) line x) (comment_is_written level lines ms)

own_comment_is_written : (content : Option (List Text)) (ms : List Mark) →
    text_after (Some lf) (own_comment_marks content ++ ms) ≡ own_comment_bytes content (text_after (Some lf) ms)
own_comment_is_written None ms = refl
own_comment_is_written (Some content) ms = comment_is_written regular content ms

-- ---- messages and terms

module _ (edition : Edition) where
  value_is_written : (value : Option (PatternTree Text)) (ms : List Mark) →
      option_obeys (pattern_obeys (canonical_rules edition)) value ≡ true →
      text_after None (value_marks value ++ ms) ≡ value_bytes value (text_after None ms)
  value_is_written None ms h = refl
  value_is_written (Some p) ms h = whole_pattern_is_written edition 0 p h ms

  attributes_are_written : (more : List (AttributeTree Text)) (ms : List Mark) →
      list_all (attribute_obeys (canonical_rules edition)) more ≡ true →
      text_after None ((attributes_marks more ++ (line_end ∷ [])) ++ ms)
      ≡ lf ∷ more_attributes more (text_after (Some lf) ms)
  attributes_are_written [] ms h = refl
  attributes_are_written (a ∷ more) ms h =
      let this = and_gives_left (attribute_obeys (canonical_rules edition) a) _ h in
      let others = and_gives_right (attribute_obeys (canonical_rules edition) a) _ h in
      let end = line_end ∷ [] in
      let rest = (attributes_marks more ++ end) ++ ms in
      let p = pattern_marks 1 a.value in
      let parts =
      append_assoc (attribute_line_marks a ++ attributes_marks more) end ms
      ∙ append_assoc (attribute_line_marks a) (attributes_marks more) (end ++ ms)
      ∙ ap (λ x. attribute_line_marks a ++ x) (sym (append_assoc (attributes_marks more) end ms)) in
      ap (text_after None) parts
      ∙ ap (λ x. lf ∷ 32 ∷ 32 ∷ 32 ∷ 32 ∷ 46 ∷ x)
      (text_after_other_byte_is_same 46 (literal 1 a.id ∷ literal 1 (codes " =") ∷ (p ++ rest)) refl refl
      ∙ literal_is_written 1 a.id (literal 1 (codes " =") ∷ (p ++ rest))
      (name_ends_plainly a.id (and_gives_left (is_name a.id) _ this))
      ∙ ap (λ x. a.id ++ (32 ∷ 61 ∷ x))
      (text_after_other_byte_is_same 61 (p ++ rest) refl refl
      ∙ whole_pattern_is_written edition 1 a.value (and_gives_right (is_name a.id) _ this) rest
      ∙ ap (pattern_bytes 1 a.value) (attributes_are_written more ms others)))

  -- from ` =` on
  fields_are_written : (value : List Mark) (bytes : Text → Text) (more : List (AttributeTree Text)) (ms : List Mark) →
      ((ms : List Mark) → text_after None (value ++ ms) ≡ bytes (text_after None ms)) →
      list_all (attribute_obeys (canonical_rules edition)) more ≡ true →
      text_after None ((literal 0 (codes " =") ∷ (value ++ (attributes_marks more ++ (line_end ∷ [])))) ++ ms)
      ≡ 32 ∷ 61 ∷ bytes (lf ∷ more_attributes more (text_after (Some lf) ms))
  fields_are_written value bytes more ms k h =
      let rest = attributes_marks more ++ (line_end ∷ []) in
      ap (λ x. 32 ∷ 61 ∷ x)
      (text_after_other_byte_is_same 61 ((value ++ rest) ++ ms) refl refl ∙
      ap (text_after None) (append_assoc value rest ms)
      ∙ k (rest ++ ms) ∙ ap bytes (attributes_are_written more ms h))

  identifier_is_written : (id : Text) (ms : List Mark) → is_name id ≡ true →
      text_after (Some lf) (literal 0 id ∷ ms) ≡ id ++ text_after None ms
  identifier_is_written [] ms h = absurd cc
  identifier_is_written (b ∷ bs) ms h = literal_is_written 0 (b ∷ bs) ms (name_ends_plainly (b ∷ bs) h)

  pub message_is_written : (m : MessageTree Text) (ms : List Mark) → message_obeys (canonical_rules edition) m ≡ true →
      text_after (Some lf) (message_marks m ++ ms)
      ≡ own_comment_bytes m.comment (message_bytes m.id m.value m.attributes (text_after (Some lf) ms))
  message_is_written m ms h =
      let y = and_gives_right (has_field m.value m.attributes) _ h in
      let z = and_gives_right (option_obeys (canonical_rules edition).comment m.comment) _ y in
      let q = and_gives_right (is_name m.id) _ z in
      let fields =
      literal 0 (codes " =") ∷ (value_marks m.value ++ (attributes_marks m.attributes ++ (line_end ∷ []))) in
      ap (text_after (Some lf)) (append_assoc (own_comment_marks m.comment) (literal 0 m.id ∷ fields) ms)
      ∙ own_comment_is_written m.comment (literal 0 m.id ∷ (fields ++ ms))
      ∙ ap (own_comment_bytes m.comment) (identifier_is_written m.id (fields ++ ms) (and_gives_left (is_name m.id) _ z)
      ∙ ap (λ x. m.id ++ x)
      (fields_are_written (value_marks m.value) (value_bytes m.value) m.attributes ms
      (λ ms. value_is_written m.value ms
      (and_gives_left (option_obeys (pattern_obeys (canonical_rules edition)) m.value) _ q))
      (and_gives_right (option_obeys (pattern_obeys (canonical_rules edition)) m.value) _ q)))

  pub term_is_written : (m : TermTree Text) (ms : List Mark) → term_obeys (canonical_rules edition) m ≡ true →
      text_after (Some lf) (term_marks m ++ ms)
      ≡ own_comment_bytes m.comment (term_bytes m.id m.value m.attributes (text_after (Some lf) ms))
  term_is_written m ms h =
      let z = and_gives_right (option_obeys (canonical_rules edition).comment m.comment) _ h in
      let q = and_gives_right (is_name m.id) _ z in
      let fields =
      literal 0 (codes " =") ∷ (pattern_marks 0 m.value ++ (attributes_marks m.attributes ++ (line_end ∷ []))) in
      ap (text_after (Some lf))
      (append_assoc (own_comment_marks m.comment) (literal 0 (codes "-") ∷ literal 0 m.id ∷ fields) ms)
      ∙ own_comment_is_written m.comment (literal 0 (codes "-") ∷ literal 0 m.id ∷ (fields ++ ms))
      ∙ ap (λ x. own_comment_bytes m.comment (45 ∷ x))
      (text_after_other_byte_is_same 45 (literal 0 m.id ∷ (fields ++ ms)) refl refl
      ∙ literal_is_written 0 m.id (fields ++ ms) (name_ends_plainly m.id (and_gives_left (is_name m.id) _ z))
      ∙ ap (λ x. m.id ++ x)
      (fields_are_written (pattern_marks 0 m.value) (pattern_bytes 0 m.value) m.attributes ms
      (λ ms. whole_pattern_is_written edition 0 m.value
      (and_gives_left (pattern_obeys (canonical_rules edition) m.value) _ q) ms)
      (and_gives_right (pattern_obeys (canonical_rules edition) m.value) _ q)))

  -- ---- bodies

  gap_is_written : (follows : Bool) (ms : List Mark) →
      text_after (Some lf) (gap_marks follows ++ ms) ≡ gap_bytes follows (text_after (Some lf) ms)
  gap_is_written true ms = refl
  gap_is_written false ms = refl

  pub free_comment_is_written : (follows : Bool) (level : Level) (content : List Text) (ms : List Mark) →
      text_after (Some lf) (free_comment_marks follows (hashes_of level) content ++ ms)
      ≡ gap_bytes follows (comment_bytes (hashes_of level) content (lf ∷ text_after (Some lf) ms))
  free_comment_is_written follows level content ms =
      let c = comment_marks (hashes_of level) content in
      ap (text_after (Some lf)) (append_assoc (gap_marks follows) (c ++ (line_end ∷ [])) ms)
      ∙ gap_is_written follows ((c ++ (line_end ∷ [])) ++ ms)
      ∙ ap (gap_bytes follows)
      (ap (text_after (Some lf)) (append_assoc c (line_end ∷ []) ms) ∙ comment_is_written level content (line_end ∷ ms))

  body_is_written : (es : BodyTree Text) (follows : Bool) → body_obeys (canonical_rules edition) es ≡ true →
      IsWritten es (text_after (Some lf) (body_marks false follows es))
  body_is_written [] follows h = nothing
  body_is_written (message m ∷ es) follows h =
      let rest = body_marks false true es in
      subst (IsWritten (message m ∷ es))
      (sym (message_is_written m rest (and_gives_left (message_obeys (canonical_rules edition) m) _ h)))
      (a_message m es (text_after (Some lf) rest)
      (body_is_written es true (and_gives_right (message_obeys (canonical_rules edition) m) _ h)))
  body_is_written (term m ∷ es) follows h =
      let rest = body_marks false true es in
      subst (IsWritten (term m ∷ es))
      (sym (term_is_written m rest (and_gives_left (term_obeys (canonical_rules edition) m) _
      h)))
      (a_term m es (text_after (Some lf) rest)
      (body_is_written es true (and_gives_right (term_obeys (canonical_rules edition) m) _ h)))
  body_is_written (comment level content ∷ es) follows h =
      let rest = body_marks false true es in
      subst (IsWritten (comment level content ∷ es)) (sym (free_comment_is_written follows level content rest))
      (a_comment follows level content es (text_after (Some lf) rest)
      (body_is_written es true (and_gives_right (entry_obeys (canonical_rules edition) (comment level content)) _ h)))
  body_is_written (junk x ∷ es) follows h = absurd cc

-- ---- the start of the text, which is written as a line's start

-- marks that give the same at the text's start as at a line's
abbrev pub Starting : List Mark → Type 0
Starting ms = text_after None ms ≡ text_after (Some lf) ms

marks_of_name_are_starting : (id : Text) (ms : List Mark) → is_name id ≡ true → Starting (literal 0 id ∷ ms)
marks_of_name_are_starting [] ms h = absurd cc
marks_of_name_are_starting (b ∷ bs) ms h = refl

marks_of_comment_are_starting : (level : Level) (content : List Text) (ms : List Mark) → Starting ms →
    Starting (comment_marks (hashes_of level) content ++ ms)
marks_of_comment_are_starting level [] ms s = s
marks_of_comment_are_starting regular (line ∷ lines) ms s = refl
marks_of_comment_are_starting group (line ∷ lines) ms s = refl
marks_of_comment_are_starting resource (line ∷ lines) ms s = refl

own_comment_before_starting_is_starting : (content : Option (List Text)) (ms : List Mark) → Starting ms →
    Starting (own_comment_marks content ++ ms)
own_comment_before_starting_is_starting None ms s = s
own_comment_before_starting_is_starting (Some content) ms s = marks_of_comment_are_starting regular content ms s

equal_marks_are_starting : (xs ys : List Mark) → xs ≡ ys → Starting ys → Starting xs
equal_marks_are_starting xs ys e s = subst Starting (sym e) s

pub marks_of_message_are_starting : (m : MessageTree Text) (ms : List Mark) → is_name m.id ≡ true →
    Starting (message_marks m ++ ms)
marks_of_message_are_starting m ms h =
    let fields = literal 0 (codes " =") ∷ (value_marks m.value ++ (attributes_marks m.attributes ++ (line_end ∷ []))) in
    equal_marks_are_starting _ _ (append_assoc (own_comment_marks m.comment) (literal 0 m.id ∷ fields) ms)
    (own_comment_before_starting_is_starting m.comment (literal 0 m.id ∷ (fields ++ ms))
    (marks_of_name_are_starting m.id (fields ++ ms) h))

pub marks_of_term_are_starting : (m : TermTree Text) (ms : List Mark) → Starting (term_marks m ++ ms)
marks_of_term_are_starting m ms =
    let fields =
    literal 0 (codes " =") ∷ (pattern_marks 0 m.value ++ (attributes_marks m.attributes ++ (line_end ∷ []))) in
    equal_marks_are_starting _ _
    (append_assoc (own_comment_marks m.comment) (literal 0 (codes "-") ∷ literal 0 m.id ∷ fields) ms)
    (own_comment_before_starting_is_starting m.comment (literal 0 (codes "-") ∷ literal 0 m.id ∷ (fields ++ ms)) refl)

pub marks_of_free_comment_are_starting : (level : Level) (content : List Text) (ms : List Mark) →
    Starting (free_comment_marks false (hashes_of level) content ++ ms)
marks_of_free_comment_are_starting level content ms =
    equal_marks_are_starting _ _ (append_assoc (comment_marks (hashes_of level) content) (line_end ∷ []) ms)
    (marks_of_comment_are_starting level content (line_end ∷ ms) refl)

marks_of_body_are_starting : (edition : Edition) (es : BodyTree Text) → body_obeys (canonical_rules edition) es ≡ true →
    Starting (body_marks false false es)
marks_of_body_are_starting edition [] h = refl
marks_of_body_are_starting edition (message m ∷ es) h =
    let this = and_gives_left (message_obeys (canonical_rules edition) m) _ h in
    marks_of_message_are_starting m (body_marks false true es)
    (and_gives_left (is_name m.id)
    _ (and_gives_right (option_obeys (canonical_rules edition).comment m.comment)
    _ (and_gives_right (has_field m.value m.attributes) _ this)))
marks_of_body_are_starting edition (term m ∷ es) h = marks_of_term_are_starting m (body_marks false true es)
marks_of_body_are_starting edition (comment level content ∷ es) h =
    marks_of_free_comment_are_starting level content (body_marks false true es)
marks_of_body_are_starting edition (junk x ∷ es) h = absurd cc

-- ---- the round trip

-- a canonical body and the text that it is written as
canonical_body_is_written : (edition : Edition) (es : BodyTree Text) → is_canonical edition es ≡ true →
    IsWritten es (written false es)
unfolding written
canonical_body_is_written edition es h = subst (IsWritten es) (sym (marks_of_body_are_starting edition es h))
    (body_is_written edition es false h)

-- ---- with junk or without

marks_with_junk_are_marks_without : (edition : Edition) (es : BodyTree Text) (follows : Bool) →
    body_obeys (canonical_rules edition) es ≡ true → body_marks true follows es ≡ body_marks false follows es
marks_with_junk_are_marks_without edition [] follows h = refl
marks_with_junk_are_marks_without edition (message m ∷ es) follows h =
    ap (λ ms. message_marks m ++ ms)
    (marks_with_junk_are_marks_without edition es true
    (and_gives_right (message_obeys (canonical_rules edition) m) _ h))
marks_with_junk_are_marks_without edition (term m ∷ es) follows h =
    ap (λ ms. term_marks m ++ ms)
    (marks_with_junk_are_marks_without edition es true (and_gives_right (term_obeys (canonical_rules edition) m) _ h))
marks_with_junk_are_marks_without edition (comment level content ∷ es) follows h =
    ap (λ ms. free_comment_marks follows (hashes_of level) content ++ ms)
    (marks_with_junk_are_marks_without edition es true
    (and_gives_right (entry_obeys (canonical_rules edition) (comment level content)) _ h))
marks_with_junk_are_marks_without edition (junk x ∷ es) follows h = absurd cc

-- A canonical body has no junk, so it is written as one text under both options.
canonical_text_is_same : (edition : Edition) (es : BodyTree Text) → is_canonical edition es ≡ true →
    written true es ≡ written false es
unfolding written
canonical_text_is_same edition es h = ap (text_after None) (marks_with_junk_are_marks_without edition es false h)

-- A canonical tree is read back from the text that it is written as, under both options.
pub written_is_read_back : (edition : Edition) (es : BodyTree Text) → ReadsBack edition es
written_is_read_back edition es with_junk h = canonical_body_written_either_way_reads_back with_junk
  where
    canonical_body_written_plain_reads_back : ReadsAs edition (written false es) es
    canonical_body_written_plain_reads_back =
        canonical_body_reads_back edition es (written false es) h (canonical_body_is_written edition es h)

    canonical_body_written_either_way_reads_back : (with_junk : Bool) → ReadsAs edition (written with_junk es) es
    canonical_body_written_either_way_reads_back false = canonical_body_written_plain_reads_back
    canonical_body_written_either_way_reads_back true = subst (λ t. ReadsAs edition t es)
        (sym (canonical_text_is_same edition es h)) canonical_body_written_plain_reads_back
