-- A tree and its joined tree are written as the same text.
use Rattle.std.proofs.Common.{◌≡◌, ℕ, zero, suc, ◌+◌, ◌*◌, List, [], ◌∷◌, ◌++◌, replicate, map, Option, Some, None}
use Rattle.std.proofs.Common.{Bool, true, false, refl, sym, ◌∙◌, subst, ap, append_assoc, append-nil}
use Rattle.std.specs.Prelude.{◌==◌, not, codes, if◌then◌else◌, option_map}
use Rattle.fluent_syntax_tree.specs.Tree.{KeyTree, ExpressionTree, select, inline, InlineTree, string_literal}
use Rattle.fluent_syntax_tree.specs.Tree.{number_literal, function_reference, message_reference, term_reference}
use Rattle.fluent_syntax_tree.specs.Tree.{variable_reference, inline_placeable, ArgumentsTree, arguments}
use Rattle.fluent_syntax_tree.specs.Tree.{MaybeArguments, no_arguments, some_arguments, InlineTrees, no_inlines}
use Rattle.fluent_syntax_tree.specs.Tree.{inlines, NamedTree, NamedTrees, no_named, nameds, named_argument}
use Rattle.fluent_syntax_tree.specs.Tree.{text_element, placeable, PatternTree, no_elements, elements, VariantTrees}
use Rattle.fluent_syntax_tree.specs.Tree.{no_variants, variants, variant}
use Rattle.fluent_syntax_tree.specs.Entry.{AttributeTree, MessageTree, TermTree, message, term, comment, junk, BodyTree}
use Rattle.fluent_syntax_tree.specs.declared.edition.Edition.{Edition}
use Rattle.fluent_syntax_tree.specs.declared.edition.Edition.TheVariants.{One}
use Rattle.fluent_syntax_grammar.specs.PatternTexts.{ends_in_lf, is_empty, is_lone_lf}
use Rattle.fluent_syntax_grammar.specs.Bytes.{lf, space}
use Rattle.fluent_syntax_grammar.specs.Spellings.{is_name}
use Rattle.fluent_syntax_grammar.specs.Written.{Text, Mark, literal, line_end, last_of, is_last, mark_text, text_after}
use Rattle.fluent_syntax_grammar.specs.Written.{begins_with_mark, has_leading_mark, opening_mark, inner_level}
use Rattle.fluent_syntax_grammar.specs.Written.{attribute_marks, default_marks, key_text, joined, more_joined}
use Rattle.fluent_syntax_grammar.specs.Written.{expression_marks, variants_marks, variant_marks, inline_marks}
use Rattle.fluent_syntax_grammar.specs.Written.{maybe_marks, arguments_marks, positional_marks, named_marks}
use Rattle.fluent_syntax_grammar.specs.Written.{argument_marks, elements_marks, element_marks, pattern_marks}
use Rattle.fluent_syntax_grammar.specs.Written.{own_comment_marks, attribute_line_marks, attributes_marks, value_marks}
use Rattle.fluent_syntax_grammar.specs.Written.{message_marks, term_marks, body_marks, written}
use Rattle.fluent_syntax_grammar.specs.Readable.{has_field}
use Rattle.fluent_syntax_grammar.specs.Rules.{option_obeys, message_obeys, term_obeys, entry_obeys, body_obeys}
use Rattle.fluent_syntax_grammar.specs.Canonical.{canonical_rules, is_canonical}
use Rattle.fluent_syntax_grammar.specs.Joined.{is_joined, joined_expression, joined_inline, joined_maybe}
use Rattle.fluent_syntax_grammar.specs.Joined.{joined_arguments, joined_inlines, joined_nameds, joined_named}
use Rattle.fluent_syntax_grammar.specs.Joined.{joined_variants, joined_pattern, joined_after, joined_attribute}
use Rattle.fluent_syntax_grammar.specs.Joined.{joined_message, joined_term, joined_body}
use Rattle.fluent_syntax_grammar.specs.RoundTrip.{ReadsBackJoined}
use Rattle.fluent_syntax_grammar.proofs.Facts.{and_gives_left, and_gives_right, same_by_test}
use Rattle.fluent_syntax_grammar.proofs.forward.Bodies.{IsWritten, nothing, a_message, a_term, a_comment}
use Rattle.fluent_syntax_grammar.proofs.forward.Bodies.{canonical_body_reads_back}
use Rattle.fluent_syntax_grammar.proofs.marks.WrittenBytes.{line_indent}
use Rattle.fluent_syntax_grammar.proofs.JoinedLines.{joining_keeps_is_multiline}
use Rattle.fluent_syntax_grammar.proofs.marks.LastBytes.{last_of_append_is_of_second}
use Rattle.fluent_syntax_grammar.proofs.marks.Words.{literal_is_written_off_line_start, literal_is_written_at_line}
use Rattle.fluent_syntax_grammar.proofs.marks.Entries.{message_is_written, term_is_written, free_comment_is_written}
use Rattle.fluent_syntax_grammar.proofs.marks.Entries.{Starting, marks_of_message_are_starting}
use Rattle.fluent_syntax_grammar.proofs.marks.Entries.{marks_of_term_are_starting, marks_of_free_comment_are_starting}
use Rattle.fluent_syntax_grammar.proofs.Tests.{not_true_is_false}

-- ---- marks that give the same text, whatever comes before and after them

abbrev pub SameText : (xs ys : List Mark) → Type 0
SameText xs ys = (last : Option ℕ) (ms : List Mark) → text_after last (xs ++ ms) ≡ text_after last (ys ++ ms)

pub marks_have_their_own_text : (xs : List Mark) → SameText xs xs
marks_have_their_own_text xs last ms = refl

same_cons : (m : Mark) (xs ys : List Mark) → SameText xs ys → SameText (m ∷ xs) (m ∷ ys)
same_cons m xs ys h last ms = ap (λ t. mark_text last m ++ t) (h (last_of last (mark_text last m)) ms)

SameText-prepend : (front xs ys : List Mark) → SameText xs ys → SameText (front ++ xs) (front ++ ys)
SameText-prepend [] xs ys h = h
SameText-prepend (m ∷ front) xs ys h = same_cons m (front ++ xs) (front ++ ys) (SameText-prepend front xs ys h)

pub SameText-append : (as' bs xs ys : List Mark) → SameText as' bs → SameText xs ys → SameText (as' ++ xs) (bs ++ ys)
SameText-append as' bs xs ys g h last ms =
    ap (text_after last) (append_assoc as' xs ms) ∙ g last (xs ++ ms)
    ∙ sym (ap (text_after last) (append_assoc bs xs ms)) ∙ SameText-prepend bs xs ys h last ms

-- lists of marks, each of which gives the same
data SameLists : (xs ys : List (List Mark)) → Type 0 where
  no_lists : SameLists [] []
  more_lists : {x y : List Mark} {xs ys : List (List Mark)} → SameText x y → SameLists xs ys →
      SameLists (x ∷ xs) (y ∷ ys)

appended_lists_have_same_texts : (as' bs xs ys : List (List Mark)) → SameLists as' bs → SameLists xs ys →
    SameLists (as' ++ xs) (bs ++ ys)
appended_lists_have_same_texts [] [] xs ys no_lists h = h
appended_lists_have_same_texts [] (b ∷ bs) xs ys g h = elim g [ ]
appended_lists_have_same_texts (a ∷ as') [] xs ys g h = elim g [ ]
appended_lists_have_same_texts (a ∷ as') (b ∷ bs) xs ys (more_lists g gs) h =
    more_lists g (appended_lists_have_same_texts as' bs xs ys gs h)

more_joined_is_same_text : (level : ℕ) (xs ys : List (List Mark)) → SameLists xs ys →
    SameText (more_joined level xs) (more_joined level ys)
more_joined_is_same_text level [] [] no_lists = marks_have_their_own_text []
more_joined_is_same_text level [] (y ∷ ys) g = elim g [ ]
more_joined_is_same_text level (x ∷ xs) [] g = elim g [ ]
more_joined_is_same_text level (x ∷ xs) (y ∷ ys) (more_lists g gs) =
    same_cons (literal level (codes ", ")) (x ++ more_joined level xs) (y ++ more_joined level ys)
    (SameText-append x y (more_joined level xs) (more_joined level ys) g (more_joined_is_same_text level xs ys gs))

lists_of_same_texts_join_to_same_text : (level : ℕ) (xs ys : List (List Mark)) → SameLists xs ys →
    SameText (joined level xs) (joined level ys)
lists_of_same_texts_join_to_same_text level [] [] no_lists = marks_have_their_own_text []
lists_of_same_texts_join_to_same_text level [] (y ∷ ys) g = elim g [ ]
lists_of_same_texts_join_to_same_text level (x ∷ xs) [] g = elim g [ ]
lists_of_same_texts_join_to_same_text level (x ∷ xs) (y ∷ ys) (more_lists g gs) =
    SameText-append x y (more_joined level xs) (more_joined level ys) g (more_joined_is_same_text level xs ys gs)

-- ---- a text and a lone LF

lone_lf_is_one_lf : (w : Text) → is_lone_lf w ≡ true → w ≡ lf ∷ []
lone_lf_is_one_lf [] e = cc
lone_lf_is_one_lf (b ∷ bs) e =
    lf_before_nothing_is_lone_lf b bs (same_by_test b lf (and_gives_left (b == lf) (is_empty bs) e))
    (and_gives_right (b == lf) (is_empty bs) e)
  where
    lf_before_nothing_is_lone_lf : (b : ℕ) (bs : Text) → b ≡ lf → is_empty bs ≡ true → b ∷ bs ≡ lf ∷ []
    lf_before_nothing_is_lone_lf b [] e f = ap (λ b. b ∷ []) e
    lf_before_nothing_is_lone_lf b (c ∷ bs) e f = cc

spaces_end_in_no_lf : (n : ℕ) → is_last lf (last_of (Some space) (replicate n space)) ≡ false
spaces_end_in_no_lf zero = refl
spaces_end_in_no_lf (suc n) = spaces_end_in_no_lf n

-- after nothing
empty_literal_is_written : (at_line : Bool) (n : ℕ) (last : Option ℕ) (ms : List Mark) → is_last lf last ≡ at_line →
    ((if at_line then replicate n space else []) ++ []) ++
    (((if is_last lf (last_of last ((if at_line then replicate n space else []) ++ [])) then replicate n space else
    []) ++ (lf ∷ [])) ++
    text_after (last_of (last_of last ((if at_line then replicate n space else []) ++ []))
    ((if is_last lf (last_of last ((if at_line then replicate n space else []) ++ [])) then replicate n space
    else []) ++ (lf ∷ []))) ms)
    ≡ ((if at_line then replicate n space else []) ++ (lf ∷ [])) ++
    text_after (last_of last ((if at_line then replicate n space else []) ++ (lf ∷ []))) ms
empty_literal_is_written false n last ms e = rw e refl
empty_literal_is_written true zero last ms e = rw e refl
empty_literal_is_written true (suc n) last ms e =
    rw (
      append-nil (replicate n space),
      spaces_end_in_no_lf n,
      last_of_append_is_of_second (replicate n space) (Some space) lf [],
    )
    (ap (λ t. space ∷ t) (sym (append_assoc (replicate n space) (lf ∷ []) (text_after (Some lf) ms))))

two_literals_are_one : (level : ℕ) (v : Text) (ms : List Mark) (last : Option ℕ) → ends_in_lf v ≡ false →
    text_after last (literal level v ∷ literal level (lf ∷ []) ∷ ms)
    ≡ text_after last (literal level (v ++ (lf ∷ [])) ∷ ms)
two_literals_are_one level [] ms last e = empty_literal_is_written (is_last lf last) (4 * level) last ms refl
two_literals_are_one level (c ∷ v) ms last e =
    let at_line = is_last lf last in
    literal_is_written_at_line last at_line level c v (literal level (lf ∷ []) ∷ ms) refl
    ∙ ap (λ t. line_indent level at_line ++ ((c ∷ v) ++ t))
    (literal_is_written_off_line_start (last_of None (c ∷ v)) level (lf ∷ []) ms e)
    ∙ ap (λ t. line_indent level at_line ++ t)
    (sym (append_assoc (c ∷ v) (lf ∷ []) (text_after (Some lf) ms))
    ∙ ap (λ o. (c ∷ (v ++ (lf ∷ []))) ++ text_after o ms) (sym (last_of_append_is_of_second v (Some c) lf [])))
    ∙ sym (literal_is_written_at_line last at_line level c (v ++ (lf ∷ [])) ms refl)

joined_parts_are_text_and_lf : (v w : Text) → is_joined v w ≡ true → (w ≡ lf ∷ []) × (ends_in_lf v ≡ false)
joined_parts_are_text_and_lf v w e = (
  lone_lf_is_one_lf w (and_gives_left (is_lone_lf w) (not (ends_in_lf v)) e),
  not_true_is_false (ends_in_lf v) (and_gives_right (is_lone_lf w) (not (ends_in_lf v)) e),
)

-- a text, a lone LF and more
text_and_lf_are_same_text : (level : ℕ) (v w : Text) (xs ys : List Mark) → is_joined v w ≡ true → SameText xs ys →
    SameText (literal level v ∷ literal level w ∷ xs) (literal level (v ++ w) ∷ ys)
text_and_lf_are_same_text level v w xs ys e h last ms =
    let p = joined_parts_are_text_and_lf v w e in
    subst (λ w. text_after last (literal level v ∷ literal level w ∷ (xs ++ ms))
    ≡ text_after last (literal level (v ++ w) ∷ (ys ++ ms))) (sym p.0)
    (two_literals_are_one level v (xs ++ ms) last p.1 ∙ same_cons (literal level (v ++ (lf ∷ []))) xs ys h last ms)

-- ---- how a joined pattern opens

joined_begins_with_same_mark : (v w : Text) → is_joined v w ≡ true → begins_with_mark (v ++ w) ≡ begins_with_mark v
joined_begins_with_same_mark [] w e = let p = joined_parts_are_text_and_lf [] w e in rw (p.0) refl
joined_begins_with_same_mark (b ∷ v) w e = refl

leading_mark_after_text_is_that_of_text : (v w : Text) (es : PatternTree Text) (x : Bool) → is_joined v w ≡ x →
    has_leading_mark
    (if x then elements (text_element (v ++ w)) (joined_pattern es) else elements (text_element v)
    (joined_after w es)) ≡ begins_with_mark v
leading_mark_after_text_is_that_of_text v w es true e = joined_begins_with_same_mark v w e
leading_mark_after_text_is_that_of_text v w es false e = refl

joining_keeps_leading_mark : (p : PatternTree Text) → has_leading_mark (joined_pattern p) ≡ has_leading_mark p
joining_keeps_leading_mark no_elements = refl
joining_keeps_leading_mark (elements (placeable e) es) = refl
joining_keeps_leading_mark (elements (text_element v) no_elements) = refl
joining_keeps_leading_mark (elements (text_element v) (elements (placeable e) es)) = refl
joining_keeps_leading_mark (elements (text_element v) (elements (text_element w) es)) =
    leading_mark_after_text_is_that_of_text v w es (is_joined v w) refl

joining_keeps_opening_mark : (level : ℕ) (p : PatternTree Text) →
    opening_mark level (joined_pattern p) ≡ opening_mark level p
joining_keeps_opening_mark level p = rw (joining_keeps_is_multiline p, joining_keeps_leading_mark p) refl

joining_keeps_inner_level : (level : ℕ) (p : PatternTree Text) →
    inner_level level (joined_pattern p) ≡ inner_level level p
joining_keeps_inner_level level p = rw (joining_keeps_is_multiline p) refl

-- ---- each node

pattern_is_same_text_by_elements : (level : ℕ) (p : PatternTree Text) →
    ((l : ℕ) → SameText (elements_marks l p) (elements_marks l (joined_pattern p))) →
    SameText (pattern_marks level p) (pattern_marks level (joined_pattern p))
pattern_is_same_text_by_elements level p h =
    subst (λ m. SameText (pattern_marks level p)
    (m ∷ elements_marks (inner_level level (joined_pattern p)) (joined_pattern p)))
    (sym (joining_keeps_opening_mark level p))
    (subst (λ l. SameText (pattern_marks level p) (opening_mark level p ∷ elements_marks l (joined_pattern p)))
    (sym (joining_keeps_inner_level level p))
    (same_cons (opening_mark level p) (elements_marks (inner_level level p) p)
    (elements_marks (inner_level level p) (joined_pattern p)) (h (inner_level level p))))

-- in braces
SameText-wrapped : (front close : Mark) (xs ys : List Mark) → SameText xs ys →
    SameText (front ∷ (xs ++ (close ∷ []))) (front ∷ (ys ++ (close ∷ [])))
SameText-wrapped front close xs ys h =
    same_cons front (xs ++ (close ∷ [])) (ys ++ (close ∷ []))
    (SameText-append xs ys (close ∷ []) (close ∷ []) h (marks_have_their_own_text (close ∷ [])))

joined_after_is_same_text : (level : ℕ) (v w : Text) (es : PatternTree Text) (x : Bool) → is_joined v w ≡ x →
    SameText (elements_marks level es) (elements_marks level (joined_pattern es)) →
    SameText (literal level w ∷ elements_marks level es) (elements_marks level (joined_after w es)) →
    SameText (literal level v ∷ literal level w ∷ elements_marks level es)
    (elements_marks level
    (if x then elements (text_element (v ++ w)) (joined_pattern es) else elements (text_element v)
    (joined_after w es)))
joined_after_is_same_text level v w es true e g h =
    text_and_lf_are_same_text level v w (elements_marks level es) (elements_marks level (joined_pattern es)) e g
joined_after_is_same_text level v w es false e g h =
    same_cons (literal level v) (literal level w ∷ elements_marks level es) (elements_marks level (joined_after w es)) h

select_is_same : (level : ℕ) (e : InlineTree Text) (vs : VariantTrees Text) →
    SameText (inline_marks level e) (inline_marks level (joined_inline e)) →
    SameText (variants_marks (level + 1) vs) (variants_marks (level + 1) (joined_variants vs)) →
    SameText (expression_marks level (select e vs)) (expression_marks level (joined_expression (select e vs)))
select_is_same level e vs g h =
    let xs = variants_marks (level + 1) vs in
    let ys = variants_marks (level + 1) (joined_variants vs) in
    SameText-append (inline_marks level e) (inline_marks level (joined_inline e))
    (literal level (codes " ->") ∷ line_end ∷ xs) (literal level (codes " ->") ∷ line_end ∷ ys) g
    (same_cons (literal level (codes " ->")) (line_end ∷ xs) (line_end ∷ ys) (same_cons line_end xs ys h))

joining_keeps_text_of_variant : (level : ℕ) (key : KeyTree Text) (value : PatternTree Text) (default : Bool) →
    SameText (pattern_marks level value) (pattern_marks level (joined_pattern value)) →
    SameText (variant_marks level (variant key value default))
    (variant_marks level (variant key (joined_pattern value) default))
joining_keeps_text_of_variant level key value default h =
    let k = literal level (key_text key) in
    let c = literal level (codes "]") in
    let xs = pattern_marks level value in
    let ys = pattern_marks level (joined_pattern value) in
    SameText-prepend (default_marks level default) (literal level (codes "[") ∷ k ∷ c ∷ xs)
    (literal level (codes "[") ∷ k ∷ c ∷ ys)
    (same_cons (literal level (codes "[")) (k ∷ c ∷ xs) (k ∷ c ∷ ys)
    (same_cons k (c ∷ xs) (c ∷ ys) (same_cons c xs ys h)))

joined_function_is_same_text : (level : ℕ) (id : Text) (a : ArgumentsTree Text) →
    SameText (arguments_marks level a) (arguments_marks level (joined_arguments a)) →
    SameText (inline_marks level (function_reference id a))
    (inline_marks level (joined_inline (function_reference id a)))
joined_function_is_same_text level id a h =
    same_cons (literal level id) (arguments_marks level a) (arguments_marks level (joined_arguments a)) h

joined_term_reference_is_same_text : (level : ℕ) (id : Text) (b : Option Text) (a : MaybeArguments Text) →
    SameText (maybe_marks level a) (maybe_marks level (joined_maybe a)) →
    SameText (inline_marks level (term_reference id b a)) (inline_marks level (joined_inline (term_reference id b a)))
joined_term_reference_is_same_text level id b a h =
    let xs = attribute_marks level b ++ maybe_marks level a in
    let ys = attribute_marks level b ++ maybe_marks level (joined_maybe a) in
    same_cons (literal level (codes "-")) (literal level id ∷ xs) (literal level id ∷ ys)
    (same_cons (literal level id) xs ys
    (SameText-prepend (attribute_marks level b) (maybe_marks level a) (maybe_marks level (joined_maybe a)) h))

mutual
  joining_keeps_text_of_expression : (level : ℕ) (e : ExpressionTree Text) →
      SameText (expression_marks level e) (expression_marks level (joined_expression e))
  joining_keeps_text_of_expression level (select e vs) =
      select_is_same level e vs (joining_keeps_text_of_inline level e) (joining_keeps_text_of_variants (level + 1) vs)
  joining_keeps_text_of_expression level (inline e) = joining_keeps_text_of_inline level e

  joining_keeps_text_of_inline : (level : ℕ) (e : InlineTree Text) →
      SameText (inline_marks level e) (inline_marks level (joined_inline e))
  joining_keeps_text_of_inline level (string_literal v) = λ last ms. refl
  joining_keeps_text_of_inline level (number_literal v) = λ last ms. refl
  joining_keeps_text_of_inline level (function_reference id a) =
      joined_function_is_same_text level id a (joining_keeps_text_of_arguments level a)
  joining_keeps_text_of_inline level (message_reference id a) = λ last ms. refl
  joining_keeps_text_of_inline level (term_reference id b a) =
      joined_term_reference_is_same_text level id b a (joining_keeps_text_of_optional_arguments level a)
  joining_keeps_text_of_inline level (variable_reference id) = λ last ms. refl
  joining_keeps_text_of_inline level (inline_placeable e) =
      SameText-wrapped (literal level (codes "{")) (literal level (codes "}")) (expression_marks level e)
      (expression_marks level (joined_expression e)) (joining_keeps_text_of_expression level e)

  joining_keeps_text_of_optional_arguments : (level : ℕ) (a : MaybeArguments Text) →
      SameText (maybe_marks level a) (maybe_marks level (joined_maybe a))
  joining_keeps_text_of_optional_arguments level no_arguments = marks_have_their_own_text []
  joining_keeps_text_of_optional_arguments level (some_arguments a) = joining_keeps_text_of_arguments level a

  joining_keeps_text_of_arguments : (level : ℕ) (a : ArgumentsTree Text) →
      SameText (arguments_marks level a) (arguments_marks level (joined_arguments a))
  joining_keeps_text_of_arguments level (arguments ps ns) =
      let xs = positional_marks level ps ++ named_marks level ns in
      let ys = positional_marks level (joined_inlines ps) ++ named_marks level (joined_nameds ns) in
      SameText-wrapped (literal level (codes "(")) (literal level (codes ")")) (joined level xs) (joined level ys)
      (lists_of_same_texts_join_to_same_text level xs ys
      (appended_lists_have_same_texts (positional_marks level ps) (positional_marks level (joined_inlines ps))
      (named_marks level ns) (named_marks level (joined_nameds ns)) (joining_keeps_texts_of_positional level ps)
      (joining_keeps_texts_of_named level ns)))

  joining_keeps_texts_of_positional : (level : ℕ) (ps : InlineTrees Text) →
      SameLists (positional_marks level ps) (positional_marks level (joined_inlines ps))
  joining_keeps_texts_of_positional level no_inlines = no_lists
  joining_keeps_texts_of_positional level (inlines e es) =
      more_lists (joining_keeps_text_of_inline level e) (joining_keeps_texts_of_positional level es)

  joining_keeps_texts_of_named : (level : ℕ) (ns : NamedTrees Text) →
      SameLists (named_marks level ns) (named_marks level (joined_nameds ns))
  joining_keeps_texts_of_named level no_named = no_lists
  joining_keeps_texts_of_named level (nameds n ns) =
      more_lists (joining_keeps_text_of_named_argument level n) (joining_keeps_texts_of_named level ns)

  joining_keeps_text_of_named_argument : (level : ℕ) (n : NamedTree Text) →
      SameText (argument_marks level n) (argument_marks level (joined_named n))
  joining_keeps_text_of_named_argument level (named_argument name e) =
      let xs = inline_marks level e in
      let ys = inline_marks level (joined_inline e) in
      same_cons (literal level name) (literal level (codes ": ") ∷ xs) (literal level (codes ": ") ∷ ys)
      (same_cons (literal level (codes ": ")) xs ys (joining_keeps_text_of_inline level e))

  joining_keeps_text_of_variants : (level : ℕ) (vs : VariantTrees Text) →
      SameText (variants_marks level vs) (variants_marks level (joined_variants vs))
  joining_keeps_text_of_variants level no_variants = marks_have_their_own_text []
  joining_keeps_text_of_variants level (variants (variant key value default) vs) =
      let xs = variants_marks level vs in
      let ys = variants_marks level (joined_variants vs) in
      SameText-append (variant_marks level (variant key value default))
      (variant_marks level (variant key (joined_pattern value) default)) (line_end ∷ xs) (line_end ∷ ys)
      (joining_keeps_text_of_variant level key value default
      (pattern_is_same_text_by_elements level value (λ l. joining_keeps_text_of_elements l value)))
      (same_cons line_end xs ys (joining_keeps_text_of_variants level vs))

  joining_keeps_text_of_elements : (level : ℕ) (p : PatternTree Text) →
      SameText (elements_marks level p) (elements_marks level (joined_pattern p))
  joining_keeps_text_of_elements level no_elements = marks_have_their_own_text []
  joining_keeps_text_of_elements level (elements (placeable e) es) =
      SameText-append (element_marks level (placeable e)) (element_marks level (placeable (joined_expression e)))
      (elements_marks level es) (elements_marks level (joined_pattern es)) (joining_keeps_text_of_placeable level e)
      (joining_keeps_text_of_elements level es)
  joining_keeps_text_of_elements level (elements (text_element v) es) = joining_keeps_text_after_text level es v

  joining_keeps_text_after_text : (level : ℕ) (es : PatternTree Text) (v : Text) →
      SameText (literal level v ∷ elements_marks level es) (elements_marks level (joined_after v es))
  joining_keeps_text_after_text level no_elements v = λ last ms. refl
  joining_keeps_text_after_text level (elements (placeable e) es) v =
      let xs = element_marks level (placeable e) ++ elements_marks level es in
      let ys = element_marks level (placeable (joined_expression e)) ++ elements_marks level (joined_pattern es) in
      same_cons (literal level v) xs ys
      (SameText-append (element_marks level (placeable e)) (element_marks level (placeable (joined_expression e)))
      (elements_marks level es) (elements_marks level (joined_pattern es)) (joining_keeps_text_of_placeable level e)
      (joining_keeps_text_of_elements level es))
  joining_keeps_text_after_text level (elements (text_element w) es) v =
      joined_after_is_same_text level v w es (is_joined v w) refl (joining_keeps_text_of_elements level es)
      (joining_keeps_text_after_text level es w)

  joining_keeps_text_of_placeable : (level : ℕ) (e : ExpressionTree Text) →
      SameText (element_marks level (placeable e)) (element_marks level (placeable (joined_expression e)))
  joining_keeps_text_of_placeable level (select e vs) =
      SameText-wrapped (literal level (codes "{ ")) (literal level (codes "}")) (expression_marks level (select e vs))
      (expression_marks level (joined_expression (select e vs)))
      (select_is_same level e vs (joining_keeps_text_of_inline level e) (joining_keeps_text_of_variants (level + 1) vs))
  joining_keeps_text_of_placeable level (inline (string_literal v)) = λ last ms. refl
  joining_keeps_text_of_placeable level (inline (number_literal v)) = λ last ms. refl
  joining_keeps_text_of_placeable level (inline (function_reference id a)) =
      SameText-wrapped (literal level (codes "{ ")) (literal level (codes " }"))
      (inline_marks level (function_reference id a)) (inline_marks level (joined_inline (function_reference id a)))
      (joined_function_is_same_text level id a (joining_keeps_text_of_arguments level a))
  joining_keeps_text_of_placeable level (inline (message_reference id a)) = λ last ms. refl
  joining_keeps_text_of_placeable level (inline (term_reference id b a)) =
      SameText-wrapped (literal level (codes "{ ")) (literal level (codes " }"))
      (inline_marks level (term_reference id b a)) (inline_marks level (joined_inline (term_reference id b a)))
      (joined_term_reference_is_same_text level id b a (joining_keeps_text_of_optional_arguments level a))
  joining_keeps_text_of_placeable level (inline (variable_reference id)) = λ last ms. refl
  joining_keeps_text_of_placeable level (inline (inline_placeable e)) =
      SameText-wrapped (literal level (codes "{{ ")) (literal level (codes " }}")) (expression_marks level e)
      (expression_marks level (joined_expression e)) (joining_keeps_text_of_expression level e)

-- ---- entries

joined_pattern_is_same_text : (level : ℕ) (p : PatternTree Text) →
    SameText (pattern_marks level p) (pattern_marks level (joined_pattern p))
joined_pattern_is_same_text level p = pattern_is_same_text_by_elements level p (λ l. joining_keeps_text_of_elements l p)

joined_value_is_same_text : (value : Option (PatternTree Text)) →
    SameText (value_marks value) (value_marks (option_map joined_pattern value))
joined_value_is_same_text None = marks_have_their_own_text []
joined_value_is_same_text (Some p) = joined_pattern_is_same_text 0 p

joined_attribute_is_same_text : (a : AttributeTree Text) →
    SameText (attribute_line_marks a) (attribute_line_marks (joined_attribute a))
joined_attribute_is_same_text a =
    let i = literal 1 a.id in
    let q = literal 1 (codes " =") in
    let xs = pattern_marks 1 a.value in
    let ys = pattern_marks 1 (joined_pattern a.value) in
    same_cons line_end (literal 1 (codes ".") ∷ i ∷ q ∷ xs) (literal 1 (codes ".") ∷ i ∷ q ∷ ys)
    (same_cons (literal 1 (codes ".")) (i ∷ q ∷ xs) (i ∷ q ∷ ys)
    (same_cons i (q ∷ xs) (q ∷ ys) (same_cons q xs ys (joined_pattern_is_same_text 1 a.value))))

joined_attributes_same_text : (more : List (AttributeTree Text)) →
    SameText (attributes_marks more) (attributes_marks (map joined_attribute more))
joined_attributes_same_text [] = marks_have_their_own_text []
joined_attributes_same_text (a ∷ rest) =
    SameText-append (attribute_line_marks a) (attribute_line_marks (joined_attribute a)) (attributes_marks rest)
    (attributes_marks (map joined_attribute rest)) (joined_attribute_is_same_text a) (joined_attributes_same_text rest)

-- the value, the attributes and the line end
joined_fields_are_same_text : (xs ys : List Mark) (more : List (AttributeTree Text)) → SameText xs ys →
    SameText (xs ++ (attributes_marks more ++ (line_end ∷ [])))
    (ys ++ (attributes_marks (map joined_attribute more) ++ (line_end ∷ [])))
joined_fields_are_same_text xs ys more h =
    SameText-append xs ys (attributes_marks more ++ (line_end ∷ []))
    (attributes_marks (map joined_attribute more) ++ (line_end ∷ [])) h
    (SameText-append (attributes_marks more) (attributes_marks (map joined_attribute more)) (line_end ∷ [])
    (line_end ∷ []) (joined_attributes_same_text more) (marks_have_their_own_text (line_end ∷ [])))

pub joining_keeps_text_of_message : (m : MessageTree Text) →
    SameText (message_marks m) (message_marks (joined_message m))
joining_keeps_text_of_message m =
    let i = literal 0 m.id in
    let q = literal 0 (codes " =") in
    let xs = value_marks m.value ++ (attributes_marks m.attributes ++ (line_end ∷ [])) in
    let ys =
    value_marks (option_map joined_pattern m.value) ++
    (attributes_marks (map joined_attribute m.attributes) ++ (line_end ∷ [])) in
    SameText-prepend (own_comment_marks m.comment) (i ∷ q ∷ xs) (i ∷ q ∷ ys)
    (same_cons i (q ∷ xs) (q ∷ ys)
    (same_cons q xs ys
    (joined_fields_are_same_text (value_marks m.value) (value_marks (option_map joined_pattern m.value)) m.attributes
    (joined_value_is_same_text m.value))))

pub joining_keeps_text_of_term : (m : TermTree Text) → SameText (term_marks m) (term_marks (joined_term m))
joining_keeps_text_of_term m =
    let d = literal 0 (codes "-") in
    let i = literal 0 m.id in
    let q = literal 0 (codes " =") in
    let xs = pattern_marks 0 m.value ++ (attributes_marks m.attributes ++ (line_end ∷ [])) in
    let ys =
    pattern_marks 0 (joined_pattern m.value) ++
    (attributes_marks (map joined_attribute m.attributes) ++ (line_end ∷ [])) in
    SameText-prepend (own_comment_marks m.comment) (d ∷ i ∷ q ∷ xs) (d ∷ i ∷ q ∷ ys)
    (same_cons d (i ∷ q ∷ xs) (i ∷ q ∷ ys)
    (same_cons i (q ∷ xs) (q ∷ ys)
    (same_cons q xs ys
    (joined_fields_are_same_text (pattern_marks 0 m.value) (pattern_marks 0 (joined_pattern m.value)) m.attributes
    (joined_pattern_is_same_text 0 m.value)))))

-- ---- bodies, without junk

module _ (edition : Edition) where
  joined_is_written : (es : BodyTree Text) (follows : Bool) → body_obeys (canonical_rules edition) (joined_body es) ≡
      true →
      IsWritten (joined_body es) (text_after (Some lf) (body_marks false follows es))
  joined_is_written [] follows h = nothing
  joined_is_written (message m ∷ es) follows h =
      let rest = body_marks false true es in
      let this = and_gives_left (message_obeys (canonical_rules edition) (joined_message m)) _ h in
      subst (IsWritten (joined_body (message m ∷ es)))
      (sym (joining_keeps_text_of_message m (Some lf) rest ∙ message_is_written edition (joined_message m) rest this))
      (a_message (joined_message m) (joined_body es) (text_after (Some lf) rest)
      (joined_is_written es true (and_gives_right (message_obeys (canonical_rules edition) (joined_message m)) _ h)))
  joined_is_written (term m ∷ es) follows h =
      let rest = body_marks false true es in
      let this = and_gives_left (term_obeys (canonical_rules edition) (joined_term m)) _ h in
      subst (IsWritten (joined_body (term m ∷ es)))
      (sym (joining_keeps_text_of_term m (Some lf) rest ∙ term_is_written edition (joined_term m) rest this))
      (a_term (joined_term m) (joined_body es) (text_after (Some lf) rest)
      (joined_is_written es true (and_gives_right (term_obeys (canonical_rules edition) (joined_term m)) _ h)))
  joined_is_written (comment level content ∷ es) follows h =
      let rest = body_marks false true es in
      subst (IsWritten (joined_body (comment level content ∷ es))) (sym
      (free_comment_is_written edition follows level content rest))
      (a_comment follows level content (joined_body es) (text_after (Some lf) rest)
      (joined_is_written es true (and_gives_right (entry_obeys (canonical_rules edition) (comment level content)) _ h)))
  joined_is_written (junk x ∷ es) follows h = joined_is_written es false h

  marks_start_where_joined_body_obeys : (es : BodyTree Text) →
      body_obeys (canonical_rules edition) (joined_body es) ≡ true → Starting (body_marks false false es)
  marks_start_where_joined_body_obeys [] h = refl
  marks_start_where_joined_body_obeys (message m ∷ es) h =
      let this = and_gives_left (message_obeys (canonical_rules edition) (joined_message m)) _ h in
      marks_of_message_are_starting m (body_marks false true es)
      (and_gives_left (is_name m.id)
      _ (and_gives_right (option_obeys (canonical_rules edition).comment m.comment)
      _ (and_gives_right (has_field (option_map joined_pattern m.value) (map joined_attribute m.attributes))
      _ this)))
  marks_start_where_joined_body_obeys (term m ∷ es) h = marks_of_term_are_starting m (body_marks false true es)
  marks_start_where_joined_body_obeys (comment level content ∷ es) h =
      marks_of_free_comment_are_starting level content (body_marks false true es)
  marks_start_where_joined_body_obeys (junk x ∷ es) h = marks_start_where_joined_body_obeys es h

joined_body_is_written : (es : BodyTree Text) → is_canonical One (joined_body es) ≡ true →
    IsWritten (joined_body es) (written false es)
unfolding written
joined_body_is_written es h = subst (IsWritten (joined_body es)) (sym (marks_start_where_joined_body_obeys One es h))
    (joined_is_written One es false h)

pub joined_reads_back : (es : BodyTree Text) → ReadsBackJoined es
joined_reads_back es h =
    canonical_body_reads_back One (joined_body es) (written false es) h (joined_body_is_written es h)
