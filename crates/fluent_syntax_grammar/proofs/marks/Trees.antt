-- From marks to bytes, down the tree.
use Rattle.std.proofs.Common.{◌≡◌, ℕ, ◌+◌, List, [], ◌∷◌, ◌++◌, Option, Some, None, Bool, true, false, refl, sym, ◌∙◌}
use Rattle.std.proofs.Common.{ap, append_assoc}
use Rattle.std.specs.Prelude.{◌==◌, ◌&&◌, codes, if◌then◌else◌}
use Rattle.std.specs.List.{list_all}
use Rattle.fluent_syntax_tree.specs.Tree.{KeyTree, ExpressionTree, select, inline, InlineTree, string_literal}
use Rattle.fluent_syntax_tree.specs.Tree.{number_literal, function_reference, message_reference, term_reference}
use Rattle.fluent_syntax_tree.specs.Tree.{variable_reference, inline_placeable, ArgumentsTree, arguments}
use Rattle.fluent_syntax_tree.specs.Tree.{MaybeArguments, no_arguments, some_arguments, InlineTrees, no_inlines}
use Rattle.fluent_syntax_tree.specs.Tree.{inlines, NamedTree, NamedTrees, no_named, nameds, named_argument, ElementTree}
use Rattle.fluent_syntax_tree.specs.Tree.{text_element, placeable, PatternTree, no_elements, elements, VariantTrees}
use Rattle.fluent_syntax_tree.specs.Tree.{no_variants, variants, variant}
use Rattle.fluent_syntax_tree.specs.declared.edition.Edition.{Edition}
use Rattle.fluent_syntax_grammar.specs.PatternTexts.{ends_in_lf}
use Rattle.fluent_syntax_grammar.specs.Bytes.{lf, cr, space}
use Rattle.fluent_syntax_grammar.specs.Inline.{is_callee_byte}
use Rattle.fluent_syntax_grammar.specs.Spellings.{is_name}
use Rattle.fluent_syntax_grammar.specs.Written.{Text, Mark, literal, line_end, last_of, is_last, text_after, indent}
use Rattle.fluent_syntax_grammar.specs.Written.{star_indent, key_text, opens_line, inner_level, is_multiline}
use Rattle.fluent_syntax_grammar.specs.Written.{attribute_marks, more_joined, expression_marks, variants_marks}
use Rattle.fluent_syntax_grammar.specs.Written.{variant_marks, inline_marks, maybe_marks, arguments_marks}
use Rattle.fluent_syntax_grammar.specs.Written.{positional_marks, named_marks, argument_marks, elements_marks}
use Rattle.fluent_syntax_grammar.specs.Written.{element_marks, pattern_marks}
use Rattle.fluent_syntax_grammar.specs.Rules.{inline_obeys, optional_arguments_obey, arguments_obey, inlines_obey}
use Rattle.fluent_syntax_grammar.specs.Rules.{named_arguments_obey, named_obeys, expression_obeys, variants_obey}
use Rattle.fluent_syntax_grammar.specs.Rules.{variant_obeys, key_obeys, option_obeys, elements_obey, pattern_obeys}
use Rattle.fluent_syntax_grammar.specs.Readable.{ElementPosition, opening, position_after, after_placeable}
use Rattle.fluent_syntax_grammar.specs.Readable.{are_named_well, may_precede, is_pattern, is_text, may_occur_at}
use Rattle.fluent_syntax_grammar.specs.Readable.{are_elements}
use Rattle.fluent_syntax_grammar.specs.Canonical.{canonical_rules, is_flush}
use Rattle.fluent_syntax_grammar.proofs.Obeys.{expression_obeys_inline, parts_of_canonical_select_obey}
use Rattle.fluent_syntax_grammar.proofs.Facts.{and_gives_left, and_gives_right}
use Rattle.fluent_syntax_grammar.proofs.marks.WrittenBytes.{attribute_bytes, line_indent, opening_byte}
use Rattle.fluent_syntax_grammar.proofs.marks.WrittenBytes.{expression_bytes, variants_bytes, variant_bytes}
use Rattle.fluent_syntax_grammar.proofs.marks.WrittenBytes.{inline_bytes, maybe_bytes, arguments_bytes}
use Rattle.fluent_syntax_grammar.proofs.marks.WrittenBytes.{positional_bytes, named_bytes, argument_bytes}
use Rattle.fluent_syntax_grammar.proofs.marks.WrittenBytes.{elements_bytes, element_bytes, pattern_bytes}
use Rattle.fluent_syntax_grammar.proofs.marks.LastBytes.{Plain, none_is_plain, text_after_plain_byte_is_same}
use Rattle.fluent_syntax_grammar.proofs.marks.LastBytes.{literal_is_written}
use Rattle.fluent_syntax_grammar.proofs.marks.LastBytes.{literal_is_indented, last_of_append_is_of_second}
use Rattle.fluent_syntax_grammar.proofs.marks.LastBytes.{ends_plainly_is_plain}
use Rattle.fluent_syntax_grammar.proofs.marks.Words.{name_ends_plainly, number_ends_plain, key_ends_in_plain_byte}
use Rattle.fluent_syntax_grammar.proofs.marks.Words.{string_ends_in_no_lf, literal_is_written_off_line_start}
use Rattle.fluent_syntax_grammar.proofs.marks.Words.{literal_is_written_at_line, ending, closing_is_written}
use Rattle.fluent_syntax_grammar.proofs.marks.Words.{byte_but_lf_and_cr_is_plain}
use Rattle.fluent_syntax_grammar.proofs.forward.Trees.{canonical_key_obeys_its_form}

-- a space, an LF and a CR differ from the byte that these marks end with
pub text_after_other_byte_is_same : (b : ℕ) (ms : List Mark) → (b == lf) ≡ false → (b == cr) ≡ false →
    text_after (Some b) ms ≡ text_after None ms
text_after_other_byte_is_same b ms e f = text_after_plain_byte_is_same ms (Some b) (byte_but_lf_and_cr_is_plain b e f)

-- ---- what is said of each node

abbrev pub InlineMarks : ℕ → InlineTree Text → Type 0
InlineMarks level e =
    (ms : List Mark) → text_after None (inline_marks level e ++ ms) ≡ inline_bytes level e (text_after None ms)

abbrev pub ExpressionMarks : ℕ → ExpressionTree Text → Type 0
ExpressionMarks level e =
    (ms : List Mark) →
    text_after None (expression_marks level e ++ ms) ≡ expression_bytes level e (text_after (ending e) ms)

abbrev MaybeMarks : ℕ → MaybeArguments Text → Type 0
MaybeMarks level a =
    (ms : List Mark) → text_after None (maybe_marks level a ++ ms) ≡ maybe_bytes level a (text_after None ms)

abbrev ArgumentsMarks : ℕ → ArgumentsTree Text → Type 0
ArgumentsMarks level a =
    (ms : List Mark) → text_after None (arguments_marks level a ++ ms) ≡ arguments_bytes level a (text_after None ms)

-- arguments after the first one
abbrev MoreMarks : ℕ → InlineTrees Text → Type 0
MoreMarks level es =
    (rest : List (List Mark)) (ms : List Mark) →
    text_after None (more_joined level (positional_marks level es ++ rest) ++ ms)
    ≡ positional_bytes level false es (text_after None (more_joined level rest ++ ms))

abbrev NamedMarks : ℕ → NamedTrees Text → Type 0
NamedMarks level ns =
    (ms : List Mark) →
    text_after None (more_joined level (named_marks level ns) ++ ms) ≡ named_bytes level false ns (text_after None ms)

abbrev NamedArgumentMarks : ℕ → NamedTree Text → Type 0
NamedArgumentMarks level n =
    (ms : List Mark) → text_after None (argument_marks level n ++ ms) ≡ argument_bytes level n (text_after None ms)

abbrev VariantsMarks : ℕ → VariantTrees Text → Type 0
VariantsMarks level vs =
    (ms : List Mark) →
    text_after (Some lf) (variants_marks level vs ++ ms) ≡ variants_bytes level vs (text_after (Some lf) ms)

-- an element at the beginning of a line or not
abbrev PlaceableMarks : ℕ → ExpressionTree Text → Type 0
PlaceableMarks level x =
    (last : Option ℕ) (at_line : Bool) (ms : List Mark) → is_last lf last ≡ at_line →
    text_after last (element_marks level (placeable x) ++ ms)
    ≡ line_indent level at_line ++ element_bytes level (placeable x) (text_after None ms)

-- where no element follows, the text so far ends plainly
abbrev Closed : PatternTree Text → Option ℕ → Type 0
Closed no_elements last = Plain last
Closed (elements e es) last = Unit {0}

abbrev ElementsMarks : ℕ → PatternTree Text → Type 0
ElementsMarks level es =
    (last : Option ℕ) (at_line : Bool) (ms : List Mark) → is_last lf last ≡ at_line → Closed es last →
    text_after last (elements_marks level es ++ ms) ≡ elements_bytes level at_line es (text_after None ms)

abbrev pub PatternMarks : ℕ → PatternTree Text → Type 0
PatternMarks level p =
    (ms : List Mark) → text_after None (pattern_marks level p ++ ms) ≡ pattern_bytes level p (text_after None ms)

-- ---- inline expressions

string_literal_has_its_marks : (level : ℕ) (v : Text) → is_last lf (last_of (Some 34) v) ≡ false →
    InlineMarks level (string_literal v)
string_literal_has_its_marks level v e ms =
    ap (λ x. 34 ∷ x)
    (literal_is_written_off_line_start (Some 34) level v (literal level (34 ∷ []) ∷ ms) refl
    ∙ ap (λ x. v ++ x)
    (literal_is_written_off_line_start (last_of (Some 34) v) level (34 ∷ []) ms e ∙ ap (λ o. 34 ∷ text_after o ms) refl
    ∙ ap (λ x. 34 ∷ x) (text_after_other_byte_is_same 34 ms refl refl)))

number_literal_is_written : (level : ℕ) (v : Text) → Plain (last_of None v) → InlineMarks level (number_literal v)
number_literal_is_written level v p ms = literal_is_written level v ms p

attribute_is_written : (level : ℕ) (a : Option Text) (ms : List Mark) → option_obeys is_name a ≡ true →
    text_after None (attribute_marks level a ++ ms) ≡ attribute_bytes a (text_after None ms)
attribute_is_written level None ms h = refl
attribute_is_written level (Some a) ms h =
    ap (λ x. 46 ∷ x)
    (text_after_other_byte_is_same 46 (literal level a ∷ ms) refl refl ∙
    literal_is_written level a ms (name_ends_plainly a h))

reference_is_written : (level : ℕ) (id : Text) (a : Option Text) → is_name id ≡ true → option_obeys is_name a ≡ true →
    InlineMarks level (message_reference id a)
reference_is_written level id a h g ms =
    literal_is_written level id (attribute_marks level a ++ ms) (name_ends_plainly id h)
    ∙ ap (λ x. id ++ x) (attribute_is_written level a ms g)

function_is_written : (level : ℕ) (id : Text) (a : ArgumentsTree Text) → is_name id ≡ true → ArgumentsMarks level a →
    InlineMarks level (function_reference id a)
function_is_written level id a h k ms =
    literal_is_written level id (arguments_marks level a ++ ms) (name_ends_plainly id h) ∙ ap (λ x. id ++ x) (k ms)

term_reference_is_written : (level : ℕ) (id : Text) (a : Option Text) (c : MaybeArguments Text) → is_name id ≡ true →
    option_obeys is_name a ≡ true → MaybeMarks level c → InlineMarks level (term_reference id a c)
term_reference_is_written level id a c h g k ms =
    ap (λ x. 45 ∷ x)
    (text_after_other_byte_is_same 45 (literal level id ∷ ((attribute_marks level a ++ maybe_marks level c) ++ ms)) refl
    refl
    ∙ literal_is_written level id ((attribute_marks level a ++ maybe_marks level c) ++ ms) (name_ends_plainly id h)
    ∙ ap (λ x. id ++ x)
    (ap (text_after None) (append_assoc (attribute_marks level a) (maybe_marks level c) ms)
    ∙ attribute_is_written level a (maybe_marks level c ++ ms) g ∙ ap (attribute_bytes a) (k ms)))

variable_reference_has_its_marks : (level : ℕ) (id : Text) → is_name id ≡ true →
    InlineMarks level (variable_reference id)
variable_reference_has_its_marks level id h ms =
    ap (λ x. 36 ∷ x)
    (text_after_other_byte_is_same 36 (literal level id ∷ ms) refl refl ∙
    literal_is_written level id ms (name_ends_plainly id h))

inline_placeable_has_its_marks : (level : ℕ) (e : ExpressionTree Text) → ExpressionMarks level e →
    InlineMarks level (inline_placeable e)
inline_placeable_has_its_marks level e k ms =
    let close = literal level (125 ∷ []) in
    ap (λ x. 123 ∷ x)
    (text_after_other_byte_is_same 123 ((expression_marks level e ++ (close ∷ [])) ++ ms) refl refl
    ∙ ap (text_after None) (append_assoc (expression_marks level e) (close ∷ []) ms) ∙ k (close ∷ ms)
    ∙ ap (expression_bytes level e) (closing_is_written level e 125 [] ms (byte_but_lf_and_cr_is_plain 125 refl refl)))

-- ---- arguments

more_positional_have_their_marks : (level : ℕ) (e : InlineTree Text) (es : InlineTrees Text) → InlineMarks level e →
    MoreMarks level es → MoreMarks level (inlines e es)
more_positional_have_their_marks level e es h k rest ms =
    let more = more_joined level (positional_marks level es ++ rest) in
    ap (λ x. 44 ∷ 32 ∷ x)
    (text_after_other_byte_is_same 32 ((inline_marks level e ++ more) ++ ms) refl refl
    ∙ ap (text_after None) (append_assoc (inline_marks level e) more ms) ∙ h (more ++ ms)
    ∙ ap (inline_bytes level e) (k rest ms))

more_named_have_their_marks : (level : ℕ) (n : NamedTree Text) (ns : NamedTrees Text) → NamedArgumentMarks level n →
    NamedMarks level ns →
    NamedMarks level (nameds n ns)
more_named_have_their_marks level n ns h k ms =
    let more = more_joined level (named_marks level ns) in
    ap (λ x. 44 ∷ 32 ∷ x)
    (text_after_other_byte_is_same 32 ((argument_marks level n ++ more) ++ ms) refl refl
    ∙ ap (text_after None) (append_assoc (argument_marks level n) more ms) ∙ h (more ++ ms)
    ∙ ap (argument_bytes level n) (k ms))

one_named_is_written : (level : ℕ) (name : Text) (e : InlineTree Text) → is_name name ≡ true → InlineMarks level e →
    NamedArgumentMarks level (named_argument name e)
one_named_is_written level name e h k ms =
    literal_is_written level name (literal level (58 ∷ 32 ∷ []) ∷ (inline_marks level e ++ ms))
    (name_ends_plainly name h)
    ∙ ap (λ x. name ++ (58 ∷ 32 ∷ x)) (text_after_other_byte_is_same 32 (inline_marks level e ++ ms) refl refl ∙ k ms)

-- the list between its parentheses
list_is_written : (level : ℕ) (inside : List Mark) (bytes : Text → Text) →
    ((ms : List Mark) → text_after None (inside ++ ms) ≡ bytes (text_after None ms)) → (ms : List Mark) →
    text_after None ((literal level (40 ∷ []) ∷ (inside ++ (literal level (41 ∷ []) ∷ []))) ++ ms)
    ≡ 40 ∷ bytes (41 ∷ text_after None ms)
list_is_written level inside bytes k ms =
    let close = literal level (41 ∷ []) in
    ap (λ x. 40 ∷ x)
    (text_after_other_byte_is_same 40 ((inside ++ (close ∷ [])) ++ ms) refl refl
    ∙ ap (text_after None) (append_assoc inside (close ∷ []) ms) ∙ k (close ∷ ms)
    ∙ ap (λ x. bytes (41 ∷ x)) (text_after_other_byte_is_same 41 ms refl refl))

no_arguments_are_written : (level : ℕ) → ArgumentsMarks level (arguments no_inlines no_named)
no_arguments_are_written level ms = list_is_written level [] (λ x. x) (λ ms. refl) ms

arguments_with_named_first_have_marks : (level : ℕ) (n : NamedTree Text) (ns : NamedTrees Text) →
    NamedArgumentMarks level n → NamedMarks level ns →
    ArgumentsMarks level (arguments no_inlines (nameds n ns))
arguments_with_named_first_have_marks level n ns h k ms =
    let more = more_joined level (named_marks level ns) in
    list_is_written level (argument_marks level n ++ more) (λ x. argument_bytes level n (named_bytes level false ns x))
    (λ ms. ap (text_after None) (append_assoc (argument_marks level n) more ms) ∙ h (more ++ ms)
    ∙ ap (argument_bytes level n) (k ms)) ms

arguments_with_positional_have_marks : (level : ℕ) (e : InlineTree Text) (es : InlineTrees Text)
    (ns : NamedTrees Text) →
    InlineMarks level e → MoreMarks level es → NamedMarks level ns → ArgumentsMarks level (arguments (inlines e es) ns)
arguments_with_positional_have_marks level e es ns h k q ms =
    let more = more_joined level (positional_marks level es ++ named_marks level ns) in
    list_is_written level (inline_marks level e ++ more)
    (λ x. inline_bytes level e (positional_bytes level false es (named_bytes level false ns x)))
    (λ ms. ap (text_after None) (append_assoc (inline_marks level e) more ms) ∙ h (more ++ ms)
    ∙ ap (inline_bytes level e) (k (named_marks level ns) ms ∙ ap (positional_bytes level false es) (q ms))) ms

-- ---- selects

select_is_written : (level : ℕ) (e : InlineTree Text) (vs : VariantTrees Text) → InlineMarks level e →
    VariantsMarks (level + 1) vs → ExpressionMarks level (select e vs)
select_is_written level e vs h k ms =
    let rest = variants_marks (level + 1) vs in
    ap (text_after None) (append_assoc (inline_marks level e) (literal level (codes " ->") ∷ line_end ∷ rest) ms)
    ∙ h (literal level (codes " ->") ∷ line_end ∷ (rest ++ ms))
    ∙ ap (λ x. inline_bytes level e (32 ∷ 45 ∷ 62 ∷ lf ∷ x)) (k ms)

-- from the bracket on
bracket_is_written : (level : ℕ) (key : KeyTree Text) (value : PatternTree Text) (ms : List Mark) →
    Plain (last_of None (key_text key)) → PatternMarks level value →
    text_after None
    (literal level (codes "[") ∷ literal level (key_text key) ∷ literal level (codes "]") ∷
    (pattern_marks level value ++ ms))
    ≡ 91 ∷ (key_text key ++ (93 ∷ pattern_bytes level value (text_after None ms)))
bracket_is_written level key value ms p k =
    ap (λ x. 91 ∷ x)
    (text_after_other_byte_is_same 91
    (literal level (key_text key) ∷ literal level (codes "]") ∷ (pattern_marks level value ++ ms))
    refl refl
    ∙ literal_is_written level (key_text key) (literal level (codes "]") ∷ (pattern_marks level value ++ ms)) p
    ∙ ap (λ x. key_text key ++ (93 ∷ x))
    (text_after_other_byte_is_same 93 (pattern_marks level value ++ ms) refl refl ∙ k ms))

variant_is_written : (level : ℕ) (key : KeyTree Text) (value : PatternTree Text) (default : Bool) (ms : List Mark) →
    Plain (last_of None (key_text key)) → PatternMarks level value →
    text_after (Some lf) (variant_marks level (variant key value default) ++ ms)
    ≡ variant_bytes level (variant key value default) (text_after None ms)
variant_is_written level key value false ms p k =
    let rest = literal level (key_text key) ∷ literal level (codes "]") ∷ (pattern_marks level value ++ ms) in
    literal_is_indented level 91 [] rest (byte_but_lf_and_cr_is_plain 91 refl refl)
    ∙ ap (λ x. indent level ++ x) (bracket_is_written_as_literal rest ∙ bracket_is_written level key value ms p k)
  where
    bracket_is_written_as_literal : (rest : List Mark) →
        91 ∷ text_after None rest ≡ text_after None (literal level (91 ∷ []) ∷ rest)
    bracket_is_written_as_literal rest = ap (λ x. 91 ∷ x) (sym (text_after_other_byte_is_same 91 rest refl refl))
variant_is_written level key value true ms p k =
    let rest =
    literal level (codes "[") ∷ literal level (key_text key) ∷ literal level (codes "]") ∷
    (pattern_marks level value ++ ms) in
    ap (λ o. (star_indent level ++ (42 ∷ [])) ++ text_after o rest)
    (last_of_append_is_of_second (star_indent level) (Some lf) 42 [])
    ∙ append_assoc (star_indent level) (42 ∷ []) (text_after (Some 42) rest)
    ∙ ap (λ x. star_indent level ++ (42 ∷ x))
    (text_after_other_byte_is_same 42 rest refl refl ∙ bracket_is_written level key value ms p k)

more_variants_have_their_marks : (level : ℕ) (key : KeyTree Text) (value : PatternTree Text) (default : Bool)
    (vs : VariantTrees Text) → Plain (last_of None (key_text key)) → PatternMarks level value → VariantsMarks level vs →
    VariantsMarks level (variants (variant key value default) vs)
more_variants_have_their_marks level key value default vs p k h ms =
    let v = variant key value default in
    ap (text_after (Some lf)) (append_assoc (variant_marks level v) (line_end ∷ variants_marks level vs) ms)
    ∙ variant_is_written level key value default (line_end ∷ (variants_marks level vs ++ ms)) p k
    ∙ ap (λ x. variant_bytes level v (lf ∷ x)) (h ms)

-- ---- elements

select_in_placeable_has_its_marks : (level : ℕ) (e : InlineTree Text) (vs : VariantTrees Text) →
    ExpressionMarks level (select e vs) → PlaceableMarks level (select e vs)
select_in_placeable_has_its_marks level e vs k last at_line ms s =
    let x = expression_marks level (select e vs) in
    let close = literal level (125 ∷ []) in
    literal_is_written_at_line last at_line level 123 (32 ∷ []) ((x ++ (close ∷ [])) ++ ms) s
    ∙ ap (λ y. line_indent level at_line ++ (123 ∷ 32 ∷ y))
    (text_after_other_byte_is_same 32 ((x ++ (close ∷ [])) ++ ms) refl refl ∙
    ap (text_after None) (append_assoc x (close ∷ []) ms)
    ∙ k (close ∷ ms)
    ∙ ap (expression_bytes level (select e vs)) (closing_is_written level (select e vs) 125 [] ms
    (byte_but_lf_and_cr_is_plain 125 refl refl)))

double_placeable_is_written : (level : ℕ) (e : ExpressionTree Text) → ExpressionMarks level e →
    PlaceableMarks level (inline (inline_placeable e))
double_placeable_is_written level e k last at_line ms s =
    let x = expression_marks level e in
    let close = literal level (32 ∷ 125 ∷ 125 ∷ []) in
    literal_is_written_at_line last at_line level 123 (123 ∷ 32 ∷ []) ((x ++ (close ∷ [])) ++ ms) s
    ∙ ap (λ y. line_indent level at_line ++ (123 ∷ 123 ∷ 32 ∷ y))
    (text_after_other_byte_is_same 32 ((x ++ (close ∷ [])) ++ ms) refl refl ∙
    ap (text_after None) (append_assoc x (close ∷ []) ms)
    ∙ k (close ∷ ms)
    ∙ ap (expression_bytes level e)
    (closing_is_written level e 32 (125 ∷ 125 ∷ []) ms (byte_but_lf_and_cr_is_plain 125 refl refl)))

-- any other inline expression between its braces
inline_in_spaced_braces_is_written : (level : ℕ) (e : InlineTree Text) → InlineMarks level e →
    (last : Option ℕ) (at_line : Bool) (ms : List Mark) → is_last lf last ≡ at_line →
    text_after last
    (literal level (123 ∷ 32 ∷ []) ∷ ((inline_marks level e ++ (literal level (32 ∷ 125 ∷ []) ∷ [])) ++ ms))
    ≡ line_indent level at_line ++ (123 ∷ 32 ∷ inline_bytes level e (32 ∷ 125 ∷ text_after None ms))
inline_in_spaced_braces_is_written level e k last at_line ms s =
    let x = inline_marks level e in
    let close = literal level (32 ∷ 125 ∷ []) in
    literal_is_written_at_line last at_line level 123 (32 ∷ []) ((x ++ (close ∷ [])) ++ ms) s
    ∙ ap (λ y. line_indent level at_line ++ (123 ∷ 32 ∷ y))
    (text_after_other_byte_is_same 32 ((x ++ (close ∷ [])) ++ ms) refl refl ∙
    ap (text_after None) (append_assoc x (close ∷ []) ms)
    ∙ k (close ∷ ms)
    ∙ ap (λ y. inline_bytes level e (32 ∷ 125 ∷ y)) (text_after_other_byte_is_same 125 ms refl refl))

no_elements_are_written : (level : ℕ) → ElementsMarks level no_elements
no_elements_are_written level last at_line ms s c = text_after_plain_byte_is_same ms last c

text_element_is_written : (level b : ℕ) (bs : Text) (es : PatternTree Text) → Closed es (last_of None (b ∷ bs)) →
    ElementsMarks level es → ElementsMarks level (elements (text_element (b ∷ bs)) es)
text_element_is_written level b bs es c k last at_line ms s d =
    literal_is_written_at_line last at_line level b bs (elements_marks level es ++ ms) s
    ∙ ap (λ x. line_indent level at_line ++ ((b ∷ bs) ++ x))
    (k (last_of None (b ∷ bs)) (ends_in_lf (b ∷ bs)) ms refl c)

placeable_element_is_written : (level : ℕ) (x : ExpressionTree Text) (es : PatternTree Text) → PlaceableMarks level x →
    ElementsMarks level es → ElementsMarks level (elements (placeable x) es)
placeable_element_is_written level x es h k last at_line ms s d =
    ap (text_after last) (append_assoc (element_marks level (placeable x)) (elements_marks level es) ms)
    ∙ h last at_line (elements_marks level es ++ ms) s
    ∙ ap (λ y. line_indent level at_line ++ element_bytes level (placeable x) y)
    (k None false ms refl (elements_are_closed_at_none es))
  where
    elements_are_closed_at_none : (es : PatternTree Text) → Closed es None
    elements_are_closed_at_none no_elements = none_is_plain
    elements_are_closed_at_none (elements e es) = tt

text_that_may_precede_ends_closed : (v : Text) (es : PatternTree Text) → may_precede v es ≡ true →
    Closed es (last_of None v)
text_that_may_precede_ends_closed v no_elements e = ends_plainly_is_plain v e
text_that_may_precede_ends_closed v (elements x es) e = tt

-- ---- patterns

opening_mark_is_written : (level : ℕ) (opens : Bool) (ms : List Mark) →
    text_after None ((if opens then line_end else literal level (space ∷ [])) ∷ ms)
    ≡ opening_byte opens ∷ text_after (if opens then Some lf else None) ms
opening_mark_is_written level true ms = refl
opening_mark_is_written level false ms = ap (λ x. 32 ∷ x) (text_after_other_byte_is_same 32 ms refl refl)

opening_is_lf_exactly : (opens : Bool) → is_last lf (if opens then Some lf else None) ≡ opens
opening_is_lf_exactly true = refl
opening_is_lf_exactly false = refl

pattern_is_written : (level : ℕ) (e : ElementTree Text) (es : PatternTree Text) →
    ((l : ℕ) → ElementsMarks l (elements e es)) → PatternMarks level (elements e es)
pattern_is_written level e es k ms =
    let p = elements e es in
    opening_mark_is_written level (opens_line p) (elements_marks (inner_level level p) p ++ ms)
    ∙ ap (λ x. opening_byte (opens_line p) ∷ x)
    (k (inner_level level p) (if opens_line p then Some lf else None) (opens_line p) ms
    (opening_is_lf_exactly (opens_line p)) tt)

module _ (edition : Edition) where
  elements_after_text_are_as_they_were : (multiline : Bool) (s : ElementPosition) (b : ℕ) (bs : Text)
      (es : PatternTree Text) →
      are_elements edition multiline s (elements (text_element (b ∷ bs)) es) ≡ true → (may_precede (b ∷ bs) es ≡ true) ×
      (are_elements edition multiline (position_after (b ∷ bs)) es ≡ true)
  elements_after_text_are_as_they_were multiline s b bs es g =
      let m = and_gives_right (may_occur_at edition multiline s (b ∷ bs) es) _
      (and_gives_right (is_text (b ∷ bs)) _ g) in
      (and_gives_left (may_precede (b ∷ bs) es) _ m, and_gives_right (may_precede (b ∷ bs) es) _ m)

  mutual
    expression_is_written : (level : ℕ) (e : ExpressionTree Text) → expression_obeys (canonical_rules edition) e ≡ true
        → ExpressionMarks level e
    expression_is_written level (inline e) h = inline_is_written level e (expression_obeys_inline edition e h)
    expression_is_written level (select e vs) h =
        select_is_written level e vs
        (inline_is_written level e (and_gives_left (inline_obeys (canonical_rules edition) e) _
        (parts_of_canonical_select_obey edition e vs h)))
        (variants_are_written (level + 1) vs
        (and_gives_right (inline_obeys (canonical_rules edition) e) _ (parts_of_canonical_select_obey edition e vs h)))

    inline_is_written : (level : ℕ) (e : InlineTree Text) → inline_obeys (canonical_rules edition) e ≡ true →
        InlineMarks level e
    inline_is_written level (string_literal v) h = string_literal_has_its_marks level v (string_ends_in_no_lf v h)
    inline_is_written level (number_literal v) h = number_literal_is_written level v (number_ends_plain v h)
    inline_is_written level (function_reference id a) h =
        function_is_written level id a (and_gives_left (is_name id) _ h)
        (arguments_are_written level a
        (and_gives_right (list_all is_callee_byte id) _ (and_gives_right (is_name id) _ h)))
    inline_is_written level (message_reference id a) h =
        reference_is_written level id a (and_gives_left (is_name id) _ h) (and_gives_right (is_name id) _ h)
    inline_is_written level (term_reference id a c) h =
        term_reference_is_written level id a c (and_gives_left (is_name id) _ h)
        (and_gives_left (option_obeys is_name a) _ (and_gives_right (is_name id) _ h))
        (optional_arguments_are_written level c
        (and_gives_right (option_obeys is_name a) _ (and_gives_right (is_name id) _ h)))
    inline_is_written level (variable_reference id) h = variable_reference_has_its_marks level id h
    inline_is_written level (inline_placeable e) h =
        inline_placeable_has_its_marks level e (expression_is_written level e h)

    optional_arguments_are_written : (level : ℕ) (a : MaybeArguments Text) → optional_arguments_obey
        (canonical_rules edition) a ≡ true →
        MaybeMarks level a
    optional_arguments_are_written level no_arguments h = λ ms. refl
    optional_arguments_are_written level (some_arguments a) h = arguments_are_written level a h

    arguments_are_written : (level : ℕ) (a : ArgumentsTree Text) → arguments_obey (canonical_rules edition) a ≡ true →
        ArgumentsMarks level a
    arguments_are_written level (arguments no_inlines no_named) h = no_arguments_are_written level
    arguments_are_written level (arguments no_inlines (nameds n ns)) h =
        let rest = and_gives_right (are_named_well [] (nameds n ns)) _ h in
        arguments_with_named_first_have_marks level n ns
        (named_argument_is_written level n (and_gives_left (named_obeys (canonical_rules edition) n) _
        rest))
        (named_arguments_are_written level ns (and_gives_right (named_obeys (canonical_rules edition) n) _ rest))
    arguments_are_written level (arguments (inlines e es) ns) h =
        let rest = and_gives_right (are_named_well [] ns) _ h in
        let ps = and_gives_left (inlines_obey (canonical_rules edition) (inlines e es)) _ rest in
        arguments_with_positional_have_marks level e es ns
        (inline_is_written level e (and_gives_left (inline_obeys (canonical_rules edition) e)
        _ ps))
        (inlines_are_written level es (and_gives_right (inline_obeys (canonical_rules edition) e) _ ps))
        (named_arguments_are_written level ns (and_gives_right (inlines_obey (canonical_rules edition) (inlines e es)) _
        rest))

    inlines_are_written : (level : ℕ) (es : InlineTrees Text) → inlines_obey (canonical_rules edition) es ≡ true →
        MoreMarks level es
    inlines_are_written level no_inlines h = λ rest ms. refl
    inlines_are_written level (inlines e es) h =
        more_positional_have_their_marks level e es
        (inline_is_written level e (and_gives_left (inline_obeys (canonical_rules edition) e) _ h))
        (inlines_are_written level es (and_gives_right (inline_obeys (canonical_rules edition) e) _ h))

    named_arguments_are_written : (level : ℕ) (ns : NamedTrees Text) → named_arguments_obey (canonical_rules edition) ns
        ≡ true →
        NamedMarks level ns
    named_arguments_are_written level no_named h = λ ms. refl
    named_arguments_are_written level (nameds n ns) h =
        more_named_have_their_marks level n ns
        (named_argument_is_written level n (and_gives_left (named_obeys (canonical_rules edition) n) _
        h))
        (named_arguments_are_written level ns (and_gives_right (named_obeys (canonical_rules edition) n) _ h))

    named_argument_is_written : (level : ℕ) (n : NamedTree Text) → named_obeys (canonical_rules edition) n ≡ true →
        NamedArgumentMarks level n
    named_argument_is_written level (named_argument name e) h =
        one_named_is_written level name e (and_gives_left (is_name name) _ h) (inline_is_written level e
        (and_gives_right (is_name name) _ h))

    variants_are_written : (level : ℕ) (vs : VariantTrees Text) → variants_obey (canonical_rules edition) vs ≡ true →
        VariantsMarks level vs
    variants_are_written level no_variants h = λ ms. refl
    variants_are_written level (variants (variant key value default) vs) h =
        let this = and_gives_left (variant_obeys (canonical_rules edition) (variant key value default)) _ h in
        more_variants_have_their_marks level key value default vs
        (key_ends_in_plain_byte key
        (canonical_key_obeys_its_form edition [] key (and_gives_left (key_obeys (canonical_rules edition) key) _ this)))
        (whole_pattern_is_written level value (and_gives_right (key_obeys (canonical_rules edition) key) _ this))
        (variants_are_written level vs
        (and_gives_right (variant_obeys (canonical_rules edition) (variant key value default)) _ h))

    pub whole_pattern_is_written : (level : ℕ) (p : PatternTree Text) → pattern_obeys (canonical_rules edition) p ≡ true
        → PatternMarks level p
    whole_pattern_is_written level no_elements h = absurd cc
    whole_pattern_is_written level (elements (placeable x) es) h =
        let p = elements (placeable x) es in
        let are =
        and_gives_left (is_pattern edition p) (is_flush edition p)
        (and_gives_left (is_pattern edition p && is_flush edition p) _ h) in
        let rest = and_gives_right (is_pattern edition p && is_flush edition p) _ h in
        pattern_is_written level (placeable x) es
        (λ l. placeable_element_is_written l x es
        (placeable_is_written l x (and_gives_left (expression_obeys (canonical_rules edition) x) _ rest))
        (elements_are_written l es (is_multiline p) after_placeable are
        (and_gives_right (expression_obeys (canonical_rules edition) x) _ rest)))
    whole_pattern_is_written level (elements (text_element []) es) h = absurd cc
    whole_pattern_is_written level (elements (text_element (b ∷ bs)) es) h =
        let p = elements (text_element (b ∷ bs)) es in
        let are =
        and_gives_left (is_pattern edition p) (is_flush edition p)
        (and_gives_left (is_pattern edition p && is_flush edition p) _ h) in
        let rest = and_gives_right (is_pattern edition p && is_flush edition p) _ h in
        let more = elements_after_text_are_as_they_were (is_multiline p) opening b bs es are in
        pattern_is_written level (text_element (b ∷ bs)) es
        (λ l. text_element_is_written l b bs es (text_that_may_precede_ends_closed (b ∷ bs) es more.0)
        (elements_are_written l es (is_multiline p) (position_after (b ∷ bs)) more.1 rest))

    elements_are_written : (level : ℕ) (es : PatternTree Text) (multiline : Bool) (s : ElementPosition) →
        are_elements edition multiline s es ≡ true → elements_obey (canonical_rules edition) es ≡ true →
        ElementsMarks level es
    elements_are_written level no_elements multiline s g h = no_elements_are_written level
    elements_are_written level (elements (placeable x) es) multiline s g h =
        placeable_element_is_written level x es
        (placeable_is_written level x (and_gives_left (expression_obeys (canonical_rules edition) x) _ h))
        (elements_are_written level es multiline after_placeable g
        (and_gives_right (expression_obeys (canonical_rules edition) x) _ h))
    elements_are_written level (elements (text_element []) es) multiline s g h = absurd cc
    elements_are_written level (elements (text_element (b ∷ bs)) es) multiline s g h =
        let more = elements_after_text_are_as_they_were multiline s b bs es g in
        text_element_is_written level b bs es (text_that_may_precede_ends_closed (b ∷ bs) es more.0)
        (elements_are_written level es multiline (position_after (b ∷ bs)) more.1 h)

    placeable_is_written : (level : ℕ) (x : ExpressionTree Text) → expression_obeys (canonical_rules edition) x ≡ true →
        PlaceableMarks level x
    placeable_is_written level (select e vs) h =
        select_in_placeable_has_its_marks level e vs
        (select_is_written level e vs
        (inline_is_written level e (and_gives_left (inline_obeys (canonical_rules edition) e) _
        (parts_of_canonical_select_obey edition e vs h)))
        (variants_are_written (level + 1) vs
        (and_gives_right (inline_obeys (canonical_rules edition) e) _ (parts_of_canonical_select_obey edition e vs h))))
    placeable_is_written level (inline (string_literal v)) h =
        inline_in_spaced_braces_is_written level (string_literal v)
        (string_literal_has_its_marks level v
        (string_ends_in_no_lf v (expression_obeys_inline edition (string_literal v) h)))
    placeable_is_written level (inline (number_literal v)) h =
        inline_in_spaced_braces_is_written level (number_literal v)
        (number_literal_is_written level v (number_ends_plain v (expression_obeys_inline edition (number_literal v) h)))
    placeable_is_written level (inline (function_reference id a)) h =
        let i = expression_obeys_inline edition (function_reference id a) h in
        inline_in_spaced_braces_is_written level (function_reference id a)
        (function_is_written level id a (and_gives_left (is_name id) _ i)
        (arguments_are_written level a
        (and_gives_right (list_all is_callee_byte id) _ (and_gives_right (is_name id) _ i))))
    placeable_is_written level (inline (message_reference id a)) h =
        let i = expression_obeys_inline edition (message_reference id a) h in
        inline_in_spaced_braces_is_written level (message_reference id a)
        (reference_is_written level id a (and_gives_left (is_name id) _ i) (and_gives_right (is_name id) _ i))
    placeable_is_written level (inline (term_reference id a c)) h =
        let i = expression_obeys_inline edition (term_reference id a c) h in
        inline_in_spaced_braces_is_written level (term_reference id a c)
        (term_reference_is_written level id a c (and_gives_left (is_name id) _ i)
        (and_gives_left (option_obeys is_name a) _ (and_gives_right (is_name id) _ i))
        (optional_arguments_are_written level c
        (and_gives_right (option_obeys is_name a) _ (and_gives_right (is_name id) _ i))))
    placeable_is_written level (inline (variable_reference id)) h =
        inline_in_spaced_braces_is_written level (variable_reference id)
        (variable_reference_has_its_marks level id (expression_obeys_inline edition (variable_reference id) h))
    placeable_is_written level (inline (inline_placeable e)) h =
        double_placeable_is_written level e
        (expression_is_written level e (expression_obeys_inline edition (inline_placeable e) h))
