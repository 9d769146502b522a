-- The text that a tree is written as. A tree gives a list of marks: literals, stars and line ends. Marks have
-- levels, and only where the list is turned into text do levels become spaces.
use Rattle.std.specs.Prelude.{ℕ, ◌+◌, ◌-◌, ◌*◌, List, [], ◌∷◌, ◌++◌, replicate, Option, Some, None, Bool, true, false}
use Rattle.std.specs.Prelude.{◌&&◌, ◌||◌, ◌==◌, not, if◌then◌else◌, codes}
use Rattle.std.specs.List.{list_any}
use Rattle.fluent_syntax_grammar.specs.Bytes.{lf, cr, space, asterisk, full_stop, left_bracket}
use Rattle.fluent_syntax_tree.specs.Tree.{KeyTree, name_key, number_key, ExpressionTree, select, inline, InlineTree}
use Rattle.fluent_syntax_tree.specs.Tree.{string_literal, number_literal, function_reference, message_reference}
use Rattle.fluent_syntax_tree.specs.Tree.{term_reference, variable_reference, inline_placeable, ArgumentsTree}
use Rattle.fluent_syntax_tree.specs.Tree.{arguments, MaybeArguments, no_arguments, some_arguments, InlineTrees}
use Rattle.fluent_syntax_tree.specs.Tree.{no_inlines, inlines, NamedTree, NamedTrees, no_named, nameds, named_argument}
use Rattle.fluent_syntax_tree.specs.Tree.{ElementTree, text_element, placeable, PatternTree, no_elements, elements}
use Rattle.fluent_syntax_tree.specs.Tree.{VariantTree, VariantTrees, no_variants, variants, variant}
use Rattle.fluent_syntax_tree.specs.Entry.{EntryTree, message, term, comment, junk, Level, regular, group, resource}
use Rattle.fluent_syntax_tree.specs.Entry.{AttributeTree, MessageTree, TermTree, BodyTree}

-- a text is its bytes
abbrev pub Text : Type 0
Text = List ℕ

-- a literal or a star at a level, or a line end
pub data Mark : Type 0 where
  literal : (level : ℕ) → Text → Mark
  star : (level : ℕ) → Mark
  line_end : Mark

-- ---- From marks to text. What a mark gives depends on the last byte of the text so far.

-- the last byte after more text
abbrev pub last_of : Option ℕ → Text → Option ℕ
last_of last [] = last
last_of last (b ∷ bs) = last_of (Some b) bs

-- whether that is the byte
abbrev pub is_last : ℕ → Option ℕ → Bool
is_last b None = false
is_last b (Some c) = c == b

-- a level is 4 spaces
abbrev pub indent : ℕ → Text
indent level = replicate (4 * level) space

-- the indent without its last space, which a star takes
abbrev pub star_indent : ℕ → Text
star_indent level = replicate (4 * level - 1) space

-- A literal that follows an LF, the empty one too, is preceded by the indent of its level. A star takes the place of
-- the last space of that indent. A line end is LF, preceded by one more CR where the text so far ends in CR.
abbrev pub mark_text : Option ℕ → Mark → Text
mark_text last (literal level bs) = (if is_last lf last then indent level else []) ++ bs
mark_text last (star level) = (if is_last lf last then star_indent level else []) ++ codes "*"
mark_text last line_end = (if is_last cr last then cr ∷ [] else []) ++ lf ∷ []

-- the text of the marks, after a text with that last byte
abbrev pub text_after : Option ℕ → List Mark → Text
text_after last [] = []
text_after last (m ∷ ms) = mark_text last m ++ text_after (last_of last (mark_text last m)) ms

-- ---- Which patterns span lines

abbrev pub has_lf : Text → Bool
has_lf bs = list_any (λ b. b == lf) bs

-- a select, or placeables nested around a select
abbrev mutual
  pub is_select : ExpressionTree Text → Bool
  is_select (select e vs) = true
  is_select (inline e) = holds_select e

  pub holds_select : InlineTree Text → Bool
  holds_select (inline_placeable e) = is_select e
  holds_select _ = false

-- an element that makes its pattern multiline: a text with an LF, or a placeable of a select
abbrev pub spans_lines : ElementTree Text → Bool
spans_lines (text_element v) = has_lf v
spans_lines (placeable e) = is_select e

abbrev pub is_multiline : PatternTree Text → Bool
is_multiline no_elements = false
is_multiline (elements e es) = spans_lines e || is_multiline es

-- Bytes that begin an attribute, a variant or a default variant where they begin a line: `.`, `[` and `*`.
abbrev pub is_leading_mark : ℕ → Bool
is_leading_mark b = b == full_stop || b == left_bracket || b == asterisk

abbrev pub begins_with_mark : Text → Bool
begins_with_mark [] = false
begins_with_mark (b ∷ bs) = is_leading_mark b

abbrev pub element_begins_with_mark : ElementTree Text → Bool
element_begins_with_mark (text_element v) = begins_with_mark v
element_begins_with_mark (placeable e) = false

-- whether the first element is a text that begins with such a byte
abbrev pub has_leading_mark : PatternTree Text → Bool
has_leading_mark no_elements = false
has_leading_mark (elements e es) = element_begins_with_mark e

-- A multiline pattern opens a line, unless its first text would be read as something else there.
abbrev pub opens_line : PatternTree Text → Bool
opens_line p = is_multiline p && not (has_leading_mark p)

-- A pattern that opens a line begins with a line end, another with a space.
abbrev pub opening_mark : ℕ → PatternTree Text → Mark
opening_mark level p = if opens_line p then line_end else literal level (space ∷ [])

-- A multiline pattern has its elements one level deeper.
abbrev pub inner_level : ℕ → PatternTree Text → ℕ
inner_level level p = if is_multiline p then level + 1 else level

-- ---- Patterns and expressions at a level

-- `.` and the attribute's name, if any
abbrev pub attribute_marks : ℕ → Option Text → List Mark
attribute_marks level None = []
attribute_marks level (Some a) = literal level (codes ".") ∷ literal level a ∷ []

abbrev pub key_text : KeyTree Text → Text
key_text (name_key v) = v
key_text (number_key v) = v

-- the star of a default variant
abbrev pub default_marks : ℕ → Bool → List Mark
default_marks level default = if default then star level ∷ [] else []

-- each argument after a comma and a space
abbrev pub more_joined : ℕ → List (List Mark) → List Mark
more_joined level [] = []
more_joined level (a ∷ rest) = literal level (codes ", ") ∷ (a ++ more_joined level rest)

-- the arguments, with a comma and a space between each two
abbrev pub joined : ℕ → List (List Mark) → List Mark
joined level [] = []
joined level (a ∷ rest) = a ++ more_joined level rest

abbrev mutual
  -- an inline expression is written as it is; a select is its selector, ` ->` and a line end, and one level deeper its
  -- variants
  pub expression_marks : ℕ → ExpressionTree Text → List Mark
  expression_marks level (select e vs) =
      inline_marks level e ++ (literal level (codes " ->") ∷ line_end ∷ variants_marks (level + 1) vs)
  expression_marks level (inline e) = inline_marks level e

  -- each variant and a line end
  pub variants_marks : ℕ → VariantTrees Text → List Mark
  variants_marks level no_variants = []
  variants_marks level (variants v vs) = variant_marks level v ++ (line_end ∷ variants_marks level vs)

  -- the key in brackets, after the star of a default; then the pattern, as `pattern_marks` below
  pub variant_marks : ℕ → VariantTree Text → List Mark
  variant_marks level (variant key value default) =
      default_marks level default ++
      (literal level (codes "[") ∷ literal level (key_text key) ∷ literal level (codes "]") ∷
      opening_mark level value ∷ elements_marks (inner_level level value) value)

  -- A string is in quotes, as it is spelled. A variable has a `$` and a term a `-` before its name. A placeable
  -- is in braces.
  pub inline_marks : ℕ → InlineTree Text → List Mark
  inline_marks level (string_literal v) = literal level (codes "\"") ∷ literal level v ∷ literal level (codes "\"") ∷ []
  inline_marks level (number_literal v) = literal level v ∷ []
  inline_marks level (function_reference id a) = literal level id ∷ arguments_marks level a
  inline_marks level (message_reference id attribute) = literal level id ∷ attribute_marks level attribute
  inline_marks level (term_reference id attribute a) =
      literal level (codes "-") ∷ literal level id ∷ (attribute_marks level attribute ++ maybe_marks level a)
  inline_marks level (variable_reference id) = literal level (codes "$") ∷ literal level id ∷ []
  inline_marks level (inline_placeable e) =
      literal level (codes "{") ∷ (expression_marks level e ++ (literal level (codes "}") ∷ []))

  -- a term's arguments, if any
  pub maybe_marks : ℕ → MaybeArguments Text → List Mark
  maybe_marks level no_arguments = []
  maybe_marks level (some_arguments a) = arguments_marks level a

  -- in parentheses the positional arguments, then the named ones
  pub arguments_marks : ℕ → ArgumentsTree Text → List Mark
  arguments_marks level (arguments ps ns) =
      literal level (codes "(") ∷
      (joined level (positional_marks level ps ++ named_marks level ns) ++ (literal level (codes ")") ∷ []))

  -- the marks of each
  pub positional_marks : ℕ → InlineTrees Text → List (List Mark)
  positional_marks level no_inlines = []
  positional_marks level (inlines e es) = inline_marks level e ∷ positional_marks level es

  pub named_marks : ℕ → NamedTrees Text → List (List Mark)
  named_marks level no_named = []
  named_marks level (nameds n ns) = argument_marks level n ∷ named_marks level ns

  pub argument_marks : ℕ → NamedTree Text → List Mark
  argument_marks level (named_argument name e) = literal level name ∷ literal level (codes ": ") ∷ inline_marks level e

  pub elements_marks : ℕ → PatternTree Text → List Mark
  elements_marks level no_elements = []
  elements_marks level (elements e es) = element_marks level e ++ elements_marks level es

  -- A text is one literal. A placeable is in braces with a space inside each, but none after a select, which has
  -- ended its line, and a placeable of a placeable in double braces.
  pub element_marks : ℕ → ElementTree Text → List Mark
  element_marks level (text_element v) = literal level v ∷ []
  element_marks level (placeable (select e vs)) =
      literal level (codes "{ ") ∷ (expression_marks level (select e vs) ++ (literal level (codes "}") ∷ []))
  element_marks level (placeable (inline (inline_placeable e))) =
      literal level (codes "{{ ") ∷ (expression_marks level e ++ (literal level (codes " }}") ∷ []))
  element_marks level (placeable (inline e)) =
      literal level (codes "{ ") ∷ (inline_marks level e ++ (literal level (codes " }") ∷ []))

-- a line end or a space, and the elements
abbrev pub pattern_marks : ℕ → PatternTree Text → List Mark
pattern_marks level p = opening_mark level p ∷ elements_marks (inner_level level p) p

-- ---- Entries, at level 0

-- whether the line holds a byte other than space, CR and LF
abbrev pub is_nonblank_line : Text → Bool
is_nonblank_line bs = list_any (λ b. not (b == space || b == cr || b == lf)) bs

-- a space and the line, unless it shows nothing
abbrev pub shown_marks : Text → List Mark
shown_marks line = if is_nonblank_line line then literal 0 (codes " ") ∷ literal 0 line ∷ [] else []

-- the hashes, what the line shows, and a line end
abbrev pub comment_line_marks : Text → Text → List Mark
comment_line_marks hashes line = literal 0 hashes ∷ (shown_marks line ++ (line_end ∷ []))

abbrev pub comment_marks : Text → List Text → List Mark
comment_marks hashes [] = []
comment_marks hashes (line ∷ lines) = comment_line_marks hashes line ++ comment_marks hashes lines

abbrev pub hashes_of : Level → Text
hashes_of regular = codes "#"
hashes_of group = codes "##"
hashes_of resource = codes "###"

-- the comment of a message or a term, if any
abbrev pub own_comment_marks : Option (List Text) → List Mark
own_comment_marks None = []
own_comment_marks (Some content) = comment_marks (hashes_of regular) content

-- one level deeper: a line end, `.`, the name, ` =` and the pattern
abbrev pub attribute_line_marks : AttributeTree Text → List Mark
attribute_line_marks a =
    line_end ∷ literal 1 (codes ".") ∷ literal 1 a.id ∷ literal 1 (codes " =") ∷ pattern_marks 1 a.value

abbrev pub attributes_marks : List (AttributeTree Text) → List Mark
attributes_marks [] = []
attributes_marks (a ∷ rest) = attribute_line_marks a ++ attributes_marks rest

-- the value of a message, if any
abbrev pub value_marks : Option (PatternTree Text) → List Mark
value_marks None = []
value_marks (Some p) = pattern_marks 0 p

abbrev pub message_marks : MessageTree Text → List Mark
message_marks m =
    own_comment_marks m.comment ++
    (literal 0 m.id ∷ literal 0 (codes " =") ∷
    (value_marks m.value ++ (attributes_marks m.attributes ++ (line_end ∷ []))))

abbrev pub term_marks : TermTree Text → List Mark
term_marks m =
    own_comment_marks m.comment ++
    (literal 0 (codes "-") ∷ literal 0 m.id ∷ literal 0 (codes " =") ∷
    (pattern_marks 0 m.value ++ (attributes_marks m.attributes ++ (line_end ∷ []))))

-- the line end before a free comment that follows an entry which is not junk
abbrev pub gap_marks : (follows : Bool) → List Mark
gap_marks follows = if follows then line_end ∷ [] else []

-- that line end, the lines, and a line end
abbrev pub free_comment_marks : (follows : Bool) → Text → List Text → List Mark
free_comment_marks follows hashes content = gap_marks follows ++ (comment_marks hashes content ++ (line_end ∷ []))

-- Junk is written as it is, or not at all.
abbrev pub junk_marks : (with_junk : Bool) → Text → List Mark
junk_marks with_junk content = if with_junk then literal 0 content ∷ [] else []

-- `follows` says whether there is an entry before it and that is not junk.
abbrev pub entry_marks : (with_junk follows : Bool) → EntryTree Text → List Mark
entry_marks with_junk follows (message m) = message_marks m
entry_marks with_junk follows (term m) = term_marks m
entry_marks with_junk follows (comment level content) = free_comment_marks follows (hashes_of level) content
entry_marks with_junk follows (junk content) = junk_marks with_junk content

abbrev pub is_junk : EntryTree Text → Bool
is_junk (junk content) = true
is_junk _ = false

-- the entries one after the other
abbrev pub body_marks : (with_junk follows : Bool) → BodyTree Text → List Mark
body_marks with_junk follows [] = []
body_marks with_junk follows (e ∷ es) = entry_marks with_junk follows e ++ body_marks with_junk (not (is_junk e)) es

-- the text that a tree is written as, with its junk or without
unfoldable pub written : (with_junk : Bool) → BodyTree Text → Text
written with_junk body = text_after None (body_marks with_junk false body)
