-- Each rule of canonical trees by itself: what it asks of a node, whatever else is wrong there.
use Rattle.std.specs.Prelude.{ℕ, List, [], ◌∷◌, Option, Some, None, Bool, true, false, ◌&&◌, ◌||◌, ◌==◌, not}
use Rattle.std.specs.Prelude.{is_none, nat_le, if◌then◌else◌}
use Rattle.std.specs.List.{list_all, list_any}
use Rattle.fluent_syntax_tree.specs.Tree.{ExpressionTree, select, inline, ArgumentsTree, arguments}
use Rattle.fluent_syntax_tree.specs.Tree.{NamedTrees, no_named, nameds, named_argument, text_element, placeable}
use Rattle.fluent_syntax_tree.specs.Tree.{PatternTree, no_elements, elements}
use Rattle.fluent_syntax_tree.specs.Entry.{MessageTree, EntryTree}
use Rattle.fluent_syntax_tree.specs.declared.edition.Edition.{Edition}
use Rattle.fluent_syntax_grammar.specs.Arguments.{is_used}
use Rattle.fluent_syntax_grammar.specs.Expressions.{selector_fault, is_term_attribute}
use Rattle.fluent_syntax_grammar.specs.Elements.{is_nonblank, without_last_lf}
use Rattle.fluent_syntax_grammar.specs.Layout.{least}
use Rattle.fluent_syntax_grammar.specs.Written.{Text, has_lf, is_multiline, begins_with_mark}
use Rattle.fluent_syntax_grammar.specs.Spellings.{is_name, is_number, is_string}
use Rattle.fluent_syntax_grammar.specs.PatternTexts.{is_empty, is_brace, has_crlf, is_spaces, begins_with_space}
use Rattle.fluent_syntax_grammar.specs.PatternTexts.{after_spaces}
use Rattle.fluent_syntax_grammar.specs.Readable.{is_message, are_lines, ElementPosition, opening, after_line}
use Rattle.fluent_syntax_grammar.specs.Readable.{within_line, after_placeable, position_after, indents, may_precede}
use Rattle.fluent_syntax_grammar.specs.Readable.{defaults, is_callee, is_argument_value}
use Rattle.fluent_syntax_grammar.specs.Canonical.{is_plain_line, hides_mark, line_indents, are_lone, first_position}
use Rattle.fluent_syntax_grammar.specs.Rules.{Rules, entry_obeys}
use Rattle.fluent_syntax_writer.specs.RuleSets.{number}
use Rattle.fluent_syntax_writer.specs.declared.canonical.rules.Rule.{Rule}
use Rattle.fluent_syntax_writer.specs.declared.canonical.rules.Rule.TheVariants.{Junk, EmptyMessage, LfInComment}
use Rattle.fluent_syntax_writer.specs.declared.canonical.rules.Rule.TheVariants.{EmptyPattern, EmptyText, BraceInText}
use Rattle.fluent_syntax_writer.specs.declared.canonical.rules.Rule.TheVariants.{CrBeforeLf, LfWithinText}
use Rattle.fluent_syntax_writer.specs.declared.canonical.rules.Rule.TheVariants.{TextAfterText, BlankFirstText}
use Rattle.fluent_syntax_writer.specs.declared.canonical.rules.Rule.TheVariants.{LeadingSpace, BlankEnd, LineOfSpaces}
use Rattle.fluent_syntax_writer.specs.declared.canonical.rules.Rule.TheVariants.{MarkedLine, ForbiddenSelector}
use Rattle.fluent_syntax_writer.specs.declared.canonical.rules.Rule.TheVariants.{SecondDefault, TermAttribute}
use Rattle.fluent_syntax_writer.specs.declared.canonical.rules.Rule.TheVariants.{ForbiddenCallee, ForbiddenArgument}
use Rattle.fluent_syntax_writer.specs.declared.canonical.rules.Rule.TheVariants.{RepeatedArgument, MisspelledString}
use Rattle.fluent_syntax_writer.specs.declared.canonical.rules.Rule.TheVariants.{MisspelledNumber, MisspelledName}
use Rattle.fluent_syntax_writer.specs.declared.canonical.rules.Rule.TheVariants.{EmptyComment, BlankCommentLine}
use Rattle.fluent_syntax_writer.specs.declared.canonical.rules.Rule.TheVariants.{HiddenMark, CommonIndent}
use Rattle.fluent_syntax_writer.specs.declared.canonical.rules.Rule.TheVariants.{SpacesOnBlankLine, NoDefault}

-- Each rule once, in the order in which a broken one is looked for.
abbrev pub every_rule : List Rule
every_rule =
    Junk ∷ EmptyMessage ∷ LfInComment ∷ EmptyPattern ∷ EmptyText ∷ BraceInText ∷ CrBeforeLf ∷ LfWithinText
    ∷ TextAfterText ∷ BlankFirstText ∷ LeadingSpace ∷ BlankEnd ∷ LineOfSpaces ∷ MarkedLine ∷ ForbiddenSelector
    ∷ SecondDefault ∷ TermAttribute ∷ ForbiddenCallee ∷ ForbiddenArgument ∷ RepeatedArgument ∷ MisspelledString
    ∷ MisspelledNumber ∷ MisspelledName ∷ EmptyComment ∷ BlankCommentLine ∷ HiddenMark ∷ CommonIndent
    ∷ SpacesOnBlankLine ∷ NoDefault ∷ []

-- What is asked by the rule `asker`: of this rule that the test passes, and of each other nothing.
abbrev pub asks : (asker : Rule) → Rule → (passes : Bool) → Bool
asks asker rule passes = if number asker == number rule then passes else true

-- ---- Entries

abbrev pub junk_keeps : Rule → Bool
junk_keeps rule = asks Junk rule false

-- A message has a value or an attribute.
abbrev pub message_keeps : Rule → MessageTree Text → Bool
message_keeps rule m = asks EmptyMessage rule (is_message m)

abbrev pub has_line : List Text → Bool
has_line [] = false
has_line (line ∷ lines) = true

-- No line of a comment holds an LF, there is a line, and each is empty or holds a byte other than space and CR.
abbrev pub comment_keeps : Rule → List Text → Bool
comment_keeps rule content =
    (asks LfInComment rule (are_lines content)
    && asks EmptyComment rule (has_line content)) && asks BlankCommentLine rule (list_all is_plain_line content)

-- ---- Patterns: each text

-- A text is not empty, and holds no brace, no CR directly before an LF, and an LF only as its last byte.
abbrev pub spelling_keeps : Rule → Text → Bool
spelling_keeps rule v =
    ((asks EmptyText rule (not (is_empty v)) && asks BraceInText rule (not (list_any is_brace v)))
    && asks CrBeforeLf rule (not (has_crlf v))) && asks LfWithinText rule (not (has_lf (without_last_lf v)))

-- A first text is nonblank. In a multiline pattern it may also indent a placeable.
abbrev pub may_begin : Edition → (multiline : Bool) → Text → (rest : PatternTree Text) → Bool
may_begin edition multiline v rest = is_nonblank v || multiline && indents edition v rest

-- A text that begins a later line is not spaces alone, unless they indent a placeable.
abbrev pub may_begin_line : Edition → Text → (rest : PatternTree Text) → Bool
may_begin_line edition v rest = not (is_spaces v) || indents edition v rest

-- In a pattern that is not multiline a first text begins with no space.
abbrev pub is_tight : (multiline : Bool) → Text → Bool
is_tight multiline v = multiline || not (begins_with_space v)

-- A text that begins a later line does not begin, after spaces, with `.`, `[` or `*`. A text does not directly follow a
-- text that ends in no LF.
abbrev pub place_keeps : Edition → Rule → (multiline : Bool) → ElementPosition → Text → (rest : PatternTree Text) → Bool
place_keeps edition rule multiline opening v rest =
    asks BlankFirstText rule (may_begin edition multiline v rest)
    && asks LeadingSpace rule (is_tight multiline v)
place_keeps edition rule multiline after_line v rest =
    asks LineOfSpaces rule (may_begin_line edition v rest)
    && asks MarkedLine rule (not (begins_with_mark (after_spaces v)))
place_keeps edition rule multiline within_line v rest = asks TextAfterText rule false
place_keeps edition rule multiline after_placeable v rest = true

abbrev pub text_keeps : Edition → Rule → (multiline : Bool) → ElementPosition → Text → (rest : PatternTree Text) → Bool
text_keeps edition rule multiline s v rest =
    (spelling_keeps rule v && place_keeps edition rule multiline s v rest) && asks BlankEnd rule (may_precede v rest)

-- each text from this element on
abbrev pub texts_keep : Edition → Rule → (multiline : Bool) → ElementPosition → PatternTree Text → Bool
texts_keep edition rule multiline s no_elements = true
texts_keep edition rule multiline s (elements (placeable e) es) = texts_keep edition rule multiline after_placeable es
texts_keep edition rule multiline s (elements (text_element v) es) =
    text_keeps edition rule multiline s v es && texts_keep edition rule multiline (position_after v) es

-- ---- Patterns

abbrev pub has_element : PatternTree Text → Bool
has_element no_elements = false
has_element (elements e es) = true

-- The least number of the lines is 0; where no line has a number, each text that begins a line is one LF.
abbrev pub flush_keeps : Rule → Option ℕ → ElementPosition → PatternTree Text → Bool
flush_keeps rule (Some n) s p = asks CommonIndent rule (n == 0)
flush_keeps rule None s p = asks SpacesOnBlankLine rule (are_lone s p)

-- In a multiline pattern the first text hides no mark, and its lines are flush.
abbrev pub lines_keep : Edition → Rule → (multiline : Bool) → PatternTree Text → Bool
lines_keep edition rule multiline p =
    not multiline
    || asks HiddenMark rule (not (hides_mark p))
    && flush_keeps rule (least (line_indents edition (first_position p) p)) (first_position p) p

-- A pattern has an element, and its texts and lines keep the rule.
abbrev pub pattern_keeps : Edition → Rule → PatternTree Text → Bool
pattern_keeps edition rule p =
    (asks EmptyPattern rule (has_element p) && texts_keep edition rule (is_multiline p) opening p)
    && lines_keep edition rule (is_multiline p) p

-- ---- Selects and expressions

-- A selector is one that may be, and a select has one default: one at most, and one at least. An inline expression is
-- no term reference with attribute.
abbrev pub expression_keeps : Rule → ExpressionTree Text → Bool
expression_keeps rule (select e vs) =
    (asks ForbiddenSelector rule (is_none (selector_fault e)) && asks SecondDefault rule (nat_le (defaults vs) 1))
    && asks NoDefault rule (nat_le 1 (defaults vs))
expression_keeps rule (inline e) = asks TermAttribute rule (not (is_term_attribute e))

-- ---- Arguments, and what is spelled

-- the values of named arguments may be such
abbrev pub have_values : NamedTrees Text → Bool
have_values no_named = true
have_values (nameds (named_argument name e) ns) = is_argument_value e && have_values ns

-- the names differ from one another and from those used before
abbrev pub have_new_names : List Text → NamedTrees Text → Bool
have_new_names used no_named = true
have_new_names used (nameds (named_argument name e) ns) = not (is_used name used) && have_new_names (name ∷ used) ns

abbrev pub arguments_keep : Rule → ArgumentsTree Text → Bool
arguments_keep rule (arguments ps ns) =
    asks ForbiddenArgument rule (have_values ns) && asks RepeatedArgument rule (have_new_names [] ns)

abbrev pub callee_keeps : Rule → Text → Bool
callee_keeps rule v = asks ForbiddenCallee rule (is_callee v)

abbrev pub string_keeps : Rule → Text → Bool
string_keeps rule v = asks MisspelledString rule (is_string v)

abbrev pub number_keeps : Rule → Text → Bool
number_keeps rule v = asks MisspelledNumber rule (is_number v)

abbrev pub name_keeps : Rule → Text → Bool
name_keeps rule v = asks MisspelledName rule (is_name v)

-- ---- A rule alone

-- what the rule asks of each kind of node
abbrev pub single_rule : Edition → Rule → Rules
single_rule edition rule = record {
  junk = junk_keeps rule;
  message = message_keeps rule;
  comment = comment_keeps rule;
  pattern = pattern_keeps edition rule;
  expression = expression_keeps rule;
  callee = callee_keeps rule;
  arguments = arguments_keep rule;
  string = string_keeps rule;
  number = number_keeps rule;
  name = name_keeps rule;
}

-- The entry keeps the rule: each node of it does.
abbrev pub entry_keeps : Edition → Rule → EntryTree Text → Bool
entry_keeps edition rule e = entry_obeys (single_rule edition rule) e
