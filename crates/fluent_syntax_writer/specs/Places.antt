-- Where the elements of a pattern are, one by one.
use Rattle.std.specs.Prelude.{ℕ, List, [], Option, Some, None, Bool, true, false, ◌&&◌, ◌||◌, not, min, if◌then◌else◌}
use Rattle.fluent_syntax_tree.specs.Tree.{ElementTree, text_element, placeable, PatternTree}
use Rattle.fluent_syntax_tree.specs.declared.edition.Edition.{Edition}
use Rattle.fluent_syntax_grammar.specs.Readable as grammar
use Rattle.fluent_syntax_grammar.specs.Readable.{is_line_start, position_after}
use Rattle.fluent_syntax_grammar.specs.Canonical.{text_indents, placeable_indents}
use Rattle.fluent_syntax_grammar.specs.PatternTexts.{is_lone_lf, begins_with_space, after_spaces}
use Rattle.fluent_syntax_grammar.specs.Written.{Text, begins_with_mark}
use Rattle.fluent_syntax_writer.specs.SingleRule.{text_keeps}
use Rattle.fluent_syntax_writer.specs.declared.canonical.rules.Rule.{Rule}
use Rattle.fluent_syntax_writer.specs.declared.canonical.elements.ElementPosition.{ElementPosition}
use Rattle.fluent_syntax_writer.specs.declared.canonical.elements.ElementPosition.TheVariants as code

abbrev pub position_of : ElementPosition → grammar.ElementPosition
position_of code.Opening = grammar.opening
position_of code.AfterLine = grammar.after_line
position_of code.WithinLine = grammar.within_line
position_of code.AfterPlaceable = grammar.after_placeable

-- where the element is that follows this one
abbrev pub position_past : ElementTree Text → grammar.ElementPosition
position_past (text_element v) = position_after v
position_past (placeable e) = grammar.after_placeable

abbrev pub is_placeable : ElementTree Text → Bool
is_placeable (text_element v) = false
is_placeable (placeable e) = true

-- one rule of one element, by those that follow it
abbrev pub element_keeps :
    Edition → Rule → (multiline : Bool) → grammar.ElementPosition → ElementTree Text → (rest : PatternTree Text) → Bool
element_keeps edition rule multiline s (text_element v) rest = text_keeps edition rule multiline s v rest
element_keeps edition rule multiline s (placeable e) rest = true

-- the numbers of a line that begins with the element
abbrev pub element_indents : Edition → ElementTree Text → List ℕ
element_indents edition (text_element v) = text_indents edition v
element_indents edition (placeable e) = placeable_indents edition

-- the numbers of the line that begins at the element
abbrev pub indents_at : Edition → grammar.ElementPosition → ElementTree Text → List ℕ
indents_at edition s e = if is_line_start s then element_indents edition e else []

-- the lesser of two numbers, or the one that is there
abbrev pub least_of_two : Option ℕ → Option ℕ → Option ℕ
least_of_two None n = n
least_of_two (Some m) None = Some m
least_of_two (Some m) (Some n) = Some (min m n)

-- a text that begins with spaces and then `.`, `[` or `*`
abbrev pub element_hides_mark : ElementTree Text → Bool
element_hides_mark (text_element v) = begins_with_space v && begins_with_mark (after_spaces v)
element_hides_mark (placeable e) = false

-- a placeable, or a text that is one LF
abbrev pub is_lone : ElementTree Text → Bool
is_lone (text_element v) = is_lone_lf v
is_lone (placeable e) = true

-- the rule of one element where no line has a number
abbrev pub is_lone_lf_at_line_start : grammar.ElementPosition → ElementTree Text → Bool
is_lone_lf_at_line_start s e = not (is_line_start s) || is_lone e
