-- Tests of texts, and patterns that are one text.
use Rattle.std.specs.Prelude.{None, Bool, false, ◌&&◌, not}
use Rattle.fluent_syntax_tree.specs.Tree.{PatternTree, no_elements, elements, text_element, placeable}
use Rattle.fluent_syntax_grammar.specs.Bytes.{cr}
use Rattle.fluent_syntax_grammar.specs.Elements.{without_last_lf}
use Rattle.fluent_syntax_grammar.specs.PatternTexts.{ends_in_lf, begins_with_space, ends_plainly}
use Rattle.fluent_syntax_grammar.specs.Readable.{is_text}
use Rattle.fluent_syntax_grammar.specs.Written.{Text, is_last, last_of}

-- a CR before the LF that ends the text
abbrev pub ends_in_crlf : Text → Bool
ends_in_crlf v = ends_in_lf v && is_last cr (last_of None (without_last_lf v))

-- a text that has no space at either end, and no line end
abbrev pub is_plain_text : Text → Bool
is_plain_text v = is_text v && (not (begins_with_space v) && ends_plainly v)

-- a pattern that is one such text
abbrev pub is_plain_pattern : PatternTree Text → Bool
is_plain_pattern no_elements = false
is_plain_pattern (elements (text_element v) no_elements) = is_plain_text v
is_plain_pattern (elements (text_element v) (elements x xs)) = false
is_plain_pattern (elements (placeable e) xs) = false
