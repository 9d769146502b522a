-- The bytes that entries are written as, each followed by a tail.
use Rattle.std.specs.Prelude.{List, [], ◌∷◌, ◌++◌, Option, Some, None, Bool, true, false}
use Rattle.fluent_syntax_tree.specs.Tree.{PatternTree}
use Rattle.fluent_syntax_tree.specs.Entry.{AttributeTree}
use Rattle.fluent_syntax_grammar.specs.Bytes.{lf, cr, space}
use Rattle.fluent_syntax_grammar.specs.Written.{Text, last_of, is_last, is_nonblank_line}
use Rattle.fluent_syntax_grammar.proofs.marks.WrittenBytes.{pattern_bytes}

-- ---- comments

-- a line end, with one more CR before it where the line ends in CR
abbrev pub doubled : (after_cr : Bool) → Text → Text
doubled true tail = cr ∷ lf ∷ tail
doubled false tail = lf ∷ tail

-- what follows the hashes of a line
abbrev pub after_hashes : (shown : Bool) → Text → Text → Text
after_hashes true line tail = space ∷ (line ++ doubled (is_last cr (last_of None line)) tail)
after_hashes false line tail = lf ∷ tail

abbrev pub comment_bytes : (hashes : Text) → List Text → Text → Text
comment_bytes hashes [] tail = tail
comment_bytes hashes (line ∷ lines) tail =
    hashes ++ after_hashes (is_nonblank_line line) line (comment_bytes hashes lines tail)

abbrev pub own_comment_bytes : Option (List Text) → Text → Text
own_comment_bytes None tail = tail
own_comment_bytes (Some content) tail = comment_bytes (35 ∷ []) content tail

-- ---- messages and terms

-- attributes from the start of a line on, each with its line end
abbrev pub more_attributes : List (AttributeTree Text) → Text → Text
more_attributes [] tail = tail
more_attributes (a ∷ rest) tail =
    32 ∷ 32 ∷ 32 ∷ 32 ∷ 46 ∷ (a.id ++ (32 ∷ 61 ∷ pattern_bytes 1 a.value (lf ∷ more_attributes rest tail)))

abbrev pub value_bytes : Option (PatternTree Text) → Text → Text
value_bytes None tail = tail
value_bytes (Some p) tail = pattern_bytes 0 p tail

-- a message without its comment
abbrev pub message_bytes : Text → Option (PatternTree Text) → List (AttributeTree Text) → Text → Text
message_bytes id value rest tail = id ++ (32 ∷ 61 ∷ value_bytes value (lf ∷ more_attributes rest tail))

-- a term without its comment
abbrev pub term_bytes : Text → PatternTree Text → List (AttributeTree Text) → Text → Text
term_bytes id value rest tail = 45 ∷ (id ++ (32 ∷ 61 ∷ pattern_bytes 0 value (lf ∷ more_attributes rest tail)))
