-- The elements of a joined pattern as they are made one by one.
use Rattle.std.specs.Prelude.{List, [], ◌∷◌, Option, Some, None}
use Rattle.fluent_syntax_tree.specs.Tree.{ElementTree, PatternTree, elements}
use Rattle.fluent_syntax_grammar.specs.Joined.{joined_pattern, joined_after}
use Rattle.fluent_syntax_grammar.specs.Written.{Text}

-- the elements and then those of the pattern
abbrev pub before_pattern : List (ElementTree Text) → PatternTree Text → PatternTree Text
before_pattern [] p = p
before_pattern (x ∷ xs) p = elements x (before_pattern xs p)

-- the elements after the last text, where there is one, joined to it and to one another
abbrev pub joined_from : Option Text → PatternTree Text → PatternTree Text
joined_from None p = joined_pattern p
joined_from (Some v) p = joined_after v p
