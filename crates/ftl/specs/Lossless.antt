-- Which trees are safe to write in the place of the text that they were read from.
use Rattle.std.specs.Prelude.{Bool}
use Rattle.fluent_syntax_grammar.specs.Canonical.{is_canonical}
use Rattle.fluent_syntax_grammar.specs.Joined.{joined_body}
use Rattle.fluent_syntax_grammar.specs.Written.{Text}
use Rattle.fluent_syntax_tree.specs.Entry.{BodyTree}
use Rattle.fluent_syntax_tree.specs.declared.edition.Edition.{Edition}
use Rattle.fluent_syntax_tree.specs.declared.edition.Edition.TheVariants.{One, Two}

-- the tree that the written text of a tree is to read as: by edition one the joined tree
abbrev pub reread_tree : Edition → BodyTree Text → BodyTree Text
reread_tree One tree = joined_body tree
reread_tree Two tree = tree

-- The tree is safe to write: its text reads back.
abbrev pub is_lossless : Edition → BodyTree Text → Bool
is_lossless edition tree = is_canonical edition (reread_tree edition tree)
