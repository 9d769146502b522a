-- What the command `Format` answers for texts that it answered.
use Rattle.std.specs.Prelude.{◌≡◌, List, [], ◌∷◌, true, false}
use Rattle.std.specs.List.{flat_map}
use Rattle.fluent_syntax_tree.specs.Entry.{EntryTree, message, term, comment, junk, BodyTree}
use Rattle.fluent_syntax_tree.specs.declared.edition.Edition.TheVariants.{One}
use Rattle.fluent_syntax_grammar.specs.Bytes.{hyphen}
use Rattle.fluent_syntax_grammar.specs.Canonical.{is_canonical}
use Rattle.fluent_syntax_grammar.specs.Joined.{joined_body}
use Rattle.fluent_syntax_grammar.specs.RoundTrip.{tree_of}
use Rattle.fluent_syntax_grammar.specs.Written.{Text, written}
use Rattle.ftl.specs.Answer.{IsAnswer}
use Rattle.ftl.specs.declared.command.Command.TheVariants.{Format}
use Rattle.ftl.specs.declared.outcome.Outcome.{Outcome}
use Rattle.ftl.specs.declared.outcome.Outcome.TheVariants.{Clean}

-- the name of a message, or of a term with its hyphen
abbrev pub entry_names : EntryTree Text → List Text
entry_names (message m) = m.id ∷ []
entry_names (term m) = (hyphen ∷ m.id) ∷ []
entry_names (comment level content) = []
entry_names (junk content) = []

-- the names of the messages and terms, in order
abbrev pub names : BodyTree Text → List Text
names body = flat_map entry_names body

-- What holds of the tree of the text, of the formatted text and of that formatted again, with the outcomes of both.
pub record IsFormattedAgain (tree : BodyTree Text) (formatted again : Text) (found : BodyTree Text)
    (outcome next : Outcome) : Type 0 where
  -- the formatted text has no error
  pub is_clean : next ≡ Clean
  -- it reads as the joined tree
  pub reads_as : found ≡ joined_body tree
  -- with the same messages and terms in the same order
  pub same_names : names found ≡ names tree
  -- formatted again it is the text of the joined tree
  pub is_written : again ≡ written false (joined_body tree)
  -- which is the same text, where the first had no error
  pub is_same : outcome ≡ Clean → again ≡ formatted
  -- and formatting once more changes nothing
  pub is_settled : (third : Text) (last : Outcome) → IsAnswer Format again third last → (last ≡ Clean) × (third ≡ again)

-- If the joined tree of what the text is read as is canonical, this holds of what `Format` answers for the text, and of
-- what it answers for that.
abbrev pub FormatsAgain : Text → Type 0
FormatsAgain t =
    (formatted again : Text) (outcome next : Outcome) (first : IsAnswer Format t formatted outcome)
    (second : IsAnswer Format formatted again next) → is_canonical One (joined_body (tree_of t first.tiles)) ≡ true →
    IsFormattedAgain (tree_of t first.tiles) formatted again (tree_of formatted second.tiles) outcome next
