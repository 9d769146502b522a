-- What texts say of names, read by an edition.
use Rattle.std.specs.Prelude.{◌≡◌, ◌+◌, ◌<◌, ◌++◌, ◌^◌, ℕ, List, [], ◌∷◌, length}
use Rattle.std.specs.Str.{IsUtf8}
use Rattle.fluent_syntax_tree.specs.declared.edition.Edition.{Edition}
use Rattle.fluent_syntax_grammar.specs.Body.{body}
use Rattle.fluent_syntax_grammar.specs.Tiling.{Tile, Tiling}
use Rattle.fluent_syntax_names.specs.Mentions.{body_mentions}
use Rattle.fluent_syntax_names.specs.declared.name_index.NameIndex.{NameIndex}
use Rattle.ftl.specs.Answer.{outcome_of}
use Rattle.ftl.specs.declared.outcome.Outcome.{Outcome}
use Rattle.ftl.specs.declared.outcome.Outcome.TheVariants.{Clean, SyntaxErrors}
use Rattle.fluent_syntax_c.specs.Arguments.{edition_number}
use Rattle.fluent_syntax_c.specs.declared.name_indexes.FtlText.{FtlText}

-- The source is UTF-8, and the name index is it and all that the entries of its tiling by the edition say of names,
-- with
-- the outcome.
pub record IsNameIndex (edition : Edition) (t : List ℕ) (name_index : NameIndex) (outcome : Outcome) : Type 0 where
  pub is_utf8 : IsUtf8 t
  pub tiles : List Tile
  pub has_tiles : Tiling edition t tiles
  pub text_is : name_index.text.now ≡ t
  pub mentions_are : name_index.mentions.items ≡ body_mentions (body tiles) []
  pub outcome_is : outcome ≡ outcome_of tiles

-- The same by the edition of the number.
abbrev pub IsEditionNameIndex : (number : ℕ) (t : List ℕ) (name_index : NameIndex) (outcome : Outcome) → Type 0
IsEditionNameIndex number t name_index outcome =
    (edition : Edition) × (edition_number edition ≡ number) × IsNameIndex edition t name_index outcome

-- errors, where either has some
abbrev pub either_outcome : Outcome → Outcome → Outcome
either_outcome Clean other = other
either_outcome SyntaxErrors other = SyntaxErrors

-- The name indexes are those of the texts by the edition of the number, in order; the outcome is errors where a text
-- has
-- some.
pub data AreNameIndexes (number : ℕ) : List FtlText → List NameIndex → Outcome → Type 0 where
  no_name_indexes : AreNameIndexes number [] [] Clean
  more_name_indexes : {texts : List FtlText} {name_indexes : List NameIndex} {outcome : Outcome} → (text : FtlText)
      (name_index : NameIndex) (found : Outcome) → AreNameIndexes number texts name_indexes outcome →
      IsEditionNameIndex number text.text.now name_index found →
      AreNameIndexes number (texts ++ (text ∷ [])) (name_indexes ++ (name_index ∷ [])) (either_outcome outcome found)

-- The text is UTF-8.
abbrev pub IsText : FtlText → Type 0
IsText text = IsUtf8 text.text.now

-- So is the name index's, and one more than its length is a number that fits.
abbrev pub IsShort : NameIndex → Type 0
IsShort name_index = length name_index.text.now + 1 < 2 ^ 63
