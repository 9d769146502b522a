-- What adding to files what they are missing of a reference does to them.
use Rattle.std.specs.Prelude.{◌≡◌, ℕ, List, All, Option, Ok, Vec}
use Rattle.std.specs.Global.{Global}
use Rattle.fluent_syntax_edits.specs.Additions.{IsAddition}
use Rattle.fluent_syntax_edits.specs.SeveralEdits.{AreReplacements, NumberedChange, spliced}
use Rattle.fluent_syntax_edits.specs.declared.drafts.Replacement.{Replacement}
use Rattle.fluent_syntax_tree.specs.declared.edition.Edition.{Edition}
use Rattle.ftl_project.specs.Rewriting.{AllReachBy}

-- The new text is the old one with entries of the reference's tree inserted, and attributes of them put into its own,
-- and is read so.
pub record IsExtended (edition : Edition) (reference old new : List ℕ) : Type 0 where
  pub changes : List NumberedChange
  pub added : All (IsAddition edition reference old) changes
  pub replacements : Vec Replacement Global
  pub made : AreReplacements edition old changes (Ok replacements)
  pub text : new ≡ spliced old 0 replacements.items

-- so for some reference
abbrev pub Extends : Edition → (old new : List ℕ) → Type 0
Extends edition old new = (reference : List ℕ) × IsExtended edition reference old new

-- each file is as it was, or has become its own text extended by some reference, once or more often
abbrev pub AllGrow : Edition → (old new : List ℕ → Option (List ℕ)) → Type 0
AllGrow edition = AllReachBy (Extends edition)
