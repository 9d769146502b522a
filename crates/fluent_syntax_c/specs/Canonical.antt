-- Whether the tree that JSON spells is canonical.
use Rattle.std.specs.Prelude.{◌≡◌, ℕ, List, Bool, Option, Some, None, is_none, if◌then◌else◌}
use Rattle.fluent_syntax_tree.specs.Entry.{BodyTree}
use Rattle.fluent_syntax_tree.specs.declared.edition.Edition.{Edition}
use Rattle.fluent_syntax_grammar.specs.Canonical.{is_canonical}
use Rattle.fluent_syntax_grammar.specs.Written.{Text}
use Rattle.fluent_syntax_writer.specs.Uncanonical.{first_uncanonical}
use Rattle.fluent_syntax_writer.specs.declared.canonical.broken_rules.Uncanonical.{Uncanonical}
use Rattle.ftl.specs.FromJson.{IsSpelled}
use Rattle.fluent_syntax_c.specs.Arguments.{edition_number}
use Rattle.fluent_syntax_c.specs.declared.status.EditRefusal.TheVariants.{NotFound, NotOneEntry, ReadsOtherwise}
use Rattle.fluent_syntax_c.specs.declared.status.EditRefusal.TheVariants.{NoValue, NotCanonical, Overlap, PartHasErrors}
use Rattle.fluent_syntax_c.specs.declared.status.Status.{Status}
use Rattle.fluent_syntax_c.specs.declared.status.Status.TheVariants.{Clean, SyntaxErrors, TooSmall, Refused, NotEdited}

-- The JSON spells a tree, and this is whether the tree is canonical in the edition of the number.
pub record IsCanonicalJson (number : ℕ) (json : List ℕ) (is : Bool) : Type 0 where
  pub edition : Edition
  pub has_number : edition_number edition ≡ number
  pub tree : BodyTree Text
  pub is_spelled : IsSpelled json tree
  pub canonical : is ≡ is_canonical edition tree

-- The JSON spells a tree, and this is its first entry that is not canonical in the edition of the number, with the
-- first rule that it breaks; or none, where the tree is canonical.
pub record IsFirstUncanonical (number : ℕ) (json : List ℕ) (found : Option Uncanonical) : Type 0 where
  pub edition : Edition
  pub has_number : edition_number edition ≡ number
  pub tree : BodyTree Text
  pub is_spelled : IsSpelled json tree
  pub first : found ≡ first_uncanonical edition tree
  pub none : is_none found ≡ is_canonical edition tree

-- What the call for that leaves by how it ended: the number of the entry, or 0.
abbrev pub LeavesUncanonical : (number : ℕ) (json : List ℕ) (stated : ℕ) → Status → Type 0
LeavesUncanonical number json stated Clean = IsFirstUncanonical number json None × (stated ≡ 0)
LeavesUncanonical number json stated (NotEdited (NotCanonical rule)) =
    IsFirstUncanonical number json (Some (record { entry = stated; rule = rule }))
LeavesUncanonical number json stated (NotEdited NotFound) = ⊥
LeavesUncanonical number json stated (NotEdited NotOneEntry) = ⊥
LeavesUncanonical number json stated (NotEdited ReadsOtherwise) = ⊥
LeavesUncanonical number json stated (NotEdited NoValue) = ⊥
LeavesUncanonical number json stated (NotEdited PartHasErrors) = ⊥
LeavesUncanonical number json stated (NotEdited Overlap) = ⊥
LeavesUncanonical number json stated (Refused refusal) = stated ≡ 0
LeavesUncanonical number json stated SyntaxErrors = ⊥
LeavesUncanonical number json stated TooSmall = ⊥

-- What the call leaves by how it ended: 1 where the tree is canonical, and 0 where it is not or there is none.
abbrev pub LeavesCanonical : (number : ℕ) (json : List ℕ) (stated : ℕ) → Status → Type 0
LeavesCanonical number json stated Clean =
    (is : Bool) × IsCanonicalJson number json is × (stated ≡ (if is then 1 else 0))
LeavesCanonical number json stated (Refused refusal) = stated ≡ 0
LeavesCanonical number json stated SyntaxErrors = ⊥
LeavesCanonical number json stated TooSmall = ⊥
LeavesCanonical number json stated (NotEdited refusal) = ⊥
