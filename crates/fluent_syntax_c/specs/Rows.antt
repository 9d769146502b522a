-- Rows: what is answered where rows of texts are asked for, and what a call leaves and returns.
use Rattle.std.specs.Prelude.{◌≡◌, ◌≢◌, ◌↔◌, ◌⊎◌, ℕ, List, Result, Err, IfOk, Vec}
use Rattle.std.specs.Global.{Global}
use Rattle.std.specs.Str.{IsUtf8}
use Rattle.fluent_syntax_tree.specs.declared.edition.Edition.{Edition}
use Rattle.fluent_syntax_grammar.specs.Tiling.{Tile, Tiling}
use Rattle.ftl.specs.Answer.{outcome_of}
use Rattle.ftl.specs.declared.outcome.Outcome.{Outcome}
use Rattle.fluent_syntax_c.specs.Arguments.{IsNoEdition, edition_number}
use Rattle.fluent_syntax_c.specs.Output.{LeavesOutput}
use Rattle.fluent_syntax_c.specs.Status.{EndsAs}
use Rattle.fluent_syntax_c.specs.declared.status.Refusal.{Refusal}
use Rattle.fluent_syntax_c.specs.declared.status.Refusal.TheVariants.{Argument, Input, Depth, Tree}

-- The text is UTF-8, and the rows are those of its tiling by the edition of the number, with the outcome.
pub record AreRows {A : Type 0} (are : Edition → List ℕ → List Tile → List A → Type 0) (number : ℕ) (t : List ℕ)
    (rows : List A) (outcome : Outcome) : Type 0 where
  pub edition : Edition
  pub has_number : edition_number edition ≡ number
  pub is_utf8 : IsUtf8 t
  pub tiles : List Tile
  pub has_tiles : Tiling edition t tiles
  pub rows_are : are edition t tiles rows
  pub outcome_is : outcome ≡ outcome_of tiles

-- Rows are asked for, of texts that are read by the edition of the number; the types say that all are UTF-8, that one
-- has more bytes than may nest, and that one nests deeper than that.
module _ {A : Type 0} (number : ℕ) (expected : List A → Outcome → Type 0) (AreTexts Long Deeper : Type 0) where
  -- These are the rows, or this is why there are none.
  pub record IsCallResult (answer : Result (Vec A Global × Outcome) Refusal) : Type 0 where
    pub rows : IfOk answer (λ given. expected given.0.items given.1)
    pub argument : (answer ≡ Err Argument) ↔ IsNoEdition number
    pub input : ¬ (IsNoEdition number) → ((answer ≡ Err Input) ↔ ¬ AreTexts)
    pub deep : answer ≡ Err Depth → Long
    pub deeper : answer ≡ Err Depth → Deeper
    pub shallow : IfOk answer (λ given. Deeper → ⊥)
    pub read : answer ≡ Err Argument → Deeper → ⊥
    pub tree : answer ≢ Err Tree

  -- The call leaves the rows or none in the caller's array, and returns this status: 2 exactly where no edition has the
  -- number, otherwise 3 exactly where not all texts are UTF-8, and 6 only where one nests deeper than it may.
  pub record Gives (before after : List A) (count status : ℕ) : Type 0 where
    pub leaves : EndsAs status (LeavesOutput expected before after count)
    pub argument : (status ≡ 2) ↔ IsNoEdition number
    pub input : ¬ (IsNoEdition number) → ((status ≡ 3) ↔ ¬ AreTexts)
    pub deep : status ≡ 6 → Long
    pub deeper : status ≡ 6 → Deeper
    pub shallow : Deeper → (status ≡ 3) ⊎ (status ≡ 4) ⊎ (status ≡ 6)
