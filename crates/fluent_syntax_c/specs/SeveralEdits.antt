-- Several edits of a text: what is asked for, what is made of it, and why none is made.
use Rattle.std.specs.Prelude.{◌≡◌, ◌↔◌, ◌⊎◌, ◌==◌, ℕ, List, [], ◌∷◌, Option, Some, None, Ok, Err, String, string_bytes}
use Rattle.std.specs.Prelude.{if◌then◌else◌}
use Rattle.std.specs.Global.{Global}
use Rattle.std.specs.List.{All, Any}
use Rattle.std.specs.Str.{IsUtf8}
use Rattle.fluent_syntax_tree.specs.Entry.{AttributeTree}
use Rattle.fluent_syntax_tree.specs.declared.edition.Edition.{Edition}
use Rattle.fluent_syntax_grammar.specs.RoundTrip.{tree_of}
use Rattle.fluent_syntax_grammar.specs.Tiling.{Tile, Tiling}
use Rattle.fluent_syntax_grammar.specs.Written.{Text}
use Rattle.fluent_syntax_edits.specs.Changes.{Change}
use Rattle.fluent_syntax_edits.specs.SeveralEdits.{IsTextOfReplacements, NumberedChange}
use Rattle.fluent_syntax_edits.specs.declared.fault.EditFault.{EditFault}
use Rattle.ftl.specs.Answer.{outcome_of}
use Rattle.ftl.specs.declared.outcome.Outcome.{Outcome}
use Rattle.ftl.specs.declared.outcome.Outcome.TheVariants.{SyntaxErrors}
use Rattle.fluent_syntax_c.specs.Arguments.{IsNoEdition, edition_number}
use Rattle.fluent_syntax_c.specs.Depth.{EditionReadsDeeper}
use Rattle.fluent_syntax_c.specs.Edits.{Asks, Spells, edit_refusal, part_source, place_of}
use Rattle.fluent_syntax_c.specs.Output.{LeavesOutput}
use Rattle.fluent_syntax_c.specs.Status.{EndsAs, edit_refusal_number}
use Rattle.fluent_syntax_c.specs.declared.edited.Action.{Action}
use Rattle.fluent_syntax_c.specs.declared.edited.Action.TheVariants.{SetValue, SetAttribute, Replace, Insert, Remove}
use Rattle.fluent_syntax_c.specs.declared.several_edits.FtlEdit.{FtlEdit}
use Rattle.fluent_syntax_c.specs.declared.status.EditRefusal.{EditRefusal}
use Rattle.fluent_syntax_c.specs.declared.status.EditRefusal.TheVariants.{NotFound, NotOneEntry, PartHasErrors}

-- ---- one of them

-- what the kind of an edit says is done
abbrev pub action_of : FtlEdit → Option Action
action_of e =
    if e.kind == 1 then Some SetValue
    else (if e.kind == 2 then Some (SetAttribute e.attribute)
    else (if e.kind == 3 then Some Replace
    else (if e.kind == 4 then Some Insert
    else (if e.kind == 5 then Some Remove else None))))

-- This holds of what is done.
abbrev pub OfAction : FtlEdit → (Action → Type 0) → Type 0
OfAction e P = (action : Action) × (action_of e ≡ Some action) × P action

-- Its kind is known.
abbrev pub HasAction : FtlEdit → Type 0
HasAction e = OfAction e (λ action. Unit {0})

-- Its name and its part are UTF-8.
abbrev pub HasTexts : FtlEdit → Type 0
HasTexts e = IsUtf8 e.name.now × IsUtf8 e.part.now

module _ (number : ℕ) (t : List ℕ) where
  -- An edit asks for no change, and this is why: nothing has the name, or the part spells none, or has errors.
  pub data AsksForNone (name : List ℕ) (action : Action) (part : List ℕ) : EditRefusal → Type 0 where
    not_found : (edition : Edition) (tiles : List Tile) → edition_number edition ≡ number → Tiling edition t tiles →
        place_of action name (tree_of t tiles) ≡ None → AsksForNone name action part NotFound
    not_one_entry : (edition : Edition) → edition_number edition ≡ number →
        ((own : List (AttributeTree Text)) (change : Change) → Spells edition action own part change → ⊥) →
        AsksForNone name action part NotOneEntry
    part_has_errors : (edition : Edition) (tiles : List Tile) → edition_number edition ≡ number →
        Tiling edition (part_source action part) tiles → outcome_of tiles ≡ SyntaxErrors →
        AsksForNone name action part PartHasErrors

  abbrev pub EditAsksForNone : FtlEdit → EditRefusal → Type 0
  EditAsksForNone e why = OfAction e (λ action. AsksForNone e.name.now action e.part.now why)

  -- Its part nests deeper than that.
  abbrev pub PartReadsDeeper : (nesting : ℕ) → FtlEdit → Type 0
  PartReadsDeeper nesting e =
      OfAction e (λ action. EditionReadsDeeper number (part_source action e.part.now) nesting)

  -- It asks for that change.
  abbrev pub AsksFor : Edition → List Tile → FtlEdit → NumberedChange → Type 0
  AsksFor edition tiles e c =
      OfAction e (λ action. Asks number t e.name.now action e.part.now edition tiles c.number c.change)

  -- ---- all of them

  -- They ask for these changes, each for one.
  pub data AskFor (edition : Edition) (tiles : List Tile) : List FtlEdit → List NumberedChange → Type 0 where
    none : AskFor edition tiles [] []
    more : {e : FtlEdit} {c : NumberedChange} {es : List FtlEdit} {cs : List NumberedChange} →
        AsksFor edition tiles e c → AskFor edition tiles es cs → AskFor edition tiles (e ∷ es) (c ∷ cs)

  module _ (es : List FtlEdit) where
    -- The text is what the edits make of the source, with the source's outcome, which is its own too.
    pub record AreEdited (text : List ℕ) (outcome : Outcome) : Type 0 where
      pub edition : Edition
      pub has_number : edition_number edition ≡ number
      pub tiles : List Tile
      pub has_tiles : Tiling edition t tiles
      pub cs : List NumberedChange
      pub ask : AskFor edition tiles es cs
      pub made : String Global
      pub answers : IsTextOfReplacements edition t cs (Ok made)
      pub text_is : text ≡ string_bytes made
      pub outcome_is : outcome ≡ outcome_of tiles

    -- They are not made, and this is why: one asks for no change, or the changes are refused.
    pub data AreNotEdited : EditRefusal → Type 0 where
      one_asks_for_none : {why : EditRefusal} → Any (λ e. EditAsksForNone e why) es → AreNotEdited why
      refused : {why : EditRefusal} (edition : Edition) (tiles : List Tile) (cs : List NumberedChange)
          (fault : EditFault) → edition_number edition ≡ number → Tiling edition t tiles → AskFor edition tiles es cs →
          IsTextOfReplacements edition t cs (Err fault) → edit_refusal fault ≡ Some why → AreNotEdited why

    -- The call leaves the new text or none in the caller's array, and returns this status: 2 exactly where no edition
    -- or no kind has a number, otherwise 3 exactly where not all texts are UTF-8, and 6 only where one nests deeper.
    pub record GivesEdits (nesting : ℕ) (before after : List ℕ) (count status : ℕ) : Type 0 where
      pub leaves : EndsAs status (LeavesOutput AreEdited before after count)
      pub argument : (status ≡ 2) ↔ (IsNoEdition number ⊎ ¬ (All HasAction es))
      pub input : ¬ (IsNoEdition number) → All HasAction es → ((status ≡ 3) ↔ ¬ (IsUtf8 t × All HasTexts es))
      pub deeper : status ≡ 6 → EditionReadsDeeper number t nesting ⊎ Any (PartReadsDeeper nesting) es
      pub not_edited : (why : EditRefusal) → status ≡ edit_refusal_number why → AreNotEdited why
