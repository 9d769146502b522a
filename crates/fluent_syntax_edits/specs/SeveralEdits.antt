-- What several edits of a text answer.
use Rattle.std.specs.Prelude.{◌≡◌, ℕ, ◌+◌, ◌-◌, ◌<◌, ◌≤◌, List, [], ◌∷◌, ◌++◌, drop, length, take, nat_le, false}
use Rattle.std.specs.Prelude.{Result, Ok, Err, String, Vec, string_bytes, if◌then◌else◌}
use Rattle.std.specs.Global.{Global}
use Rattle.fluent_syntax_tree.specs.Entry.{BodyTree}
use Rattle.fluent_syntax_tree.specs.declared.edition.Edition.{Edition}
use Rattle.fluent_syntax_tree.specs.declared.spans.Span.{Span}
use Rattle.fluent_syntax_grammar.specs.Tiling.{Fault}
use Rattle.fluent_syntax_grammar.specs.Written.{Text}
use Rattle.fluent_syntax_edits.specs.Changes.{Change, change_of, tree_after, after_line_ends, attempts, refusal}
use Rattle.fluent_syntax_edits.specs.Edits.{ReadsAfter}
use Rattle.fluent_syntax_edits.specs.Errors.{moved_span}
use Rattle.fluent_syntax_edits.specs.EntryPlaces.{RangeOf}
use Rattle.fluent_syntax_edits.specs.declared.drafts.Draft.{Draft}
use Rattle.fluent_syntax_edits.specs.declared.drafts.Replacement.{Replacement}
use Rattle.fluent_syntax_edits.specs.declared.fault.EditFault.{EditFault}
use Rattle.fluent_syntax_edits.specs.declared.fault.EditFault.TheVariants.{IsJunk, Memory, NoEntry, NotCanonical}
use Rattle.fluent_syntax_edits.specs.declared.fault.EditFault.TheVariants.{NoValue, Overlap, ReadsOtherwise}
use Rattle.fluent_syntax_edits.specs.declared.numbered_edits.NumberedEdit.{NumberedEdit}

-- a change, and the number of the entry that it is made at
pub record NumberedChange : Type 0 where
  pub number : ℕ
  pub change : Change

-- what an edit asks for
abbrev pub numbered_change : NumberedEdit → NumberedChange
numbered_change e = record { number = e.index; change = change_of e.edit }

-- ---- the tree

-- The tree with each change made. The numbers are those of the tree before, so the last one is made first.
abbrev pub tree_after_all : List NumberedChange → BodyTree Text → BodyTree Text
tree_after_all [] body = body
tree_after_all (c ∷ cs) body = tree_after c.change c.number (tree_after_all cs body)

-- ---- the text

-- the text from the place on, with what comes in the place of each stretch
abbrev pub spliced : List ℕ → (from : ℕ) → List Replacement → List ℕ
spliced t from [] = drop from t
spliced t from (r ∷ rs) =
    take (r.span.start - from) (drop from t) ++ (string_bytes r.text ++ spliced t r.span.end rs)

-- ---- the errors

-- an error of what comes after the place, if `to` is where that begins now
abbrev pub shifted_fault : (from to : ℕ) → Fault → Fault
shifted_fault from to f = record {
  kind = f.kind;
  pos = moved_span false from to f.pos;
  slice = moved_span false from to f.slice;
}

-- An error moves by what comes in the place of the stretches before it: those that start before the end of its junk.
-- What comes after the place, where the last one of them ended, begins at `to` now.
abbrev pub moved_by : (from to : ℕ) → List Replacement → Fault → Fault
moved_by from to [] f = shifted_fault from to f
moved_by from to (r ∷ rs) f =
    if nat_le f.slice.end r.span.start then shifted_fault from to f
    else moved_by r.span.end (to + (r.span.start - from) + length (string_bytes r.text)) rs f

-- ---- why the new text would be read otherwise

abbrev pub unless_otherwise : EditFault → EditFault → EditFault
unless_otherwise ReadsOtherwise other = other
unless_otherwise (NotCanonical rule) other = NotCanonical rule
unless_otherwise NoEntry other = NoEntry
unless_otherwise (IsJunk s) other = IsJunk s
unless_otherwise NoValue other = NoValue
unless_otherwise Overlap other = Overlap
unless_otherwise Memory other = Memory

-- that of the first change whose own part breaks a rule of canonical trees
abbrev pub first_refusal : Edition → List NumberedChange → EditFault
first_refusal edition [] = ReadsOtherwise
first_refusal edition (c ∷ cs) = unless_otherwise (refusal edition c.change) (first_refusal edition cs)

module _ (edition : Edition) (t : List ℕ) where
  -- ---- what comes in the place of what

  -- what comes in the place of the stretch of a change, after some line ends
  pub record IsReplacement (c : NumberedChange) (r : Replacement) : Type 0 where
    pub line_ends : ℕ
    pub few : line_ends < attempts c.change
    pub range : RangeOf edition t c.number c.change (Ok r.span)
    pub text : string_bytes r.text ≡ after_line_ends line_ends c.change t r.span.end

  -- One for each change. The stretch of the first one begins at the place or after it, and that of each other one where
  -- the one before it ends, or after.
  pub data Replaces : (from : ℕ) → List NumberedChange → List Replacement → Type 0 where
    done : {from : ℕ} → Replaces from [] []
    next : {from : ℕ} {c : NumberedChange} {r : Replacement} {cs : List NumberedChange} {rs : List Replacement} →
        IsReplacement c r → from ≤ r.span.start → Replaces r.span.end cs rs → Replaces from (c ∷ cs) (r ∷ rs)

  -- Of the first change that has no stretch, or one that begins before the one before it ends. (None begins before 0.)
  pub data FirstFault : (from : ℕ) → List NumberedChange → EditFault → Type 0 where
    no_range : {from : ℕ} {c : NumberedChange} {cs : List NumberedChange} {fault : EditFault} →
        RangeOf edition t c.number c.change (Err fault) → FirstFault from (c ∷ cs) fault
    overlap : {from : ℕ} {c : NumberedChange} {cs : List NumberedChange} (s : Span) →
        RangeOf edition t c.number c.change (Ok s) → s.start < from → FirstFault from (c ∷ cs) Overlap
    later : {from : ℕ} {c : NumberedChange} {cs : List NumberedChange} {fault : EditFault} (s : Span) →
        RangeOf edition t c.number c.change (Ok s) → from ≤ s.start → FirstFault s.end cs fault →
        FirstFault from (c ∷ cs) fault

  module _ (cs : List NumberedChange) where
    -- The new text u is read as the tree of the text with each change made in it, and with the text's errors, which are
    -- where these replacements moved them.
    abbrev pub ReadsAllChanged : (rs : List Replacement) (u : List ℕ) → Type 0
    ReadsAllChanged rs u = ReadsAfter edition t u (tree_after_all cs) (moved_by 0 0 rs)

    -- ---- the answer

    -- The replacements are answered where the text with them is read so. They are refused where a change has no
    -- stretch, where two overlap, or where the text with these would be read otherwise.
    pub data AreReplacements : Result (Vec Replacement Global) EditFault → Type 0 where
      made : {rs : Vec Replacement Global} → Replaces 0 cs rs.items → ReadsAllChanged rs.items (spliced t 0 rs.items) →
          AreReplacements (Ok rs)
      no_stretch : {fault : EditFault} → FirstFault 0 cs fault → AreReplacements (Err fault)
      read_otherwise : (rs : List Replacement) → Replaces 0 cs rs → ¬ (ReadsAllChanged rs (spliced t 0 rs)) →
          AreReplacements (Err (first_refusal edition cs))
      no_memory : AreReplacements (Err Memory)

    -- the text with them
    abbrev pub IsTextOfReplacements : Result (String Global) EditFault → Type 0
    IsTextOfReplacements (Ok text) =
        (rs : Vec Replacement Global) × AreReplacements (Ok rs) × (string_bytes text ≡ spliced t 0 rs.items)
    IsTextOfReplacements (Err fault) = AreReplacements (Err fault)

    -- both
    abbrev pub IsDraftOfReplacements : Result Draft EditFault → Type 0
    IsDraftOfReplacements (Ok draft) =
        AreReplacements (Ok draft.replacements) × (string_bytes draft.text ≡ spliced t 0 draft.replacements.items)
    IsDraftOfReplacements (Err fault) = AreReplacements (Err fault)
