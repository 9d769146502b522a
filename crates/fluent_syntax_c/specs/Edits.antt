-- Edits of a text: what is asked for, what is made of it, and why none is made.
use Rattle.std.specs.Prelude.{◌≡◌, ◌⊎◌, ◌<◌, ◌++◌, ℕ, suc, List, [], ◌∷◌, length, Bool, false, Option, Some, None}
use Rattle.std.specs.Prelude.{Ok, Err, String, codes, string_bytes, slice_get, if◌then◌else◌}
use Rattle.std.specs.Global.{Global}
use Rattle.std.specs.List.{position_from}
use Rattle.std.specs.Str.{IsUtf8, bytes_eq}
use Rattle.fluent_syntax_tree.specs.Entry.{AttributeTree, BodyTree, EntryTree, message, term, comment, junk}
use Rattle.fluent_syntax_tree.specs.Tree.{PatternTree}
use Rattle.fluent_syntax_tree.specs.View.{resource_view}
use Rattle.fluent_syntax_tree.specs.declared.edition.Edition.{Edition}
use Rattle.fluent_syntax_grammar.specs.Joined.{joined_pattern}
use Rattle.fluent_syntax_grammar.specs.RoundTrip.{ReadsAs, tree_of}
use Rattle.fluent_syntax_grammar.specs.Tiling.{Tile, Tiling}
use Rattle.fluent_syntax_grammar.specs.Written.{Text}
use Rattle.fluent_syntax_edits.specs.Changes.{Change, replaces, inserts, removes, sets, joined_part, scratch_message}
use Rattle.fluent_syntax_edits.specs.Edits as edits
use Rattle.fluent_syntax_edits.specs.declared.fault.EditFault.{EditFault}
use Rattle.fluent_syntax_edits.specs.declared.fault.EditFault.TheVariants as fault
use Rattle.fluent_syntax_edits.specs.AttributeChanges.{sets_attribute}
use Rattle.ftl.specs.Answer.{outcome_of}
use Rattle.ftl.specs.declared.outcome.Outcome.{Outcome}
use Rattle.ftl.specs.declared.outcome.Outcome.TheVariants.{SyntaxErrors}
use Rattle.fluent_syntax_c.specs.Arguments.{edition_number}
use Rattle.fluent_syntax_c.specs.Depth.{EditionReadsDeeper}
use Rattle.fluent_syntax_c.specs.Rows.{Gives}
use Rattle.fluent_syntax_c.specs.Status.{edit_refusal_number}
use Rattle.fluent_syntax_c.specs.declared.edited.Action.{Action}
use Rattle.fluent_syntax_c.specs.declared.edited.Action.TheVariants.{SetValue, SetAttribute, Replace, Insert, Remove}
use Rattle.fluent_syntax_c.specs.declared.status.EditRefusal.{EditRefusal}
use Rattle.fluent_syntax_c.specs.declared.status.EditRefusal.TheVariants.{NotFound, NotOneEntry, ReadsOtherwise}
use Rattle.fluent_syntax_c.specs.declared.status.EditRefusal.TheVariants.{NoValue, NotCanonical, Overlap, PartHasErrors}
use Rattle.fluent_syntax_c.specs.declared.text_trees.TextTree.{TextTree}

-- The source is UTF-8, and it was read: its tree with its texts, and whether it has errors.
pub record IsTextTree (edition : Edition) (t : List ℕ) (read : TextTree) : Type 0 where
  pub is_utf8 : IsUtf8 t
  pub text_is : read.text.now ≡ t
  pub edition_is : read.edition ≡ edition
  pub tiles : List Tile
  pub has_tiles : Tiling edition t tiles
  pub tree_is : resource_view (λ text. text.now) read.tree ≡ tree_of t tiles
  pub outcome_is : read.outcome ≡ outcome_of tiles

-- The same by the edition of the number.
abbrev pub IsEditionTextTree : (number : ℕ) (t : List ℕ) → TextTree → Type 0
IsEditionTextTree number t read = (edition : Edition) × (edition_number edition ≡ number) × IsTextTree edition t read

-- ---- which entry

-- whether it is the message of that name, or the term, whose name is written with its `-`
abbrev pub has_entry_name : Text → EntryTree Text → Bool
has_entry_name name (message m) = bytes_eq m.id name
has_entry_name name (term m) = bytes_eq (45 ∷ m.id) name
has_entry_name name (comment level lines) = false
has_entry_name name (junk content) = false

-- the number of the first one of that name
abbrev pub first_entry_named : Text → BodyTree Text → Option ℕ
first_entry_named name body = position_from (has_entry_name name) 0 body

-- where the edit is made: at the entry of that name; what is inserted before no name comes after the last
abbrev pub place_of : Action → Text → BodyTree Text → Option ℕ
place_of SetValue name body = first_entry_named name body
place_of (SetAttribute own) name body = first_entry_named name body
place_of Replace name body = first_entry_named name body
place_of Remove name body = first_entry_named name body
place_of Insert [] body = Some (length body)
place_of Insert (byte ∷ name) body = first_entry_named (byte ∷ name) body

-- the attributes of an entry; a comment and junk have none, nor has an entry that is not there
abbrev pub attributes_of : Option (EntryTree Text) → List (AttributeTree Text)
attributes_of None = []
attributes_of (Some (message m)) = m.attributes
attributes_of (Some (term m)) = m.attributes
attributes_of (Some (comment level lines)) = []
attributes_of (Some (junk content)) = []

-- those of the entry of that number
abbrev pub attributes_at : (n : ℕ) → BodyTree Text → List (AttributeTree Text)
attributes_at n body = attributes_of (slice_get body n)

-- the number of the first attribute of that name; where there is none, how many there are
abbrev pub attribute_number : Text → List (AttributeTree Text) → ℕ
attribute_number name [] = 0
attribute_number name (a ∷ own) = if bytes_eq a.id name then 0 else suc (attribute_number name own)

-- ---- which change

-- what is read of the part that is new: of a value it is a message with that value
abbrev pub part_source : Action → Text → Text
part_source SetValue part = codes "a =" ++ part
part_source (SetAttribute own) part = codes "a =" ++ part
part_source Replace part = part
part_source Insert part = part
part_source Remove part = part

-- a message `a` with that value, and with nothing else
abbrev pub value_message : PatternTree Text → EntryTree Text
value_message v = message (record { id = 97 ∷ []; value = Some v; attributes = []; comment = None })

-- The change is that of the value of a message or a term into the pattern, joined: what `fluent_syntax_edits` writes of
-- it is the value of a message.
abbrev pub SetsValue : Change → PatternTree Text → Type 0
SetsValue (sets target w) v = (w ≡ joined_pattern v) × (scratch_message target w ≡ value_message w)
SetsValue (replaces e) v = ⊥
SetsValue (inserts e) v = ⊥
SetsValue removes v = ⊥

-- The part spells this change of an entry with these attributes: a value comes after `a =` and is the only part of that
-- message, and an entry is the only one that is read; both are joined. There is no error.
abbrev pub Spells : Edition → Action → (own : List (AttributeTree Text)) → (part : Text) → Change → Type 0
Spells edition SetValue own part change = (v : PatternTree Text) ×
    ReadsAs edition (part_source SetValue part) (value_message v ∷ []) × SetsValue change v
Spells edition (SetAttribute name) own part change = (v : PatternTree Text) ×
    ReadsAs edition (part_source SetValue part) (value_message v ∷ []) ×
    (change ≡ sets_attribute (attribute_number name.now own) (joined_pattern v))
Spells edition Replace own part change =
    (e : EntryTree Text) × ReadsAs edition part (e ∷ []) × (change ≡ replaces (joined_part e))
Spells edition Insert own part change =
    (e : EntryTree Text) × ReadsAs edition part (e ∷ []) × (change ≡ inserts (joined_part e))
Spells edition Remove own part change = change ≡ removes

-- ---- what is answered

-- why an edit is not made, by its fault; want of memory is reported otherwise
abbrev pub edit_refusal : EditFault → Option EditRefusal
edit_refusal fault.NoEntry = Some NotFound
edit_refusal (fault.IsJunk span) = Some NotFound
edit_refusal fault.NoValue = Some NoValue
edit_refusal (fault.NotCanonical rule) = Some (NotCanonical rule)
edit_refusal fault.ReadsOtherwise = Some ReadsOtherwise
edit_refusal fault.Overlap = Some Overlap
edit_refusal fault.Memory = None

module _ (number : ℕ) (t name : List ℕ) (action : Action) (part : List ℕ) where
  -- The edition has the number, and the edit that is asked for is that change at the entry of the number n.
  pub record Asks (edition : Edition) (tiles : List Tile) (n : ℕ) (change : Change) : Type 0 where
    pub has_number : edition_number edition ≡ number
    pub has_tiles : Tiling edition t tiles
    pub place : place_of action name (tree_of t tiles) ≡ Some n
    pub spells : Spells edition action (attributes_at n (tree_of t tiles)) part change

  -- The text is what the edit that is asked for makes of the source, with the source's outcome, which is its own too.
  pub record IsEdited (text : List ℕ) (outcome : Outcome) : Type 0 where
    pub edition : Edition
    pub tiles : List Tile
    pub n : ℕ
    pub change : Change
    pub asks : Asks edition tiles n change
    pub made : String Global
    pub answers : edits.IsEditResult edition t n change (Ok made)
    pub text_is : text ≡ string_bytes made
    pub outcome_is : outcome ≡ outcome_of tiles

  -- No edit is made, and this is why.
  pub data IsNotEdited : EditRefusal → Type 0 where
    not_found : (edition : Edition) (tiles : List Tile) → edition_number edition ≡ number → Tiling edition t tiles →
        place_of action name (tree_of t tiles) ≡ None → IsNotEdited NotFound
    not_one_entry : (edition : Edition) → edition_number edition ≡ number →
        ((own : List (AttributeTree Text)) (change : Change) → Spells edition action own part change → ⊥) →
        IsNotEdited NotOneEntry
    part_has_errors : (edition : Edition) (tiles : List Tile) → edition_number edition ≡ number →
        Tiling edition (part_source action part) tiles → outcome_of tiles ≡ SyntaxErrors → IsNotEdited PartHasErrors
    refused : {why : EditRefusal} (edition : Edition) (tiles : List Tile) (n : ℕ) (change : Change)
        (fault : EditFault) → Asks edition tiles n change → edits.IsEditResult edition t n change (Err fault) →
        edit_refusal fault ≡ Some why → IsNotEdited why

  -- The call leaves the new text or none in the caller's array, and returns this status; of what is UTF-8 and how
  -- deeply the source and the part nest it says what all calls say.
  pub record GivesEdit (nesting : ℕ) (before after : List ℕ) (count status : ℕ) : Type 0 where
    pub gives :
        Gives number IsEdited (IsUtf8 t × IsUtf8 name × IsUtf8 part)
        ((nesting < length t) ⊎ (nesting < length (part_source action part)))
        (EditionReadsDeeper number t nesting ⊎ EditionReadsDeeper number (part_source action part) nesting)
        before after count status
    pub not_edited : (why : EditRefusal) → status ≡ edit_refusal_number why → IsNotEdited why
