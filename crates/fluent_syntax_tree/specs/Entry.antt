-- Entries as values: an entry over X has an X in place of each text.
use Rattle.std.specs.Prelude.{List, map, Option, option_map}
use Rattle.fluent_syntax_tree.specs.Tree.{PatternTree, pattern_map}

pub record AttributeTree (X : Type 0) : Type 0 where
  pub id : X
  pub value : PatternTree X

pub record MessageTree (X : Type 0) : Type 0 where
  pub id : X
  pub value : Option (PatternTree X)
  pub attributes : List (AttributeTree X)
  pub comment : Option (List X)

pub record TermTree (X : Type 0) : Type 0 where
  pub id : X
  pub value : PatternTree X
  pub attributes : List (AttributeTree X)
  pub comment : Option (List X)

-- of a comment: `#`, `##` or `###`
pub data Level : Type 0 where
  regular group resource : Level

pub data EntryTree (X : Type 0) : Type 0 where
  message : MessageTree X → EntryTree X
  term : TermTree X → EntryTree X
  comment : Level → List X → EntryTree X
  junk : X → EntryTree X

-- the body of a resource
abbrev pub BodyTree : Type 0 → Type 0
BodyTree X = List (EntryTree X)

-- the entry with f of each text in its place
module _ {X Y : Type 0} (f : X → Y) where
  abbrev pub attribute_map : AttributeTree X → AttributeTree Y
  attribute_map a = record { id = f a.id; value = pattern_map f a.value }

  abbrev pub message_map : MessageTree X → MessageTree Y
  message_map m = record {
    id = f m.id;
    value = option_map (pattern_map f) m.value;
    attributes = map attribute_map m.attributes;
    comment = option_map (map f) m.comment;
  }

  abbrev pub term_map : TermTree X → TermTree Y
  term_map m = record {
    id = f m.id;
    value = pattern_map f m.value;
    attributes = map attribute_map m.attributes;
    comment = option_map (map f) m.comment;
  }

  abbrev pub entry_map : EntryTree X → EntryTree Y
  entry_map (message m) = message (message_map m)
  entry_map (term m) = term (term_map m)
  entry_map (comment level lines) = comment level (map f lines)
  entry_map (junk x) = junk (f x)

  abbrev pub body_map : BodyTree X → BodyTree Y
  body_map = map entry_map
