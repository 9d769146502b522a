-- Where the parts of a message or a term are.
use Rattle.std.specs.Prelude.{◌≡◌, ℕ, List, [], ◌∷◌, Option, Some, None, option_map, Result, Ok, Err, Vec, true}
use Rattle.std.specs.Global.{Global}
use Rattle.fluent_syntax_tree.specs.Entry.{AttributeTree, EntryTree, Level, comment, message, term}
use Rattle.fluent_syntax_tree.specs.Every.{list_every, option_every}
use Rattle.fluent_syntax_tree.specs.Kind.{Kind}
use Rattle.fluent_syntax_tree.specs.Tree.{PatternTree, pattern_map}
use Rattle.fluent_syntax_tree.specs.View.{pattern_view}
use Rattle.fluent_syntax_tree.specs.declared.ast.Pattern.{Pattern}
use Rattle.fluent_syntax_tree.specs.declared.edition.Edition.{Edition}
use Rattle.fluent_syntax_tree.specs.declared.spans.Span.{Span}
use Rattle.fluent_syntax_grammar.specs.Bytes.{equals_sign, full_stop, hash, hyphen}
use Rattle.fluent_syntax_grammar.specs.Construct.{Construct, Read, Refused}
use Rattle.fluent_syntax_grammar.specs.Entries.{attribute_of, attributes_of}
use Rattle.fluent_syntax_grammar.specs.Family.{Family}
use Rattle.fluent_syntax_grammar.specs.Grammar.{family}
use Rattle.fluent_syntax_grammar.specs.Patterns.{pattern}
use Rattle.fluent_syntax_grammar.specs.Places.{BlankBlock, InlineBlank, has_byte}
use Rattle.fluent_syntax_grammar.specs.Tiling.{entry_at, entry_in}
use Rattle.fluent_syntax_grammar.specs.Tokens.{identifier, token}
use Rattle.fluent_syntax_parser.specs.Fields.{FieldTrees, fields}
use Rattle.fluent_syntax_parser.specs.Outcomes.{Fails}
use Rattle.fluent_syntax_parser.specs.declared.ranges.AttributeRanges.{AttributeRanges}
use Rattle.fluent_syntax_parser.specs.declared.ranges.EntryRanges.{EntryRanges}
use Rattle.fluent_syntax_parser.specs.declared.fault.ReadFault.{ReadFault}

-- The construct is read at the range and gives that.
abbrev pub ReadAt : {A : Type 0} → Construct A → A → Span → Type 0
ReadAt c a s = c s.start (Read a s.end)

-- over a family: what may nest in the entry, to any depth or within some number
module _ (edition : Edition) (t : List ℕ) (R : Family) where
  -- The attribute is read at the range of the whole, and its name and its value at theirs: an inline blank, `.`, the
  -- name, an inline blank, `=`, the value.
  pub record HasAttributeParts (x : AttributeRanges) (a : AttributeTree Span) : Type 0 where
    pub whole : ReadAt (attribute_of edition t R) a x.span
    pub dot : ℕ
    pub before : InlineBlank t x.span.start dot
    pub point : token t full_stop dot (Read tt x.name.start)
    pub name : ReadAt (identifier t) x.name x.name
    pub named : a.id ≡ x.name
    pub equals : ℕ
    pub beyond : InlineBlank t x.name.end equals
    pub sign : token t equals_sign equals (Read tt x.value.start)
    pub value : ReadAt (pattern edition t R) (Some a.value) x.value
    pub ends : x.span.end ≡ x.value.end

  -- From the one place to the other there are those attributes, one after the other, and none follows.
  pub data HaveAttributeParts : ℕ → List AttributeRanges → List (AttributeTree Span) → ℕ → Type 0 where
    no_attribute_parts : {i from to : ℕ} {k : Kind} → attribute_of edition t R i (Refused k from to) →
        HaveAttributeParts i [] [] i
    more_attribute_parts : {i end : ℕ} {x : AttributeRanges} {xs : List AttributeRanges} {a : AttributeTree Span}
        {rest : List (AttributeTree Span)} → x.span.start ≡ i → HasAttributeParts x a →
        HaveAttributeParts x.span.end xs rest end → HaveAttributeParts i (x ∷ xs) (a ∷ rest) end

  -- From the place after a name up to the end there are the value and the attributes: an inline blank, `=`, the value,
  -- where there is one, a blank block, the attributes.
  pub record HaveFieldParts (i : ℕ) (value_at : Option Span) (attributes_at : List AttributeRanges)
      (f : FieldTrees Span)
      (end : ℕ) : Type 0 where
    pub equals : ℕ
    pub beyond : InlineBlank t i equals
    pub place : Span
    pub sign : token t equals_sign equals (Read tt place.start)
    pub value : ReadAt (pattern edition t R) f.0 place
    pub there : value_at ≡ option_map (λ v. place) f.0
    pub line : ℕ
    pub blank : BlankBlock t place.end line
    pub attributes : HaveAttributeParts line attributes_at f.1 end

  -- The entry has its parts there: a message begins with its name, a term with a `-` and its name.
  pub data HasEntryParts (i : ℕ) (x : EntryRanges) : EntryTree Span → ℕ → Type 0 where
    message_has_parts : {f : FieldTrees Span} {end : ℕ} → x.name.start ≡ i → ReadAt (identifier t) x.name x.name →
        HaveFieldParts x.name.end x.value x.attributes.items f end →
        HasEntryParts i x (message (record { id = x.name; value = f.0; attributes = f.1; comment = None })) end
    term_has_parts : {value : PatternTree Span} {rest : List (AttributeTree Span)} {end : ℕ} →
        token t hyphen i (Read tt x.name.start) → ReadAt (identifier t) x.name x.name →
        HaveFieldParts x.name.end x.value x.attributes.items (Some value, rest) end →
        HasEntryParts i x (term (record { id = x.name; value = value; attributes = rest; comment = None })) end

  -- An entry is read at the place, and has its parts there.
  pub record EntryWithParts (i : ℕ) (x : EntryRanges) : Type 0 where
    pub tree : EntryTree Span
    pub end : ℕ
    pub read : entry_in edition t R i (Read tree end)
    pub parts : HasEntryParts i x tree end

  -- ---- what the readers of ranges answer

  -- The attribute at the place has its parts there, and that value; or the fault is that of an attribute there.
  abbrev pub FindsAttribute : {S X : Type 0} → (Span → X) → (S → X) → ℕ →
      Result (AttributeRanges × Pattern S) ReadFault → Type 0
  FindsAttribute f v i (Ok x) =
      (a : AttributeTree Span) × HasAttributeParts x.0 a × (x.0.span.start ≡ i) ×
      (pattern_view v x.1 ≡ pattern_map f a.value)
  FindsAttribute f v i (Err e) = Fails t (attribute_of edition t R) i e

  -- There are the attributes from the place on; or the fault is that of such a list.
  abbrev pub FindsAttributes : ℕ → Result (Vec AttributeRanges Global × ℕ) ReadFault → Type 0
  FindsAttributes i (Ok x) = (rest : List (AttributeTree Span)) × HaveAttributeParts i x.0.items rest x.1
  FindsAttributes i (Err e) = Fails t (attributes_of edition t R) i e

  -- There are the value and the attributes from the place after a name on; or the fault is that of what is there.
  abbrev pub FindsFields : ℕ → Result (Option Span × Vec AttributeRanges Global × ℕ) ReadFault → Type 0
  FindsFields i (Ok x) = (f : FieldTrees Span) × HaveFieldParts i x.0 x.1.items f x.2
  FindsFields i (Err e) = Fails t (fields edition t R) i e

  -- The entry that the construct is has its parts there; or the fault is the construct's.
  abbrev pub FindsParts : Construct (EntryTree Span) → ℕ → Result EntryRanges ReadFault → Type 0
  FindsParts c i (Ok x) = (e : EntryTree Span) × (end : ℕ) × c i (Read e end) × HasEntryParts i x e end
  FindsParts c i (Err e) = Fails t c i e

  -- The entry has its parts there, or begins with a `#`; or the fault is that of an entry there.
  abbrev pub FindsEntry : ℕ → Result (Option EntryRanges) ReadFault → Type 0
  FindsEntry i (Ok (Some x)) = EntryWithParts i x
  FindsEntry i (Ok None) = has_byte t hash i ≡ true
  FindsEntry i (Err e) = Fails t (entry_in edition t R) i e

-- There are the parts of the message or the term that is read at the place; or none is read there.
abbrev pub HasRanges : Edition → List ℕ → ℕ → Option EntryRanges → Type 0
HasRanges edition t i (Some x) = EntryWithParts edition t (family edition t) i x
HasRanges edition t i None =
    (e : EntryTree Span) (end : ℕ) → entry_at edition t i (Read e end) →
    (level : Level) × (content : List Span) × (e ≡ comment level content)

-- all ranges of the parts
abbrev pub each_attribute_range : (Span → Type 0) → AttributeRanges → Type 0
each_attribute_range good x = good x.span × good x.name × good x.value

abbrev pub each_range : (Span → Type 0) → EntryRanges → Type 0
each_range good x = good x.name × option_every good x.value × list_every (each_attribute_range good) x.attributes.items
