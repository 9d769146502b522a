-- What patterns refer to, and which of these references come back.
use Rattle.std.specs.Prelude.{◌≡◌, Bool, true, ◌&&◌, ◌||◌, List, [], ◌∷◌, Option, Some, None}
use Rattle.std.specs.List.{list_any}
use Rattle.std.specs.Str.{bytes_eq}
use Rattle.fluent_syntax_tree.specs.declared.spans.Span.{Span}
use Rattle.fluent_syntax_names.specs.declared.mention.Mention.{Mention}
use Rattle.fluent_syntax_names.specs.declared.mention.Mention.TheVariants as says
use Rattle.fluent_syntax_names.specs.declared.name_index.NameIndex.{NameIndex}
use Rattle.fluent_syntax_names.specs.declared.qualified_names.EntryName.{EntryName}
use Rattle.fluent_syntax_names.specs.declared.qualified_names.PatternName.{PatternName}
use Rattle.fluent_syntax_names.specs.Mentions.{Mentions}
use Rattle.fluent_syntax_names.specs.QualifiedNames.{Text, message_name, term_name, nameless, qualified_pattern}

-- ---- Patterns, and what they refer to

abbrev pub value_of : EntryName → PatternName
value_of entry = record { entry = entry; attribute = None }

abbrev pub attribute_of : EntryName → Span → PatternName
attribute_of entry attribute = record { entry = entry; attribute = Some attribute }

-- before any pattern
abbrev pub no_pattern : PatternName
no_pattern = value_of nameless

-- which pattern follows the mention
abbrev pub pattern_after : PatternName → Mention Span → PatternName
pattern_after pattern (says.Message x v) = value_of (message_name x)
pattern_after pattern (says.Term x) = value_of (term_name x)
pattern_after pattern (says.Attribute x) = attribute_of pattern.entry x
pattern_after pattern _ = pattern

-- the pattern that the mention refers to, if it refers to one
abbrev pub referenced_pattern : Mention Span → Option PatternName
referenced_pattern (says.MessageReference x a) = Some (record { entry = message_name x; attribute = a })
referenced_pattern (says.TermReference x a) = Some (record { entry = term_name x; attribute = a })
referenced_pattern _ = None

-- a pattern refers to another: `name=` or `name.attribute`, and of terms `-name=` or `-name.attribute`
pub record Link : Type 0 where
  pub from : Text
  pub to : Text

abbrev pub link_of : Text → PatternName → PatternName → Link
link_of text pattern target = record { from = qualified_pattern text pattern; to = qualified_pattern text target }

abbrev pub link_to : Text → PatternName → Option PatternName → List Link → List Link
link_to text pattern None tail = tail
link_to text pattern (Some target) tail = link_of text pattern target ∷ tail

-- what the patterns of a file refer to, before other links
abbrev pub links_in : Text → PatternName → Mentions Span → List Link → List Link
links_in text pattern [] tail = tail
links_in text pattern (m ∷ ms) tail =
    link_to text pattern (referenced_pattern m) (links_in text (pattern_after pattern m) ms tail)

-- All that the patterns of the files refer to. A name that is defined twice is that of each pattern that has it.
abbrev pub links : List NameIndex → List Link
links [] = []
links (file ∷ files) = links_in file.text.now no_pattern file.mentions.items (links files)

-- ---- What is reached

abbrev pub is_link : Text → Text → Link → Bool
is_link from to link = bytes_eq from link.from && bytes_eq to link.to

-- whether the one pattern leads to the other: refers to it
abbrev pub links_to : List Link → Text → Text → Bool
links_to all from to = list_any (is_link from to) all

-- a pattern reaches those that it leads to, and what these reach
pub data Reaches (all : List Link) : Text → Text → Type 0 where
  next : (x y : Text) → links_to all x y ≡ true → Reaches all x y
  onward : (x y z : Text) → links_to all x y ≡ true → Reaches all y z → Reaches all x z

-- whether the one leads to the other, by way of none or some of these
abbrev pub reaches_by : List Link → (ways : List Text) → Text → Text → Bool
reaches_by all [] from to = links_to all from to
reaches_by all (way ∷ ways) from to =
    reaches_by all ways from to || (reaches_by all ways from way && reaches_by all ways way to)

abbrev pub targets : List Link → List Text
targets [] = []
targets (link ∷ all) = link.to ∷ targets all

-- whether the one reaches the other
abbrev pub reaches : List Link → Text → Text → Bool
reaches all from to = reaches_by all (targets all) from to

-- a reference comes back where what it refers to reaches the pattern that it is in
abbrev pub is_cyclic : List Link → Text → Text → Bool
is_cyclic all from to = reaches all to from
