-- What comes after the name of a message or a term.
use Rattle.std.specs.Prelude.{ℕ, List, map, Option, option_map}
use Rattle.fluent_syntax_tree.specs.Entry.{AttributeTree, attribute_map}
use Rattle.fluent_syntax_tree.specs.Tree.{PatternTree, pattern_map}
use Rattle.fluent_syntax_tree.specs.View.{attribute_view, pattern_view}
use Rattle.fluent_syntax_tree.specs.declared.edition.Edition.{Edition}
use Rattle.fluent_syntax_tree.specs.declared.spans.Span.{Span}
use Rattle.fluent_syntax_grammar.specs.Bytes.{equals_sign}
use Rattle.fluent_syntax_grammar.specs.Construct.{Construct, ◌>>=◌, ◌>>◌, yields}
use Rattle.fluent_syntax_grammar.specs.Entries.{attributes_of}
use Rattle.fluent_syntax_grammar.specs.Family.{Family}
use Rattle.fluent_syntax_grammar.specs.Patterns.{pattern}
use Rattle.fluent_syntax_grammar.specs.Tokens.{blank_block, inline_blank, token}
use Rattle.fluent_syntax_parser.specs.declared.entry.messages.Fields.{Fields}

-- an optional pattern and attributes
abbrev pub FieldTrees : Type 0 → Type 0
FieldTrees X = Option (PatternTree X) × List (AttributeTree X)

abbrev pub fields_view : {S X : Type 0} → (S → X) → Fields S → FieldTrees X
fields_view text f = (option_map (pattern_view text) f.value, map (attribute_view text) f.attributes.items)

abbrev pub fields_map : {X Y : Type 0} → (X → Y) → FieldTrees X → FieldTrees Y
fields_map f x = (option_map (pattern_map f) x.0, map (attribute_map f) x.1)

-- an inline blank, `=`, an optional pattern, a blank block, attributes
abbrev pub fields : Edition → List ℕ → Family → Construct (FieldTrees Span)
fields edition t R = do
  inline_blank t
  token t equals_sign
  value ← pattern edition t R
  blank_block t
  rest ← attributes_of edition t R
  yields (value, rest)
