-- Messages in which nothing nests.
use Rattle.std.proofs.Common.{◌<◌, ℕ, List, [], ◌∷◌, Option, Some, None, arith}
use Rattle.fluent_syntax_tree.specs.Entry.{AttributeTree, MessageTree, message}
use Rattle.fluent_syntax_tree.specs.Tree.{PatternTree}
use Rattle.fluent_syntax_tree.specs.declared.edition.Edition.{Edition}
use Rattle.fluent_syntax_tree.specs.declared.spans.Span.{Span}
use Rattle.fluent_syntax_grammar.specs.Bytes.{full_stop}
use Rattle.fluent_syntax_grammar.specs.Construct.{Read, at_place, given, goes_on, passed}
use Rattle.fluent_syntax_grammar.specs.Entries.{attribute_of, attributes_of, message_of, message_with, no_more}
use Rattle.fluent_syntax_grammar.specs.Grammar.{within}
use Rattle.fluent_syntax_grammar.specs.Places.{BlankBlock, InlineBlank}
use Rattle.fluent_syntax_grammar.specs.Tokens.{token}
use Rattle.fluent_syntax_parser.specs.AnyDepth.{AttributesAtAnyDepth, MessageAtAnyDepth, OpensPattern}
use Rattle.fluent_syntax_parser.specs.OneLine.{OpensAs}

module _ (edition : Edition) (t : List ℕ) where
  pub parts_of_attribute_read_as_attribute : (i dot start opening j : ℕ) (value : PatternTree Span) →
      InlineBlank t i dot → token t full_stop dot (Read tt start) → OpensPattern t start opening →
      OpensAs edition t opening (Some value) j →
      (n : ℕ) → (a : AttributeTree Span) × attribute_of edition t (within edition t n) i (Read a j)
  parts_of_attribute_read_as_attribute i dot start opening j value blank mark field opens n = (
    record { id = record { start = start; end = field.end }; value = value },
    goes_on (passed blank)
        (goes_on mark
        (goes_on field.name
        (goes_on (passed field.blank)
        (goes_on field.equals
        (goes_on (opens n field.beyond field.opening)
        given))))),
  )

  -- the last part of a message that has attributes
  attributes_alone_make_message : (n start i j : ℕ) (name : Span) (found : List (AttributeTree Span)) →
      attributes_of edition t (within edition t n) i (Read found j) → i < j →
      (m : MessageTree Span) × message_with t start name None found j (Read (message m) j)
  attributes_alone_make_message n start i j name [] (no_more h) some = absurd (omega (arith, some))
  attributes_alone_make_message n start i j name (a ∷ found) h some =
      (record { id = name; value = None; attributes = a ∷ found; comment = None }, given)

  module _ (start opening line place j : ℕ) (field : OpensPattern t start opening) (block : BlankBlock t line place)
      (attributes : AttributesAtAnyDepth edition t place j) where
    abbrev name : Span
    name = record { start = start; end = field.end }

    -- whatever its value is, and whether it has one
    message_of_opened_parts_is_read : (n : ℕ) (value : Option (PatternTree Span)) →
        OpensAs edition t opening value line →
        (m : MessageTree Span) → message_with t start name value (attributes n).0 j (Read (message m) j) →
        message_of edition t (within edition t n) start (Read (message m) j)
    message_of_opened_parts_is_read n value opens m last =
        goes_on at_place
        (goes_on field.name
        (goes_on (passed field.blank)
        (goes_on field.equals
        (goes_on (opens n field.beyond field.opening)
        (goes_on (passed block)
        (goes_on (attributes n).1
        last))))))

    pub message_with_value_is_at_any_depth : (value : PatternTree Span) → OpensAs edition t opening (Some value) line →
        MessageAtAnyDepth edition t start j
    message_with_value_is_at_any_depth value opens n =
        let m : MessageTree Span =
        record { id = name; value = Some value; attributes = (attributes n).0; comment = None } in
        (m, message_of_opened_parts_is_read n (Some value) opens m given)

    pub message_with_attributes_is_at_any_depth : OpensAs edition t opening None line → place < j →
        MessageAtAnyDepth edition t start j
    message_with_attributes_is_at_any_depth opens some n =
        let last = attributes_alone_make_message n start place j name (attributes n).0 (attributes n).1 some in
        (last.0, message_of_opened_parts_is_read n None opens last.0 last.1)
