-- Messages in which nothing nests, as they are passed over without a tree.
use Rattle.std.specs.Prelude.{ℕ, List}
use Rattle.fluent_syntax_tree.specs.Entry.{AttributeTree, MessageTree, message}
use Rattle.fluent_syntax_tree.specs.declared.edition.Edition.{Edition}
use Rattle.fluent_syntax_tree.specs.declared.spans.Span.{Span}
use Rattle.fluent_syntax_grammar.specs.Bytes.{equals_sign}
use Rattle.fluent_syntax_grammar.specs.Construct.{Read}
use Rattle.fluent_syntax_grammar.specs.Entries.{attributes_of, message_of}
use Rattle.fluent_syntax_grammar.specs.Grammar.{within}
use Rattle.fluent_syntax_grammar.specs.Places.{InlineBlank}
use Rattle.fluent_syntax_grammar.specs.Tokens.{identifier, token}

-- From the one place to the other a name, an inline blank, `=`, and an inline blank that opens a pattern.
pub record OpensPattern (t : List ℕ) (i j : ℕ) : Type 0 where
  pub end : ℕ
  pub sign : ℕ
  pub beyond : ℕ
  pub name : identifier t i (Read (record { start = i; end = end }) end)
  pub blank : InlineBlank t end sign
  pub equals : token t equals_sign sign (Read tt beyond)
  pub opening : InlineBlank t beyond j

-- There are attributes from the one place to the other, within whatever depth.
abbrev pub AttributesAtAnyDepth : Edition → List ℕ → (i j : ℕ) → Type 0
AttributesAtAnyDepth edition t i j =
    (n : ℕ) → (found : List (AttributeTree Span)) × attributes_of edition t (within edition t n) i (Read found j)

-- There is a message from the one place to the other, within whatever depth.
abbrev pub MessageAtAnyDepth : Edition → List ℕ → (i j : ℕ) → Type 0
MessageAtAnyDepth edition t i j =
    (n : ℕ) → (found : MessageTree Span) × message_of edition t (within edition t n) i (Read (message found) j)
