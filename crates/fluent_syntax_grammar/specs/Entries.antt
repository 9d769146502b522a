-- Messages, terms and their attributes.
use Rattle.std.specs.Prelude.{ℕ, List, [], ◌∷◌, Option, Some, None}
use Rattle.fluent_syntax_grammar.specs.Bytes.{equals_sign, full_stop, hyphen}
use Rattle.fluent_syntax_tree.specs.Spans.{bytes_at}
use Rattle.fluent_syntax_tree.specs.Tree.{PatternTree}
use Rattle.fluent_syntax_tree.specs.Entry.{AttributeTree, EntryTree, message, term}
use Rattle.fluent_syntax_tree.specs.Kind.{Kind, ExpectedMessageField, ExpectedTermField, MissingValue}
use Rattle.fluent_syntax_grammar.specs.Construct.{Outcome, Read, Refused, Construct, ◌>>=◌, ◌>>◌, yields, here, fails}
use Rattle.fluent_syntax_grammar.specs.Construct.{fails_from}
use Rattle.fluent_syntax_grammar.specs.Tokens.{token, inline_blank, blank_block, identifier}
use Rattle.fluent_syntax_grammar.specs.Family.{Family}
use Rattle.fluent_syntax_grammar.specs.Grammar.{family}
use Rattle.fluent_syntax_grammar.specs.Patterns.{pattern}
use Rattle.fluent_syntax_tree.specs.declared.spans.Span.{Span}
use Rattle.fluent_syntax_tree.specs.declared.edition.Edition.{Edition}

-- An attribute has to have a pattern.
abbrev pub attribute_with : Span → Option (PatternTree Span) → Construct (AttributeTree Span)
attribute_with id None = fails MissingValue
attribute_with id (Some value) = yields (record { id = id; value = value })

-- A message with neither pattern nor attribute is refused, from its start up to where its list of attributes ended.
abbrev pub message_with : List ℕ → (start : ℕ) → Span → Option (PatternTree Span) → List (AttributeTree Span) →
    Construct (EntryTree Span)
message_with t start id None [] = fails_from (ExpectedMessageField (bytes_at t id)) start
message_with t start id None (a ∷ rest) =
    yields (message (record { id = id; value = None; attributes = a ∷ rest; comment = None }))
message_with t start id (Some value) rest =
    yields (message (record { id = id; value = Some value; attributes = rest; comment = None }))

-- A term without pattern is refused, from its start up to where its list of attributes ended.
abbrev pub term_with : List ℕ → (start : ℕ) → Span → Option (PatternTree Span) → List (AttributeTree Span) →
    Construct (EntryTree Span)
term_with t start id None rest = fails_from (ExpectedTermField (bytes_at t id)) start
term_with t start id (Some value) rest =
    yields (term (record { id = id; value = value; attributes = rest; comment = None }))

module _ (edition : Edition) (t : List ℕ) (R : Family) where
  -- Attribute: an inline blank, `.`, identifier, inline blank, `=`, pattern.
  abbrev pub attribute_of : Construct (AttributeTree Span)
  attribute_of = do
    inline_blank t
    token t full_stop
    id ← identifier t
    inline_blank t
    token t equals_sign
    value ← pattern edition t R
    attribute_with id value

  -- The longest list of attributes that are read one after the other. One that is refused ends the list without an
  -- error, at the place where it would begin.
  pub data attributes_of : ℕ → Outcome (List (AttributeTree Span)) → Type 0 where
    no_more : {i from to : ℕ} {k : Kind} → attribute_of i (Refused k from to) → attributes_of i (Read [] i)
    one_more : {i j end : ℕ} {a : AttributeTree Span} {rest : List (AttributeTree Span)} → attribute_of i (Read a j) →
        attributes_of j (Read rest end) → attributes_of i (Read (a ∷ rest) end)

  -- Message: identifier, inline blank, `=`, an optional pattern, blank block, attributes.
  abbrev pub message_of : Construct (EntryTree Span)
  message_of = do
    start ← here
    id ← identifier t
    inline_blank t
    token t equals_sign
    value ← pattern edition t R
    blank_block t
    rest ← attributes_of
    message_with t start id value rest

  -- Term: `-`, identifier, inline blank, `=`, pattern, blank block, attributes.
  abbrev pub term_of : Construct (EntryTree Span)
  term_of = do
    start ← here
    token t hyphen
    id ← identifier t
    inline_blank t
    token t equals_sign
    value ← pattern edition t R
    blank_block t
    rest ← attributes_of
    term_with t start id value rest

module _ (edition : Edition) (t : List ℕ) where
  -- an attribute, with what nests in it to any depth; and so on for the others
  abbrev pub attribute : Construct (AttributeTree Span)
  attribute = attribute_of edition t (family edition t)

  -- the longest list of attributes
  abbrev pub attributes : Construct (List (AttributeTree Span))
  attributes = attributes_of edition t (family edition t)

  -- a message
  abbrev pub message_entry : Construct (EntryTree Span)
  message_entry = message_of edition t (family edition t)

  -- a term
  abbrev pub term_entry : Construct (EntryTree Span)
  term_entry = term_of edition t (family edition t)
