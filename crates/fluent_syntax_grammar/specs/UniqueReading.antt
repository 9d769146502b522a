-- The laws of unique reading, as statements.
use Rattle.std.specs.Prelude.{◌≡◌, ℕ, ◌<◌, ◌≤◌, List, [], ◌∷◌, length, map, Bool, None}
use Rattle.std.specs.Str.{IsUtf8}
use Rattle.std.specs.List.{flat_map}
use Rattle.fluent_syntax_tree.specs.Entry.{EntryTree, message, term, comment, junk, BodyTree}
use Rattle.fluent_syntax_tree.specs.Every.{list_every, body_every}
use Rattle.fluent_syntax_tree.specs.Spans.{IsTextRange}
use Rattle.fluent_syntax_grammar.specs.Construct.{Outcome, Construct}
use Rattle.fluent_syntax_grammar.specs.Tokens as tokens
use Rattle.fluent_syntax_grammar.specs.Strings as strings
use Rattle.fluent_syntax_grammar.specs.Arguments as arguments
use Rattle.fluent_syntax_grammar.specs.Variants as variants
use Rattle.fluent_syntax_grammar.specs.Lines as lines
use Rattle.fluent_syntax_grammar.specs.Grammar as grammar
use Rattle.fluent_syntax_grammar.specs.Entries as entries
use Rattle.fluent_syntax_grammar.specs.Comments as comments
use Rattle.fluent_syntax_grammar.specs.Tiling.{Fault, Tile, whole_line, entry_at, Tiling, RuntimeTiling}
use Rattle.fluent_syntax_grammar.specs.Body.{faults, body}
use Rattle.fluent_syntax_grammar.specs.Meaning.{kind_means}
use Rattle.fluent_syntax_tree.specs.declared.edition.Edition.{Edition}
use Rattle.fluent_syntax_tree.specs.declared.spans.Span.{Span}

-- At each place the construct has at most one outcome: it is read in at most one way, with one end and one value, and
-- never both read and refused; and a refusal has one kind and one place.
pub record IsFunctional {A : Type 0} (c : Construct A) : Type 0 where
  pub same : (i : ℕ) (o p : Outcome A) → c i o → c i p → o ≡ p

-- ---- the tree without comments

-- an entry with no comment attached; a comment by itself is left out
abbrev pub bare : EntryTree Span → BodyTree Span
bare (message m) = message (record m { comment = None }) ∷ []
bare (term m) = term (record m { comment = None }) ∷ []
bare (comment level content) = []
bare (junk s) = junk s ∷ []

-- a body without its comments, free or attached
abbrev pub without_comments : BodyTree Span → BodyTree Span
without_comments = flat_map bare

-- a message or a term; nothing else
abbrev pub named : EntryTree Span → BodyTree Span
named (message m) = message m ∷ []
named (term m) = term m ∷ []
named (comment level content) = []
named (junk s) = []

-- the messages and terms of a body, in order
abbrev pub messages_and_terms : BodyTree Span → BodyTree Span
messages_and_terms = flat_map named

-- ---- errors

-- the error's kind means what it says of the byte at its place
abbrev pub FaultMeans : List ℕ → Fault → Type 0
FaultMeans t f = kind_means t f.kind f.pos.start

-- The stretches of the errors are nonempty and ascend, disjoint, from the place on to the text's end, and each error
-- lies at its stretch.
abbrev pub Ascend : List ℕ → ℕ → List Fault → Type 0
Ascend t from [] = from ≤ length t
Ascend t from (f ∷ fs) =
    (from ≤ f.slice.start) × (f.slice.start < f.slice.end) × (f.slice.start ≤ f.pos.start) ×
    (f.pos.start ≤ f.slice.end) × Ascend t f.slice.end fs

-- what an entry is that is junk; nothing of another
abbrev pub junk_slice : {X : Type 0} → EntryTree X → List X
junk_slice (junk s) = s ∷ []
junk_slice _ = []

-- the stretch of an error
abbrev pub fault_slice : Fault → Span
fault_slice f = f.slice

module _ (edition : Edition) (t : List ℕ) where
  -- Each construct of the grammar has at most one outcome at a place: entries, what they are made of, and the parts of
  -- these down to bytes and blanks.
  pub record IsUnambiguous : Type 0 where
    pub token : (byte : ℕ) → IsFunctional (tokens.token t byte)
    pub inline_blank : IsFunctional (tokens.inline_blank t)
    pub blank : IsFunctional (tokens.blank t)
    pub blank_block : IsFunctional (tokens.blank_block t)
    pub line_end : IsFunctional (tokens.optional_eol t)
    pub rest_of_line : IsFunctional (tokens.rest_of_line t)
    pub identifier : IsFunctional (tokens.identifier t)
    pub number : IsFunctional (tokens.number t)
    pub string_literal : IsFunctional (strings.string_literal t)
    pub inline_expression : IsFunctional (grammar.inline_expression edition t)
    pub attribute_accessor : IsFunctional (arguments.accessor t)
    pub call_arguments : IsFunctional (grammar.call_arguments edition t)
    pub more_arguments : (names : List (List ℕ)) → IsFunctional (grammar.more_arguments edition t names)
    pub expression : IsFunctional (grammar.expression edition t)
    pub placeable : IsFunctional (grammar.placeable edition t)
    pub variant_key : IsFunctional (variants.variant_key t)
    pub variant_list : IsFunctional (grammar.variant_list edition t)
    pub more_variants : (starred : Bool) → IsFunctional (grammar.more_variants edition t starred)
    pub pieces : IsFunctional (grammar.more_pieces edition t)
    pub line_ending : IsFunctional (lines.ending t)
    pub line : IsFunctional (grammar.line edition t)
    pub lines : IsFunctional (grammar.more_lines edition t)
    pub layout : IsFunctional (grammar.layout edition t)
    pub pattern : IsFunctional (grammar.pattern edition t)
    pub attribute : IsFunctional (entries.attribute edition t)
    pub attributes : IsFunctional (entries.attributes edition t)
    pub message : IsFunctional (entries.message_entry edition t)
    pub term : IsFunctional (entries.term_entry edition t)
    pub comment_line : (level : ℕ) → IsFunctional (comments.comment_line t level)
    pub comment_lines : (level : ℕ) → IsFunctional (comments.comment_lines t level)
    pub comment : IsFunctional (comments.comment_entry t)
    pub entry : IsFunctional (entry_at edition t)
    pub dropped_line : IsFunctional (whole_line t)

  -- the kind of each error means what it says
  abbrev pub KindsMean : Type 0
  KindsMean = (tiles : List Tile) → Tiling edition t tiles → list_every (FaultMeans t) (faults tiles)

  -- the same, without comments
  abbrev pub RuntimeKindsMean : Type 0
  RuntimeKindsMean = (tiles : List Tile) → RuntimeTiling edition t tiles → list_every (FaultMeans t) (faults tiles)

  -- there are as many errors as junk entries, in the same order, and each has its junk's stretch
  abbrev pub JunkOfErrors : Type 0
  JunkOfErrors =
      (tiles : List Tile) → Tiling edition t tiles → flat_map junk_slice (body tiles) ≡ map fault_slice (faults tiles)

  -- the same, without comments
  abbrev pub RuntimeJunkOfErrors : Type 0
  RuntimeJunkOfErrors =
      (tiles : List Tile) → RuntimeTiling edition t tiles →
      flat_map junk_slice (body tiles) ≡ map fault_slice (faults tiles)

  -- the stretches of the errors ascend, and each error lies at its own
  abbrev pub ErrorsAscend : Type 0
  ErrorsAscend = (tiles : List Tile) → Tiling edition t tiles → Ascend t 0 (faults tiles)

  -- the same, without comments
  abbrev pub RuntimeErrorsAscend : Type 0
  RuntimeErrorsAscend = (tiles : List Tile) → RuntimeTiling edition t tiles → Ascend t 0 (faults tiles)

  -- where the text is UTF-8, each text of the body is an ordered range of it whose ends are character boundaries
  abbrev pub BodyInText : Type 0
  BodyInText = (tiles : List Tile) → IsUtf8 t → Tiling edition t tiles → body_every (IsTextRange t) (body tiles)

  -- the same, without comments
  abbrev pub RuntimeBodyInText : Type 0
  RuntimeBodyInText =
      (tiles : List Tile) → IsUtf8 t → RuntimeTiling edition t tiles → body_every (IsTextRange t) (body tiles)

  -- the tiling without comments gives no comment, and attaches none, also where it has errors
  abbrev pub HasNoComments : Type 0
  HasNoComments = (tiles : List Tile) → RuntimeTiling edition t tiles → body tiles ≡ without_comments (body tiles)

  -- the messages and terms of the tiling without comments are those of the tiling, in order, with no comment attached
  abbrev pub SameMessagesAndTerms : Type 0
  SameMessagesAndTerms = (xs ys : List Tile) → Tiling edition t xs → RuntimeTiling edition t ys →
      messages_and_terms (body ys) ≡ messages_and_terms (without_comments (body xs))

  -- where the tiling has no error, the tiling without comments has none
  abbrev pub NoNewErrors : Type 0
  NoNewErrors = (xs ys : List Tile) → Tiling edition t xs → RuntimeTiling edition t ys → faults xs ≡ [] → faults ys ≡ []

  -- where the tiling has no error, the body of the tiling without comments is that of the tiling without its comments
  abbrev pub SameWithoutComments : Type 0
  SameWithoutComments = (xs ys : List Tile) → Tiling edition t xs → RuntimeTiling edition t ys → faults xs ≡ [] →
      body ys ≡ without_comments (body xs)
