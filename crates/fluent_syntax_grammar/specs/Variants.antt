-- The variants of a select.
use Rattle.std.specs.Prelude.{ℕ, List, Option, Some, None, Bool, ◌&&◌, ◌||◌, ◌==◌}
use Rattle.fluent_syntax_grammar.specs.Bytes.{is_digit, asterisk, hyphen, left_bracket, right_bracket}
use Rattle.fluent_syntax_grammar.specs.Places.{has}
use Rattle.fluent_syntax_tree.specs.Tree.{KeyTree, name_key, number_key, PatternTree, VariantTree, VariantTrees}
use Rattle.fluent_syntax_tree.specs.Tree.{no_variants, variants, variant}
use Rattle.fluent_syntax_tree.specs.Kind.{MissingDefaultVariant, MissingValue, MultipleDefaultVariants}
use Rattle.fluent_syntax_grammar.specs.Construct.{Construct, ◌>>=◌, ◌>>◌, yields, fails, peek, branch_on, More}
use Rattle.fluent_syntax_grammar.specs.Construct.{no_item, item, many}
use Rattle.fluent_syntax_grammar.specs.Tokens.{optional, token, blank, identifier, number}
use Rattle.fluent_syntax_grammar.specs.Family.{Family}
use Rattle.fluent_syntax_grammar.specs.Patterns.{pattern}
use Rattle.fluent_syntax_tree.specs.declared.spans.Span.{Span}
use Rattle.fluent_syntax_tree.specs.declared.edition.Edition.{Edition}
use Rattle.fluent_syntax_tree.specs.declared.edition.Edition.TheVariants.{One, Two}

-- Whether the list of variants has a default where it ends: one of its variants does, or in edition one a star that no
-- `[` follows is there.
abbrev pub has_default : Edition → (starred star : Bool) → Bool
has_default One starred star = starred || star
has_default Two starred star = starred

-- a digit or `-`
abbrev pub is_number_start : ℕ → Bool
is_number_start b = is_digit b || b == hyphen

-- Key: a number where there is a digit or `-`, else an identifier.
abbrev pub variant_key : List ℕ → Construct (KeyTree Span)
variant_key t = peek (has t is_number_start) (λ is_number. branch_on is_number
    (number t >>= λ v. yields (number_key v))
    (identifier t >>= λ v. yields (name_key v)))

-- A star, where there was one before: refused at the place after it.
abbrev pub only_star : (starred star : Bool) → Construct (Unit {0})
only_star starred star = branch_on (starred && star) (fails MultipleDefaultVariants) (yields tt)

-- the end of a list of variants, which has to have a default
abbrev pub variants_end : Edition → (starred star : Bool) → Construct (More (VariantTree Span) Bool)
variants_end edition starred star =
    branch_on (has_default edition starred star) (yields no_item) (fails MissingDefaultVariant)

module _ (t : List ℕ) where
  -- From the end of a variant's pattern on: there has to be one. Then a blank.
  abbrev pub variant_of : (starred star : Bool) → KeyTree Span → Option (PatternTree Span) →
      Construct (More (VariantTree Span) Bool)
  variant_of starred star key None = fails MissingValue
  variant_of starred star key (Some value) = blank t >> yields (item (variant key value star) (starred || star))

module _ (edition : Edition) (t : List ℕ) (R : Family) where
  -- Variant, after its star and `[`: a blank, a key, a blank, `]`, a pattern, a blank.
  abbrev pub variant_after : (starred star : Bool) → Construct (More (VariantTree Span) Bool)
  variant_after starred star = do
    blank t
    key ← variant_key t
    blank t
    token t right_bracket
    value ← pattern edition t R
    variant_of t starred star key value

  -- The next variant of a list, if it has one more: an optional `*`, and where `[` follows a variant; else the list
  -- ends there.
  abbrev pub next_variant : (starred : Bool) → Construct (More (VariantTree Span) Bool)
  next_variant starred = do
    star ← optional t asterisk
    only_star starred star
    bracket ← optional t left_bracket
    branch_on bracket (variant_after starred star) (variants_end edition starred star)

  -- the rest of a list of variants; the flag says whether there was a default before
  abbrev pub more_variants : (starred : Bool) → Construct (VariantTrees Span)
  more_variants = many next_variant variants no_variants
