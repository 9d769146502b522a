-- What entries are read before, and tilings of what is left of a text.
use Rattle.std.proofs.Common.{◌≡◌, ℕ, ◌+◌, List, [], ◌∷◌, length, Some, true, false, refl, ◌∙◌, subst, arith}
use Rattle.std.specs.Prelude.{◌==◌, ◌||◌, not, option_map}
use Rattle.fluent_syntax_tree.specs.Tree.{PatternTree, pattern_map}
use Rattle.fluent_syntax_tree.specs.Entry.{BodyTree}
use Rattle.fluent_syntax_tree.specs.Kind.{ExpectedToken}
use Rattle.fluent_syntax_tree.specs.Spans.{bytes_at}
use Rattle.fluent_syntax_tree.specs.declared.edition.Edition.{Edition}
use Rattle.fluent_syntax_grammar.specs.Bytes.{lf, cr, space}
use Rattle.fluent_syntax_grammar.specs.Places.{holds, BlankBlock, no_line}
use Rattle.fluent_syntax_grammar.specs.Construct.{Read, Refused, goes_on, stops, given, chosen, second, failed, passed}
use Rattle.fluent_syntax_grammar.specs.Tokens.{token}
use Rattle.fluent_syntax_grammar.specs.Entries.{attributes, no_more}
use Rattle.fluent_syntax_grammar.specs.Tiling.{Tile, is_entry_byte, Tiled, done, TileAt}
use Rattle.fluent_syntax_grammar.specs.Body.{faults}
use Rattle.fluent_syntax_grammar.specs.Grammar as grammar
use Rattle.fluent_syntax_grammar.specs.Written.{Text}
use Rattle.fluent_syntax_grammar.specs.RoundTrip.{tree_of}
use Rattle.fluent_syntax_grammar.proofs.Tests.{parted_by_test}
use Rattle.fluent_syntax_grammar.proofs.SuffixAt.{SuffixAt, first, suffix_reaches_end_of_text, test_of_suffix}
use Rattle.fluent_syntax_grammar.proofs.SuffixAt.{suffix_has_no_after_eol}
use Rattle.fluent_syntax_grammar.proofs.forward.Reading.{Reads}
use Rattle.fluent_syntax_grammar.proofs.marks.WrittenBytes.{pattern_bytes}
use Rattle.fluent_syntax_grammar.proofs.forward.Lines.{Ends, EndsPattern, text_ends, column}
use Rattle.fluent_syntax_grammar.proofs.forward.Lines.{inline_blank_without_space_is_empty}

-- A pattern is read back, before a line end and lines that do not belong to it.
pub record PatternReadsBack (edition : Edition) (t : List ℕ) (level : ℕ) (p : PatternTree Text) : Type 0 where
  pub back : (i : ℕ) (tail rest : List ℕ) → Ends tail rest → SuffixAt t i (pattern_bytes level p (lf ∷ tail)) →
      Reads t (grammar.pattern edition t) (option_map (pattern_map (bytes_at t))) i (Some p) rest

-- The text ends, or an entry begins.
pub data EntryStart : List ℕ → Type 0 where
  no_entry : EntryStart []
  begins : (b : ℕ) (bs : List ℕ) → is_entry_byte b ≡ true → EntryStart (b ∷ bs)

pub ends_at_entry : (rest : List ℕ) → EntryStart rest → EndsPattern rest
ends_at_entry [] no_entry = text_ends
ends_at_entry (b ∷ bs) (begins c cs e) =
    column (column_of b (parted_by_test is_entry_byte b space e refl) (parted_by_test is_entry_byte b lf e refl)
    (parted_by_test is_entry_byte b cr e refl) (parted_by_test is_entry_byte b 123 e refl))
  where
    column_of : (b : ℕ) → (b == space) ≡ false → (b == lf) ≡ false → (b == cr) ≡ false → (b == 123) ≡ false →
        not (b == space || b == lf || b == cr || b == 123) ≡ true
    column_of b e f g h = rw (e, f, g, h) refl

-- there is no byte that begins an entry
pub entry_start_is_no_other : (c : ℕ) (rest : List ℕ) → EntryStart rest → is_entry_byte c ≡ false →
    holds (λ b. b == c) (first rest) ≡ false
entry_start_is_no_other c [] no_entry e = refl
entry_start_is_no_other c (b ∷ bs) (begins d ds f) e = parted_by_test is_entry_byte b c f e

-- From the place on the text is tiled without errors, and the tree is this one.
pub record Tiles (edition : Edition) (t : List ℕ) (i : ℕ) (b : BodyTree Text) : Type 0 where
  pub tiles : List Tile
  pub tiled : Tiled t (TileAt edition t) i tiles
  pub no_faults : faults tiles ≡ []
  pub same : tree_of t tiles ≡ b

module _ (edition : Edition) (t : List ℕ) where
  -- there is no blank line
  pub blank_block_is_empty_at_entry_start : (i : ℕ) (rest : List ℕ) → EntryStart rest → SuffixAt t i rest →
      BlankBlock t i i
  blank_block_is_empty_at_entry_start i rest e l =
      no_line (inline_blank_without_space_is_empty edition t (entry_start_is_no_other space rest e refl) l)
      (suffix_has_no_after_eol l (entry_start_is_no_other lf rest e refl) (entry_start_is_no_other cr rest e refl))

  token_of_other_byte_is_refused : (i c : ℕ) (rest : List ℕ) → holds (λ b. b == c) (first rest) ≡ false →
      SuffixAt t i rest → token t c i (Refused (ExpectedToken c) i (i + 1))
  token_of_other_byte_is_refused i c rest e l =
      goes_on (chosen (second (test_of_suffix (λ b. b == c) l ∙ e) given)) (second refl (failed refl))

  -- there is no attribute
  pub no_attributes_are_read_at_entry_start : (i : ℕ) (rest : List ℕ) → EntryStart rest → SuffixAt t i rest →
      attributes edition t i (Read [] i)
  no_attributes_are_read_at_entry_start i rest e l =
      no_more (goes_on
      (passed (inline_blank_without_space_is_empty edition t (entry_start_is_no_other space rest e refl) l))
      (stops (token_of_other_byte_is_refused i 46 rest (entry_start_is_no_other 46 rest e refl) l)))

  -- ---- tilings

  pub end_of_text_has_no_tiles : (i : ℕ) → SuffixAt t i [] → Tiles edition t i []
  end_of_text_has_no_tiles i l =
      let e : i ≡ length t = let n = suffix_reaches_end_of_text l in omega arith in
      record {
        tiles = [];
        tiled = done (subst (λ n. BlankBlock t i n) e (blank_block_is_empty_at_entry_start i [] no_entry l));
        no_faults = refl;
        same = refl;
      }
