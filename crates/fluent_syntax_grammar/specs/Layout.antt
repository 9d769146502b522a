-- The layout of a pattern: its source as a finished list of lines, and the common indent of the list.
use Rattle.std.specs.Prelude.{ℕ, min, List, [], ◌∷◌, Option, Some, None, ◌==◌, if◌then◌else◌}
use Rattle.std.specs.List.{flat_map}
use Rattle.fluent_syntax_tree.specs.Tree.{ExpressionTree}
use Rattle.fluent_syntax_tree.specs.declared.spans.Span.{Span}
use Rattle.fluent_syntax_tree.specs.declared.edition.Edition.{Edition}
use Rattle.fluent_syntax_tree.specs.declared.edition.Edition.TheVariants.{One, Two}

-- A run of text, from the one place to the other, or a placeable, given as an E. (A placeable may span several
-- lines of the source.)
pub data PieceOf (E : Type 0) : Type 0 where
  run : (from to : ℕ) → PieceOf E
  placed : E → PieceOf E

-- how a line ends: LF or CRLF, which begins at the place, or the text's end
pub data Ending : Type 0 where
  lf_at crlf_at : ℕ → Ending
  text_end : Ending

-- a line of a pattern
pub record LineOf (E : Type 0) : Type 0 where
  -- where its leading spaces begin
  pub start : ℕ
  -- how many they are
  pub spaces : ℕ
  -- what follows them, up to the ending
  pub pieces : List (PieceOf E)
  pub ending : Ending

-- the source of a pattern
pub record LayoutOf (E : Type 0) : Type 0 where
  -- the line on which the pattern opens, if there is something on it
  pub opening : Option (LineOf E)
  -- the later lines that belong to the pattern
  pub lines : List (LineOf E)

-- those of a source: the tree of an expression represents a placeable
abbrev pub Piece : Type 0
Piece = PieceOf (ExpressionTree Span)

abbrev pub Line : Type 0
Line = LineOf (ExpressionTree Span)

abbrev pub Layout : Type 0
Layout = LayoutOf (ExpressionTree Span)

-- ---- the common indent

-- The leading spaces that a line counts with, by what it begins with: a run counts; a placeable counts at column 0, and
-- in edition two anywhere; a blank line does not count.
abbrev pub counted_spaces : {E : Type 0} → Edition → (spaces : ℕ) → List (PieceOf E) → List ℕ
counted_spaces edition spaces [] = []
counted_spaces edition spaces (run from to ∷ ps) = spaces ∷ []
counted_spaces One spaces (placed e ∷ ps) = if spaces == 0 then 0 ∷ [] else []
counted_spaces Two spaces (placed e ∷ ps) = spaces ∷ []

-- the number that a line counts with, if it counts
abbrev pub counted : {E : Type 0} → Edition → LineOf E → List ℕ
counted edition l = counted_spaces edition l.spaces l.pieces

-- the least of a number and the least of others, if there are others
abbrev pub least_with : ℕ → Option ℕ → ℕ
least_with n None = n
least_with n (Some m) = min n m

-- the least of a list of numbers, which an empty list has not
abbrev pub least : List ℕ → Option ℕ
least [] = None
least (n ∷ ns) = Some (least_with n (least ns))

-- Common indent: the least number of leading spaces of the lines that count. The opening line is not among them.
abbrev pub common_indent : {E : Type 0} → Edition → LayoutOf E → Option ℕ
common_indent edition y = least (flat_map (counted edition) y.lines)
