-- What a layout spells, as a reader makes it.
use Rattle.std.specs.Prelude.{◌≡◌, Box, ℕ, ◌+◌, List, [], ◌∷◌, ◌++◌, map, Option, Some, None, min, nat_lt}
use Rattle.std.specs.Prelude.{if◌then◌else◌}
use Rattle.std.specs.Global.{Global}
use Rattle.std.specs.Prelude.{false, slice_range}
use Rattle.std.specs.List.{flat_map}
use Rattle.fluent_syntax_tree.specs.Tree.{ElementTree, ExpressionTree, text_element, placeable}
use Rattle.fluent_syntax_tree.specs.View.{element_view}
use Rattle.fluent_syntax_tree.specs.declared.ast.Expression.{Expression}
use Rattle.fluent_syntax_tree.specs.declared.ast.PatternElement.{PatternElement}
use Rattle.fluent_syntax_tree.specs.declared.edition.Edition.{Edition}
use Rattle.fluent_syntax_tree.specs.declared.edition.Edition.TheVariants.{One, Two}
use Rattle.fluent_syntax_tree.specs.declared.spans.Span.{Span}
use Rattle.fluent_syntax_grammar.specs.Elements.{ItemOf, text, placeable_item, cut, is_nonblank, line_items}
use Rattle.fluent_syntax_grammar.specs.Elements.{trimmed_end, with_ending}
use Rattle.fluent_syntax_grammar.specs.Layout.{LineOf, PieceOf, run, placed, Ending, lf_at, crlf_at, text_end}
use Rattle.fluent_syntax_grammar.specs.Layout.{least, counted}
use Rattle.fluent_syntax_parser.specs.Boxed.{boxed_expression_view}
use Rattle.fluent_syntax_parser.specs.Lines.{ending_view, line_view}
use Rattle.fluent_syntax_parser.specs.declared.pattern.line.OpeningEnd.{OpeningEnd}
use Rattle.fluent_syntax_parser.specs.declared.pattern.line.Line.{Line}
use Rattle.fluent_syntax_parser.specs.declared.pattern.line.Piece.{Piece}
use Rattle.fluent_syntax_parser.specs.declared.pattern.line.Piece.TheVariants as piece

module _ {S X : Type 0} (v : S → X) where
  abbrev pub item_view : Piece S → ItemOf (ExpressionTree X)
  item_view (piece.Run from to) = text from to
  item_view (piece.Placed e) = placeable_item (boxed_expression_view v e)

  -- The items are cut to those that are left and a last one; or none is left.
  abbrev pub CutsTo : List ℕ → (all left : List (Piece S)) → (last : Option (Piece S)) → Type 0
  CutsTo t all left None = cut t (map item_view all) ≡ []
  CutsTo t all left (Some last) = cut t (map item_view all) ≡ map item_view left ++ item_view last ∷ []

-- with each placeable as it is
module _ {S : Type 0} where
  abbrev pub item_shape : Piece S → ItemOf (Box (Expression S) Global)
  item_shape (piece.Run from to) = text from to
  item_shape (piece.Placed e) = placeable_item e

module _ {E : Type 0} where
  -- a run that waits for what follows it, and what follows
  abbrev pub pending_run : Option (ℕ × ℕ) → List (PieceOf E) → List (PieceOf E)
  pending_run None ps = ps
  pending_run (Some r) ps = run r.0 r.1 ∷ ps

  -- the pieces, of which a run that begins them begins at another place, if one is given
  abbrev pub leading : Option ℕ → List (PieceOf E) → List (PieceOf E)
  leading None ps = ps
  leading (Some k) [] = []
  leading (Some k) (run from to ∷ ps) = run k to ∷ ps
  leading (Some k) (placed e ∷ ps) = placed e ∷ ps

  -- the items, with the run that waits after them
  abbrev pub flushed : List (ItemOf E) → Option (ℕ × ℕ) → List (ItemOf E)
  flushed xs None = xs
  flushed xs (Some r) = xs ++ text r.0 r.1 ∷ []

  -- the leading spaces beyond the common indent, where they are a text of their own: before a placeable, in edition 2
  abbrev pub indent_of : Edition → (kept first : ℕ) → List (PieceOf E) → Option (ℕ × ℕ)
  indent_of edition kept first [] = None
  indent_of edition kept first (run from to ∷ ps) = None
  indent_of One kept first (placed e ∷ ps) = None
  indent_of Two kept first (placed e ∷ ps) = if nat_lt kept first then Some (kept, first) else None

  -- a line that holds nothing
  abbrev pub blank_line_items : (kept : ℕ) → Ending → List (ItemOf E)
  blank_line_items kept (lf_at p) = text kept (p + 1) ∷ []
  blank_line_items kept (crlf_at p) = text (p + 1) (p + 2) ∷ []
  blank_line_items kept text_end = []

-- where the leading spaces of a line beyond the common indent begin
abbrev pub kept_place : Option ℕ → (start spaces : ℕ) → ℕ
kept_place None start spaces = start + spaces
kept_place (Some common) start spaces = start + min spaces common

-- the number, if there is one
abbrev pub flat_parts : Option ℕ → List ℕ
flat_parts None = []
flat_parts (Some n) = n ∷ []

module _ {X : Type 0} (f : Span → X) where
  -- the element that an item is which others follow
  abbrev pub element_of : ItemOf (ExpressionTree X) → ElementTree X
  element_of (text from to) = text_element (f (record { start = from; end = to }))
  element_of (placeable_item e) = placeable e

  -- the element that the last item is: a text is trimmed at its end
  abbrev pub last_of : List ℕ → ItemOf (ExpressionTree X) → ElementTree X
  last_of t (text from to) = text_element (f (record { start = from; end = trimmed_end t from to }))
  last_of t (placeable_item e) = placeable e

  -- the elements of the items
  abbrev pub spelled : List ℕ → List (ItemOf (ExpressionTree X)) → List (ElementTree X)
  spelled t [] = []
  spelled t (text from to ∷ []) = text_element (f (record { start = from; end = trimmed_end t from to })) ∷ []
  spelled t (text from to ∷ x ∷ xs) = text_element (f (record { start = from; end = to })) ∷ spelled t (x ∷ xs)
  spelled t (placeable_item e ∷ xs) = placeable e ∷ spelled t xs

-- ---- what is left of the line on which a pattern opens

module _ {E : Type 0} where
  -- the run, if it holds a byte
  abbrev pub run_of : Span → List (PieceOf E)
  run_of s = if nat_lt s.start s.end then run s.start s.end ∷ [] else []

  -- the items of the lines, without the indent that they have in common
  abbrev pub dedented_items : Edition → List (LineOf E) → List (ItemOf E)
  dedented_items edition lines = flat_map (line_items edition (least (flat_map (counted edition) lines))) lines

  -- the items of the run and of the line's ending
  abbrev pub rest_items : OpeningEnd → List (ItemOf E)
  rest_items rest = with_ending (run_of rest.run) (ending_view rest.ending)

-- where the text ends that the run of a line is, whose ending joins it where it is LF
abbrev pub rest_end : (to : ℕ) → Ending → ℕ
rest_end to (lf_at p) = p + 1
rest_end to (crlf_at p) = to
rest_end to text_end = to

-- An LF ends the line where its run ends, and after CR comes an LF.
abbrev pub EndsAt : List ℕ → (to : ℕ) → Ending → Type 0
EndsAt t to (lf_at p) = p ≡ to
EndsAt t to (crlf_at p) = is_nonblank (slice_range t (p + 1) (p + 2)) ≡ false
EndsAt t to text_end = Unit {0}

-- The elements were added that the rest of the opening line and the other lines spell, with f of each text.
abbrev pub AddsRest : {S X : Type 0} → (Span → X) → (S → X) → Edition → List ℕ → OpeningEnd → (lines : List (Line S)) →
    (old new : List (PatternElement S)) → Type 0
AddsRest f v edition t rest lines old new =
    map (element_view v) new
    ≡ map (element_view v) old
    ++ spelled f t (cut t (rest_items rest ++ dedented_items edition (map (line_view v) lines)))
