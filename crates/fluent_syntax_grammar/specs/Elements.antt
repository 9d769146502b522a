-- The elements that a layout spells.
use Rattle.std.specs.Prelude.{ℕ, ◌+◌, min, List, [], ◌∷◌, ◌++◌, Option, Some, None, Bool, true, ◌==◌, not, nat_lt}
use Rattle.std.specs.Prelude.{if◌then◌else◌, slice_range}
use Rattle.std.specs.List.{flat_map, list_any}
use Rattle.fluent_syntax_grammar.specs.Bytes.{lf, is_space}
use Rattle.fluent_syntax_grammar.specs.Layout.{PieceOf, run, placed, Ending, lf_at, crlf_at, text_end, LineOf, LayoutOf}
use Rattle.fluent_syntax_grammar.specs.Layout.{Layout, common_indent}
use Rattle.fluent_syntax_tree.specs.Text.{trimmed_len}
use Rattle.fluent_syntax_tree.specs.Tree.{ExpressionTree, ElementTree, text_element, placeable, PatternTree}
use Rattle.fluent_syntax_tree.specs.Tree.{elements_of}
use Rattle.fluent_syntax_tree.specs.declared.spans.Span.{Span}
use Rattle.fluent_syntax_tree.specs.declared.edition.Edition.{Edition}
use Rattle.fluent_syntax_tree.specs.declared.edition.Edition.TheVariants.{One, Two}

-- an element before the tail is cut: a text from the one place to the other, or a placeable, given as an E
pub data ItemOf (E : Type 0) : Type 0 where
  text : (from to : ℕ) → ItemOf E
  placeable_item : E → ItemOf E

abbrev pub Item : Type 0
Item = ItemOf (ExpressionTree Span)

-- ---- line by line

-- The pieces of a line and its ending. An ending LF joins the run directly before it, and is a text of its own after a
-- placeable; an ending CRLF is a text of its own that is one LF.
abbrev pub with_ending : {E : Type 0} → List (PieceOf E) → Ending → List (ItemOf E)
with_ending [] (lf_at p) = text p (p + 1) ∷ []
with_ending [] (crlf_at p) = text (p + 1) (p + 2) ∷ []
with_ending [] text_end = []
with_ending (run from to ∷ []) (lf_at p) = text from (p + 1) ∷ []
with_ending (run from to ∷ []) (crlf_at p) = text from to ∷ text (p + 1) (p + 2) ∷ []
with_ending (run from to ∷ []) text_end = text from to ∷ []
with_ending (run from to ∷ p ∷ ps) ending = text from to ∷ with_ending (p ∷ ps) ending
with_ending (placed e ∷ ps) ending = placeable_item e ∷ with_ending ps ending

-- Where the leading spaces of a line beyond the common indent begin. Where there is no common indent, none are beyond
-- it.
abbrev pub common_indent_end : {E : Type 0} → Option ℕ → LineOf E → ℕ
common_indent_end None l = l.start + l.spaces
common_indent_end (Some common) l = l.start + min l.spaces common

-- Leading spaces before a placeable are dropped. In edition two those beyond the common indent, if there are any, are a
-- text.
abbrev pub indented : {E : Type 0} → Edition → (kept first : ℕ) → List (ItemOf E)
indented One kept first = []
indented Two kept first = if nat_lt kept first then text kept first ∷ [] else []

-- The items of a line that is not the opening line; its leading spaces beyond the common indent reach from the one
-- place to the other. A run that begins the line is one text with these spaces. A blank line with LF gives them and the
-- LF as one text, one with CRLF the LF alone.
abbrev pub items_from : {E : Type 0} → Edition → (kept first : ℕ) → List (PieceOf E) → Ending → List (ItemOf E)
items_from edition kept first [] (lf_at p) = text kept (p + 1) ∷ []
items_from edition kept first [] (crlf_at p) = text (p + 1) (p + 2) ∷ []
items_from edition kept first [] text_end = []
items_from edition kept first (run from to ∷ ps) ending = with_ending (run kept to ∷ ps) ending
items_from edition kept first (placed e ∷ ps) ending = indented edition kept first ++ with_ending (placed e ∷ ps) ending

-- the items of a line that is not the opening line, under a common indent
abbrev pub line_items : {E : Type 0} → Edition → Option ℕ → LineOf E → List (ItemOf E)
line_items edition common l = items_from edition (common_indent_end common l) (l.start + l.spaces) l.pieces l.ending

-- the items of the opening line, which has no leading spaces
abbrev pub opening_items : {E : Type 0} → Option (LineOf E) → List (ItemOf E)
opening_items None = []
opening_items (Some l) = with_ending l.pieces l.ending

-- the items of all lines, joined
abbrev pub items : {E : Type 0} → Edition → LayoutOf E → List (ItemOf E)
items edition y = opening_items y.opening ++ flat_map (line_items edition (common_indent edition y)) y.lines

-- ---- the tail

-- the bytes without an LF that ends them
abbrev pub without_last_lf : List ℕ → List ℕ
without_last_lf [] = []
without_last_lf (b ∷ []) = if b == lf then [] else b ∷ []
without_last_lf (b ∷ c ∷ bs) = b ∷ without_last_lf (c ∷ bs)

-- whether a text holds a byte other than space, apart from an ending LF
abbrev pub is_nonblank : List ℕ → Bool
is_nonblank bs = list_any (λ b. not (is_space b)) (without_last_lf bs)

module _ (t : List ℕ) where
  -- a placeable, or a nonblank text
  abbrev pub stays : {E : Type 0} → ItemOf E → Bool
  stays (placeable_item e) = true
  stays (text from to) = is_nonblank (slice_range t from to)

  -- an item before the items that are left after it
  abbrev pub cut_before : {E : Type 0} → ItemOf E → List (ItemOf E) → List (ItemOf E)
  cut_before x [] = if stays x then x ∷ [] else []
  cut_before x (y ∷ ys) = x ∷ y ∷ ys

  -- the items up to the last one that stays
  abbrev pub cut : {E : Type 0} → List (ItemOf E) → List (ItemOf E)
  cut [] = []
  cut (x ∷ xs) = cut_before x (cut xs)

  -- where a text ends without its ending spaces, CRs and LFs
  abbrev pub trimmed_end : (from to : ℕ) → ℕ
  trimmed_end from to = from + trimmed_len (slice_range t from to)

  -- The elements of the items. A text that ends the list is trimmed at its end, which may leave the empty text.
  abbrev pub spelled : List Item → List (ElementTree Span)
  spelled [] = []
  spelled (text from to ∷ []) = text_element (record { start = from; end = trimmed_end from to }) ∷ []
  spelled (text from to ∷ x ∷ xs) = text_element (record { start = from; end = to }) ∷ spelled (x ∷ xs)
  spelled (placeable_item e ∷ xs) = placeable e ∷ spelled xs

-- Without an element there is no pattern.
abbrev pub if_any : {A : Type 0} → List (ElementTree A) → Option (PatternTree A)
if_any [] = None
if_any (e ∷ es) = Some (elements_of (e ∷ es))

-- the pattern that a layout spells, if it spells one
abbrev pub pattern_of : Edition → List ℕ → Layout → Option (PatternTree Span)
pattern_of edition t y = if_any (spelled t (cut t (items edition y)))
