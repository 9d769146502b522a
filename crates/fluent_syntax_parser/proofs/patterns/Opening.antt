-- The line on which a pattern opens, up to where its reader is.
use Rattle.std.proofs.Common.{◌≡◌, ℕ, ◌+◌, ◌<◌, ◌≤◌, List, [], ◌∷◌, ◌++◌, append_assoc, map, Option, Some, None, Bool}
use Rattle.std.proofs.Common.{true, false, true≢false, refl, sym, ap, ◌∙◌, subst, arith}
use Rattle.std.specs.Prelude.{◌==◌, if◌then◌else◌, nat_lt, slice_get}
use Rattle.std.proofs.lemmas.Bool.Decides.{nat_tests}
use Rattle.std.proofs.lemmas.List.{append-nil, map-append}
use Rattle.fluent_syntax_tree.specs.Tree.{ExpressionTree, expression_map, placeable, text_element}
use Rattle.fluent_syntax_tree.specs.View.{element_view}
use Rattle.fluent_syntax_tree.specs.declared.ast.PatternElement.{PatternElement}
use Rattle.fluent_syntax_tree.specs.declared.spans.Span.{Span}
use Rattle.fluent_syntax_grammar.specs.Bytes.{lf, cr, left_brace, right_brace}
use Rattle.fluent_syntax_grammar.specs.Construct.{Outcome, Read, Refused, item, list_of, no_item}
use Rattle.fluent_syntax_grammar.specs.Elements.{with_ending}
use Rattle.fluent_syntax_grammar.specs.Family.{Family}
use Rattle.fluent_syntax_grammar.specs.UniqueReading.{IsFunctional}
use Rattle.fluent_syntax_grammar.specs.Layout.{Ending, Piece, crlf_at, lf_at, placed, run, text_end}
use Rattle.fluent_syntax_grammar.specs.Lines.{ending, is_run_place, next_piece}
use Rattle.fluent_syntax_grammar.specs.Places.{LongestRun, after_eol, has_byte, has_eol}
use Rattle.fluent_syntax_parser.specs.Elements.{EndsAt, element_of, run_of}
use Rattle.fluent_syntax_parser.specs.Layouts.{piece_of}
use Rattle.fluent_syntax_parser.specs.Opened.{Settled, as_item, none, piece_element}
use Rattle.fluent_syntax_parser.specs.Outcomes.{Fails}
use Rattle.fluent_syntax_parser.specs.declared.fault.ReadFault.{ReadFault}
use Rattle.fluent_syntax_parser.proofs.patterns.BlankLines.{crlf_has_lf, lf_is_blank}
use Rattle.fluent_syntax_grammar.proofs.FunctionalRules.{ending_is_functional}
use Rattle.fluent_syntax_parser.proofs.patterns.LineEndings.{line_ending_read, ending_without_eol_is_text_end}
use Rattle.fluent_syntax_parser.proofs.patterns.OneLine.{longest_run_is_read_as_piece}
use Rattle.fluent_syntax_parser.proofs.patterns.Pieces.{no_piece_is_read_at_end_of_text, no_piece_is_read_at_eol}
use Rattle.fluent_syntax_parser.proofs.patterns.Pieces.{run_there}
use Rattle.fluent_syntax_parser.proofs.patterns.Rest.{run_maps_to_itself}
use Rattle.fluent_syntax_parser.proofs.patterns.Settled.{pieces_with_placeable_last_are_settled, run_and_placed_settled}
use Rattle.fluent_syntax_parser.proofs.patterns.Settled.{settled_pieces_go_before_ending}
use Rattle.fluent_syntax_parser.proofs.patterns.Settled.{Settled-map}
use Rattle.fluent_syntax_parser.proofs.readers.ContinuesFrom.{ContinuesFrom, many_fails_where_item_fails}
use Rattle.fluent_syntax_parser.proofs.readers.ContinuesFrom.{whole_list_read, many_continues_after_item}

-- The elements are those of pieces up to a placeable, and what there is at the place comes after them.
pub record MadeOpening {S X : Type 0} (t : List ℕ) (R : Family) (f : Span → X) (v : S → X) (i : ℕ)
    (elements : List (PatternElement S)) (j : ℕ) : Type 0 where
  pub pieces : List Piece
  pub settled : Settled pieces
  pub same : map (element_view v) elements ≡ map (piece_element f) pieces
  pub beyond : ContinuesFrom t (λ u. next_piece t R) (λ a rest. a ∷ rest) [] tt i (λ more. pieces ++ more) tt j

module _ {S X : Type 0} (t : List ℕ) (R : Family) (f : Span → X) (v : S → X) (i : ℕ) where
  pub MadeOpening-none : MadeOpening t R f v i [] i
  MadeOpening-none =
      record { pieces = []; settled = none; same = refl; beyond = record { read = λ b end h. h; fails = λ e h. h } }

  module _ (h : IsFunctional (next_piece t R)) (place to : ℕ) (w : LongestRun (is_run_place t) place to) where
    abbrev span : Span
    span = record { start = place; end = to }

    -- with the run there, if it holds a byte
    module _ (pieces : List Piece)
        (g : ContinuesFrom t (λ u. next_piece t R) (λ a rest. a ∷ rest) [] tt i (λ more. pieces ++ more) tt place) where
      beyond_run : ContinuesFrom t (λ u. next_piece t R) (λ a rest. a ∷ rest) [] tt i
          (λ more. (pieces ++ run_of span) ++ more) tt
          to
      beyond_run = by (nat_lt place to) refl
        where
          by : (b : Bool) → nat_lt place to ≡ b →
              ContinuesFrom t (λ u. next_piece t R) (λ a rest. a ∷ rest) [] tt i
              (λ more. (pieces ++ (if b then run place to ∷ [] else [])) ++ more) tt to
          by true e =
              many_continues_after_item (λ more. (pieces ++ run place to ∷ []) ++ more) (run place to) tt to g h
              (λ more. append_assoc pieces (run place to ∷ []) more)
              (longest_run_is_read_as_piece t R place to w (grind (arith, nat_tests)))
          by false e =
              let here : place ≡ to = let l = w.forward in grind (arith, nat_tests) in
              subst (λ k. ContinuesFrom t (λ u. next_piece t R) (λ a rest. a ∷ rest) [] tt i
              (λ more. (pieces ++ []) ++ more) tt k)
              here
              (subst (λ ps. ContinuesFrom t (λ u. next_piece t R) (λ a rest. a ∷ rest) [] tt i
              (λ more. ps ++ more) tt place)
              (sym (append-nil pieces)) g)

      pub opening_fails_with_its_next_piece : {fault : ReadFault} → Fails t (next_piece t R) to fault →
          Fails t (list_of (next_piece t R)) i fault
      opening_fails_with_its_next_piece x = many_fails_where_item_fails beyond_run x

      pub opening_is_read_with_its_last_run : next_piece t R to (Read no_item to) →
          list_of (next_piece t R) i (Read (pieces ++ run_of span) to)
      opening_is_read_with_its_last_run x =
          whole_list_read (pieces ++ run_of span) to beyond_run (append-nil (pieces ++ run_of span)) x

      -- one more placeable
      pieces_with_placeable_stay_settled : (e : ExpressionTree Span) (b : Bool) → Settled pieces →
          Settled ((pieces ++ (if b then run place to ∷ [] else [])) ++ placed e ∷ [])
      pieces_with_placeable_stay_settled e true s =
          subst Settled (sym (append_assoc pieces (run place to ∷ []) (placed e ∷ [])))
          (run_and_placed_settled place to e s)
      pieces_with_placeable_stay_settled e false s =
          subst (λ ps. Settled (ps ++ placed e ∷ [])) (sym (append-nil pieces))
          (pieces_with_placeable_last_are_settled e s)

      pub placeable_is_made_next_in_opening : Settled pieces → (xs ys : List (PatternElement S)) (x : PatternElement S)
          (zs : List (PatternElement S)) → map (element_view v) xs ≡ map (piece_element f) pieces →
          map (element_view v) ys ≡ map (element_view v) xs ++ map (piece_element f) (run_of span) → zs ≡ ys ++ x ∷ [] →
          (e : ExpressionTree Span) → element_view v x ≡ placeable (expression_map f e) → (next : ℕ) →
          next_piece t R to (Read (item (placed e) tt) next) → MadeOpening t R f v i zs next
      placeable_is_made_next_in_opening settled xs ys x zs same added pushed e seen next read = record {
        pieces = (pieces ++ run_of span) ++ placed e ∷ [];
        settled = pieces_with_placeable_stay_settled e (nat_lt place to) settled;
        same =
            ap (map (element_view v)) pushed ∙ map-append (element_view v) ys (x ∷ [])
            ∙ ap (λ es. es ++ element_view v x ∷ [])
            (added ∙ ap (λ es. es ++ map (piece_element f) (run_of span)) same
            ∙ sym (map-append (piece_element f) pieces (run_of span)))
            ∙ ap (λ z. map (piece_element f) (pieces ++ run_of span) ++ z ∷ []) seen
            ∙ sym (map-append (piece_element f) (pieces ++ run_of span) (placed e ∷ []));
        beyond =
            many_continues_after_item (λ more. ((pieces ++ run_of span) ++ placed e ∷ []) ++ more) (placed e) tt next
            beyond_run h
            (λ more. append_assoc (pieces ++ run_of span) (placed e ∷ []) more) read;
      }

-- ---- the run before a placeable

module _ {S X : Type 0} (f : Span → X) (v : S → X) (place to : ℕ) (xs ys : List (PatternElement S)) where
  abbrev AddsRun : Bool → Type 0
  AddsRun b =
      map (element_view v) ys
      ≡ map (element_view v) xs ++ map (piece_element f) (if b then run place to ∷ [] else [])

  -- it was added
  pub pushed_text_adds_run : place < to →
      map (element_view v) ys ≡ map (element_view v) xs ++ text_element (f (record { start = place; end = to })) ∷ [] →
      AddsRun (nat_lt place to)
  pushed_text_adds_run before added = by (nat_lt place to) refl
    where
      by : (b : Bool) → nat_lt place to ≡ b → AddsRun b
      by true e = added
      by false e = absurd (grind (arith, nat_tests))

  -- there is none
  pub no_run_added : to ≤ place → ys ≡ xs → AddsRun (nat_lt place to)
  no_run_added beyond same = by (nat_lt place to) refl
    where
      by : (b : Bool) → nat_lt place to ≡ b → AddsRun b
      by true e = absurd (grind (arith, nat_tests))
      by false e = ap (map (element_view v)) same ∙ sym (append-nil (map (element_view v) xs))

-- ---- where the line ends

abbrev byte_or : Option ℕ → ℕ
byte_or None = 0
byte_or (Some b) = b

pub place_of_byte_has_no_other : {o : Option ℕ} (b n : ℕ) → o ≡ Some b → (b ≡ n → ⊥) → o ≡ Some n → ⊥
place_of_byte_has_no_other b n is other e = other (ap byte_or (sym is ∙ e))

pub none_is_no_byte : {o : Option ℕ} {n : ℕ} → o ≡ None → o ≡ Some n → ⊥
none_is_no_byte is e = let f = sym is ∙ e in cc

-- what neither continues a run nor is a brace
pub run_ends_line : (t : List ℕ) (R : Family) (place to : ℕ) → LongestRun (is_run_place t) place to →
    (slice_get t to ≡ Some left_brace → ⊥) → (slice_get t to ≡ Some right_brace → ⊥) →
    next_piece t R to (Read no_item to)
run_ends_line t R place to w opening close = by (slice_get t to) refl (has_eol t to) refl
  where
    by : (o : Option ℕ) → slice_get t to ≡ o → (eol : Bool) → has_eol t to ≡ eol → next_piece t R to (Read no_item to)
    by None e eol f = no_piece_is_read_at_end_of_text t R to e
    by (Some b) e true f = no_piece_is_read_at_eol t R to (Some b) e (λ g. cc) f
    by (Some b) e false f =
        let there = run_there t R to b e f (λ is. close (e ∙ ap Some is)) (λ is. opening (e ∙ ap Some is)) in
        absurd (true≢false (sym there ∙ w.longest))

abbrev ending_or : Ending → Outcome Ending → Ending
ending_or e (Read d j) = d
ending_or e (Refused k from to) = e

pub EndsAt-ending_read : (t : List ℕ) (to : ℕ) (e : Ending) (next : ℕ) → ending t to (Read e next) → EndsAt t to e
EndsAt-ending_read t to e next read = by (after_eol t to) refl
  where
    test : (k : ℕ) → after_eol t to ≡ Some k → (b : Bool) → (k == to + 1) ≡ b →
        EndsAt t to (if b then lf_at to else crlf_at to)
    test k eol true same = refl
    test k eol false other =
        lf_is_blank t (to + 1) (to + 2) (omega arith)
        (crlf_has_lf (has_byte t lf to) (has_byte t cr to) _ to k eol (grind (arith, nat_tests)))

    same : (d : Ending) (j : ℕ) → ending t to (Read d j) → d ≡ e
    same d j other = ap (ending_or d) ((ending_is_functional t).same to (Read d j) (Read e next) other read)

    by : (o : Option ℕ) → after_eol t to ≡ o → EndsAt t to e
    by None eol = subst (λ x. EndsAt t to x) (same text_end to (ending_without_eol_is_text_end t to eol)) tt
    by (Some k) eol =
        subst (λ x. EndsAt t to x) (same (if k == to + 1 then lf_at to else crlf_at to) k (line_ending_read t to k eol))
        (test k eol (k == to + 1) refl)

-- ---- with f of each text in its place

module _ {X : Type 0} (f : Span → X) where
  pub elements_of_pieces_are_those_of_items : (ps : List Piece) →
      map (piece_element f) ps ≡ map (element_of f) (map as_item (map (piece_of f) ps))
  elements_of_pieces_are_those_of_items [] = refl
  elements_of_pieces_are_those_of_items (p ∷ ps) =
      ap (λ es. piece_element f p ∷ es) (elements_of_pieces_are_those_of_items ps)

  pub settled_pieces_map_to_settled : {ps : List Piece} → Settled ps → Settled (map (piece_of f) ps)
  settled_pieces_map_to_settled s = Settled-map (expression_map f) s

  pub ending_of_opening_comes_after_its_items : {ps : List Piece} → Settled ps → (s : Span) (end : Ending) →
      with_ending (map (piece_of f) (ps ++ run_of s)) end
      ≡ map as_item (map (piece_of f) ps) ++ with_ending (run_of s) end
  ending_of_opening_comes_after_its_items {ps = ps} settled s end =
      ap (λ qs. with_ending qs end)
      (map-append (piece_of f) ps (run_of s)
      ∙ ap (λ qs. map (piece_of f) ps ++ qs) (run_maps_to_itself (expression_map f) s))
      ∙ settled_pieces_go_before_ending (settled_pieces_map_to_settled settled) (run_of s) end
