-- What is left of the line on which a pattern opens.
use Rattle.std.proofs.Common.{◌≡◌, ℕ, ◌+◌, ◌<◌, ◌≤◌, List, [], ◌∷◌, ◌++◌, map, Bool, true, false, refl, sym, ap, ◌∙◌}
use Rattle.std.proofs.Common.{arith}
use Rattle.std.specs.Prelude.{if◌then◌else◌, nat_lt, slice_range}
use Rattle.std.proofs.lemmas.List.{append-nil}
use Rattle.std.proofs.lemmas.Bool.Decides.{nat_tests}
use Rattle.fluent_syntax_tree.specs.Tree.{ElementTree, ExpressionTree, text_element}
use Rattle.fluent_syntax_tree.specs.declared.spans.Span.{Span}
use Rattle.fluent_syntax_grammar.specs.Elements.{ItemOf, cut, is_nonblank, text, trimmed_end, with_ending}
use Rattle.fluent_syntax_grammar.specs.Layout.{Ending, crlf_at, lf_at, run, text_end}
use Rattle.fluent_syntax_parser.specs.Elements.{EndsAt, rest_end, run_of, spelled}
use Rattle.fluent_syntax_parser.specs.Layouts.{item_map, piece_map}
use Rattle.fluent_syntax_grammar.proofs.backward.Lines.{empty_range_is_empty}
use Rattle.fluent_syntax_parser.proofs.patterns.Layouts.{mapped_pieces_keep_their_ending}

module _ {E F : Type 0} (h : E → F) where
  optional_run_maps_to_itself : (b : Bool) (from to : ℕ) →
      map (piece_map h) (if b then run from to ∷ [] else []) ≡ (if b then run from to ∷ [] else [])
  optional_run_maps_to_itself true from to = refl
  optional_run_maps_to_itself false from to = refl

  pub run_maps_to_itself : (s : Span) → map (piece_map h) (run_of s) ≡ run_of s
  run_maps_to_itself s = optional_run_maps_to_itself (nat_lt s.start s.end) s.start s.end

  pub run_with_ending_maps_to_itself : (s : Span) (end : Ending) →
      map (item_map h) (with_ending (run_of s) end) ≡ with_ending (run_of s) end
  run_with_ending_maps_to_itself s end =
      sym (mapped_pieces_keep_their_ending h (run_of s) end) ∙ ap (λ ps. with_ending ps end) (run_maps_to_itself s)

-- nothing is left where there is nothing
pub empty_run_at_text_end_has_no_items : {E : Type 0} (place : ℕ) →
    with_ending {E = E} (run_of (record { start = place; end = place })) text_end ≡ []
empty_run_at_text_end_has_no_items {E = E} place = by (nat_lt place place) refl
  where
    by : (b : Bool) → nat_lt place place ≡ b →
        with_ending {E = E} (if b then run place place ∷ [] else []) text_end ≡ []
    by true e = absurd (grind (arith, nat_tests))
    by false e = refl

range_of_equal_places_is_empty : (t : List ℕ) {start to : ℕ} → start ≡ to → slice_range t start to ≡ []
range_of_equal_places_is_empty t {start = start} same =
    ap (slice_range t start) (sym same) ∙ empty_range_is_empty t start

-- Where no other line follows, it is one text, or nothing.
module _ {E : Type 0} (t : List ℕ) (start to : ℕ) where
  abbrev one_text : ℕ → List (ItemOf E)
  one_text end = if is_nonblank (slice_range t start end) then text start end ∷ [] else []

  lone_run_with_ending_is_one_text : (b : Bool) → nat_lt start to ≡ b → start ≤ to → (end : Ending) → EndsAt t to end →
      cut t (with_ending (if b then run start to ∷ [] else []) end) ≡ one_text (rest_end to end)
  lone_run_with_ending_is_one_text true l in_order (lf_at p) there = refl
  lone_run_with_ending_is_one_text true l in_order (crlf_at p) there = rw there refl
  lone_run_with_ending_is_one_text true l in_order text_end there = refl
  lone_run_with_ending_is_one_text false l in_order (lf_at p) there =
      let same : start ≡ p = grind (arith, nat_tests) in rw same refl
  lone_run_with_ending_is_one_text false l in_order (crlf_at p) there =
      let same : start ≡ to = grind (arith, nat_tests) in rw (there, range_of_equal_places_is_empty t same) refl
  lone_run_with_ending_is_one_text false l in_order text_end there =
      let same : start ≡ to = grind (arith, nat_tests) in rw (range_of_equal_places_is_empty t same) refl

module _ {X : Type 0} (f : Span → X) (t : List ℕ) where
  abbrev pub trimmed_text : Span → Ending → ElementTree X
  trimmed_text s end = text_element (f (record { start = s.start; end = trimmed_end t s.start (rest_end s.end end) }))

  -- the text that the rest of a line is, where nothing follows
  pub lone_run_is_spelled_trimmed : (s : Span) (end : Ending) → s.start ≤ s.end → EndsAt t s.end end → (b : Bool) →
      is_nonblank (slice_range t s.start (rest_end s.end end)) ≡ b →
      spelled f t (cut t {E = ExpressionTree X} (with_ending (run_of s) end ++ []))
      ≡ (if b then trimmed_text s end ∷ [] else [])
  lone_run_is_spelled_trimmed s end in_order there b stays =
      ap (λ xs. spelled f t (cut t xs)) (append-nil (with_ending (run_of s) end))
      ∙ ap (spelled f t)
      (lone_run_with_ending_is_one_text t s.start s.end (nat_lt s.start s.end) refl in_order end there)
      ∙ by b stays
    where
      by : (b : Bool) → is_nonblank (slice_range t s.start (rest_end s.end end)) ≡ b →
          spelled f t (one_text t s.start s.end (rest_end s.end end)) ≡ (if b then trimmed_text s end ∷ [] else [])
      by true e = rw e refl
      by false e = rw e refl
