-- What is added for a piece of a line, and what for those after it, are together what is added from it on.
use Rattle.std.proofs.Common.{◌≡◌, ℕ, ◌+◌, List, [], ◌∷◌, ◌++◌, append_assoc, map, Option, Some, None, unwrap_or, Bool}
use Rattle.std.proofs.Common.{true, false, refl, sym, ap, ◌∙◌}
use Rattle.std.specs.Prelude.{nat_lt, if◌then◌else◌}
use Rattle.fluent_syntax_tree.specs.declared.edition.Edition.{Edition}
use Rattle.fluent_syntax_tree.specs.declared.edition.Edition.TheVariants.{One, Two}
use Rattle.fluent_syntax_grammar.specs.Layout.{Ending, lf_at, crlf_at, text_end, LineOf, PieceOf, placed, run}
use Rattle.fluent_syntax_parser.specs.Elements.{blank_line_items, flushed, indent_of, kept_place, leading, pending_run}
use Rattle.fluent_syntax_grammar.specs.Elements.{ItemOf, placeable_item, items_from, common_indent_end, line_items}
use Rattle.fluent_syntax_grammar.specs.Elements.{text, with_ending}

module _ {E : Type 0} where
  pub no_pieces_are_led_by_nothing : (led : Option ℕ) → leading {E = E} led [] ≡ []
  no_pieces_are_led_by_nothing None = refl
  no_pieces_are_led_by_nothing (Some k) = refl

  first_run_is_led_from_indent : (led : Option ℕ) (from to : ℕ) (ps : List (PieceOf E)) →
      leading led (run from to ∷ ps) ≡ run (unwrap_or led from) to ∷ ps
  first_run_is_led_from_indent None from to ps = refl
  first_run_is_led_from_indent (Some k) from to ps = refl

  placeable_is_led_by_nothing : (led : Option ℕ) (e : E) (ps : List (PieceOf E)) →
      leading led (placed e ∷ ps) ≡ placed e ∷ ps
  placeable_is_led_by_nothing None e ps = refl
  placeable_is_led_by_nothing (Some k) e ps = refl

  module _ (end : Ending) where
    flushed_pieces_are_pending_pieces : (xs : List (ItemOf E)) (pending : Option (ℕ × ℕ)) (p : PieceOf E)
        (ps : List (PieceOf E)) →
        flushed xs pending ++ with_ending (p ∷ ps) end ≡ xs ++ with_ending (pending_run pending (p ∷ ps)) end
    flushed_pieces_are_pending_pieces xs None p ps = refl
    flushed_pieces_are_pending_pieces xs (Some r) p ps = append_assoc xs (text r.0 r.1 ∷ []) (with_ending (p ∷ ps) end)

    pub run_waits_as_pending_text : (xs : List (ItemOf E)) (pending : Option (ℕ × ℕ)) (led : Option ℕ) (from to : ℕ)
        (ps : List (PieceOf E)) →
        flushed xs pending ++ with_ending (run (unwrap_or led from) to ∷ ps) end
        ≡ xs ++ with_ending (pending_run pending (leading led (run from to ∷ ps))) end
    run_waits_as_pending_text xs pending led from to ps =
        flushed_pieces_are_pending_pieces xs pending (run (unwrap_or led from) to) ps
        ∙ ap (λ qs. xs ++ with_ending (pending_run pending qs) end) (sym (first_run_is_led_from_indent led from to ps))

    pub waiting_placed_added : (xs : List (ItemOf E)) (pending : Option (ℕ × ℕ)) (led : Option ℕ) (e : E)
        (ps : List (PieceOf E)) →
        (flushed xs pending ++ placeable_item e ∷ []) ++ with_ending ps end
        ≡ xs ++ with_ending (pending_run pending (leading led (placed e ∷ ps))) end
    waiting_placed_added xs pending led e ps =
        append_assoc (flushed xs pending) (placeable_item e ∷ []) (with_ending ps end)
        ∙ flushed_pieces_are_pending_pieces xs pending (placed e) ps
        ∙ ap (λ qs. xs ++ with_ending (pending_run pending qs) end) (sym (placeable_is_led_by_nothing led e ps))

  -- ---- a line, by whether it holds something

  kept_place_is_common_indent_end : (common : Option ℕ) (l : LineOf E) →
      kept_place common l.start l.spaces ≡ common_indent_end common l
  kept_place_is_common_indent_end None l = refl
  kept_place_is_common_indent_end (Some common) l = refl

  items_of_blank_line_are_items_of_no_pieces : (edition : Edition) (kept first : ℕ) (end : Ending) →
      blank_line_items {E = E} kept end ≡ items_from {E = E} edition kept first [] end
  items_of_blank_line_are_items_of_no_pieces edition kept first (lf_at p) = refl
  items_of_blank_line_are_items_of_no_pieces edition kept first (crlf_at p) = refl
  items_of_blank_line_are_items_of_no_pieces edition kept first text_end = refl

  pending_indent_is_placed_before_rest : (b : Bool) (xs rest : List (ItemOf E)) (kept first : ℕ) →
      flushed xs (if b then Some (kept, first) else None) ++ rest
      ≡ xs ++ ((if b then text kept first ∷ [] else []) ++ rest)
  pending_indent_is_placed_before_rest true xs rest kept first = append_assoc xs (text kept first ∷ []) rest
  pending_indent_is_placed_before_rest false xs rest kept first = refl

  pending_indent_and_pieces_are_items : (xs : List (ItemOf E)) (edition : Edition) (kept first : ℕ)
      (ps : List (PieceOf E)) (end : Ending) → (ps ≡ [] → ⊥) →
      flushed xs (indent_of edition kept first ps) ++ with_ending (leading (Some kept) ps) end
      ≡ xs ++ items_from edition kept first ps end
  pending_indent_and_pieces_are_items xs edition kept first [] end some = absurd (some refl)
  pending_indent_and_pieces_are_items xs edition kept first (run from to ∷ ps) end some = refl
  pending_indent_and_pieces_are_items xs One kept first (placed e ∷ ps) end some = refl
  pending_indent_and_pieces_are_items xs Two kept first (placed e ∷ ps) end some =
      pending_indent_is_placed_before_rest (nat_lt kept first) xs (with_ending (placed e ∷ ps) end) kept first

  module _ (edition : Edition) (common : Option ℕ) (l : LineOf E) (kept : ℕ)
      (is : kept ≡ kept_place common l.start l.spaces) where
    items_from_kept_indent_are_line_items : items_from edition kept (l.start + l.spaces) l.pieces l.ending
        ≡ line_items edition common l
    items_from_kept_indent_are_line_items =
        ap (λ k. items_from edition k (l.start + l.spaces) l.pieces l.ending)
        (is ∙ kept_place_is_common_indent_end common l)

    pub items_of_bare_line_are_line_items : l.pieces ≡ [] → blank_line_items kept l.ending ≡ line_items edition common l
    items_of_bare_line_are_line_items none =
        items_of_blank_line_are_items_of_no_pieces edition kept (l.start + l.spaces) l.ending
        ∙ ap (λ ps. items_from edition kept (l.start + l.spaces) ps l.ending) (sym none)
        ∙ items_from_kept_indent_are_line_items

    pub items_of_full_line_are_line_items : (xs : List (ItemOf E)) → (l.pieces ≡ [] → ⊥) →
        flushed xs (indent_of edition kept (l.start + l.spaces) l.pieces)
        ++ with_ending (leading (Some kept) l.pieces) l.ending
        ≡ xs ++ line_items edition common l
    items_of_full_line_are_line_items xs some =
        pending_indent_and_pieces_are_items xs edition kept (l.start + l.spaces) l.pieces l.ending some
        ∙ ap (λ ys. xs ++ ys) items_from_kept_indent_are_line_items

pub empty_map_comes_from_empty : {A B : Type 0} (f : A → B) (xs : List A) → map f xs ≡ [] → xs ≡ []
empty_map_comes_from_empty f [] e = refl
empty_map_comes_from_empty f (x ∷ xs) e = cc
