-- The items of a pattern that was read have a shape, by where each is; items of this shape spell, once they are
-- cut, trimmed and joined, the elements of a readable pattern.
use Rattle.std.proofs.Common.{◌≡◌, ℕ, List, [], ◌∷◌, ◌++◌, Bool, true, false, refl, sym, ◌∙◌, subst, ap, append-nil}
use Rattle.std.specs.Prelude.{◌&&◌, not, if◌then◌else◌, slice_range}
use Rattle.std.specs.List.{list_all}
use Rattle.fluent_syntax_tree.specs.Tree.{ExpressionTree, expression_map, ElementTree, text_element, placeable}
use Rattle.fluent_syntax_tree.specs.Tree.{PatternTree, no_elements, elements, elements_of, pattern_map}
use Rattle.fluent_syntax_tree.specs.Spans.{bytes_at}
use Rattle.fluent_syntax_tree.specs.declared.spans.Span.{Span}
use Rattle.fluent_syntax_tree.specs.declared.edition.Edition.TheVariants.{One}
use Rattle.fluent_syntax_grammar.specs.PatternTexts.{is_empty, is_spaces, ends_in_lf, is_lone_lf}
use Rattle.fluent_syntax_grammar.specs.Bytes.{lf, is_space}
use Rattle.fluent_syntax_grammar.specs.Elements.{Item, text, placeable_item, is_nonblank, stays, cut_before, cut}
use Rattle.fluent_syntax_grammar.specs.Elements.{trimmed_end, spelled}
use Rattle.fluent_syntax_grammar.specs.Written.{Text}
use Rattle.fluent_syntax_grammar.specs.Rules.{expression_obeys, elements_obey}
use Rattle.fluent_syntax_grammar.specs.Readable.{is_text, ElementPosition, opening, after_line, within_line}
use Rattle.fluent_syntax_grammar.specs.Readable.{after_placeable, position_after, may_occur_at, may_precede}
use Rattle.fluent_syntax_grammar.specs.Readable.{are_elements, readable_rules}
use Rattle.fluent_syntax_grammar.specs.Joined.{is_joined, joined_expression, joined_pattern, joined_after}
use Rattle.fluent_syntax_grammar.proofs.Facts.{and_gives_left, and_gives_right, same_by_test}
use Rattle.fluent_syntax_grammar.proofs.Tests.{true_and_true}
use Rattle.fluent_syntax_grammar.proofs.backward.Texts.{is_plain, line_end, line_with_lf_is_not_empty, plain_is_text}
use Rattle.fluent_syntax_grammar.proofs.backward.Texts.{line_with_lf_ends_in_lf}
use Rattle.fluent_syntax_grammar.proofs.backward.Texts.{plain_text_does_not_end_in_lf, shows, nonblank_is_shows}
use Rattle.fluent_syntax_grammar.proofs.backward.Texts.{plain_is_trimmed}
use Rattle.fluent_syntax_grammar.proofs.backward.Texts.{trimmed_range_is_kept, BeginsElement}
use Rattle.fluent_syntax_grammar.proofs.backward.Texts.{front_of_shown_text_begins_element, begin_holds}
use Rattle.fluent_syntax_grammar.proofs.backward.Texts.{blank_line_may_occur_after_line}
use Rattle.fluent_syntax_grammar.proofs.backward.Texts.{text_may_occur_before_any_pattern}

-- ---- expressions that were read

-- The expression obeys, joined; and it is joined already, where nothing is there to join.
pub record IsReadExpression (t : List ℕ) (Joins : Type 0) (e : ExpressionTree Span) : Type 0 where
  pub obeys : expression_obeys (readable_rules One) (joined_expression (expression_map (bytes_at t) e)) ≡ true
  pub same : (Joins → ⊥) → joined_expression (expression_map (bytes_at t) e) ≡ expression_map (bytes_at t) e

-- ---- shapes

module _ (t : List ℕ) (Joins : Type 0) (m : Bool) where
  -- An item is where the one before it leaves off. After a run that no LF ends comes, if it is a text, the lone LF
  -- of a CRLF.
  pub data Step : ElementPosition → Item → ElementPosition → Type 0 where
    places : {s : ElementPosition} {e : ExpressionTree Span} → IsReadExpression t Joins e →
        Step s (placeable_item e) after_placeable
    runs : {s : ElementPosition} {from to : ℕ} (u : Text) → slice_range t from to ≡ u → list_all is_plain u ≡ true →
        is_empty u ≡ false → BeginsElement m s u → Step s (text from to) within_line
    ends_line : {s : ElementPosition} {from to : ℕ} (u : Text) → slice_range t from to ≡ u ++ line_end true →
        list_all is_plain u ≡ true → BeginsElement m s u → Step s (text from to) after_line
    blank_line : {from to : ℕ} (u : Text) → slice_range t from to ≡ u ++ line_end true → is_spaces u ≡ true →
        Step after_line (text from to) after_line
    joins : {from to : ℕ} → slice_range t from to ≡ lf ∷ [] → Joins → Step within_line (text from to) after_line

  pub data Shape : ElementPosition → List Item → Type 0 where
    done : {s : ElementPosition} → Shape s []
    more : {s s' : ElementPosition} {x : Item} {xs : List Item} → Step s x s' → Shape s' xs → Shape s (x ∷ xs)

  -- ---- the cut

  optional_item_has_shape : (b : Bool) (s s' : ElementPosition) (x : Item) → Step s x s' →
      Shape s (if b then x ∷ [] else [])
  optional_item_has_shape true s s' x e = more e done
  optional_item_has_shape false s s' x e = done

  items_before_cut_have_shape : (s s' : ElementPosition) (x : Item) (xs : List Item) → Step s x s' → Shape s' xs
      → Shape s (cut_before t x xs)
  items_before_cut_have_shape s s' x [] e h = optional_item_has_shape (stays t x) s s' x e
  items_before_cut_have_shape s s' x (y ∷ ys) e h = more e h

  pub cut_items_have_shape : (s : ElementPosition) (xs : List Item) → Shape s xs → Shape s (cut t xs)
  cut_items_have_shape s [] h = done
  cut_items_have_shape s (x ∷ xs) (more {s' = s'} e h) =
      items_before_cut_have_shape s s' x (cut t xs) e (cut_items_have_shape s' xs h)

-- the last item stays
abbrev pub LastItemStays : List ℕ → List Item → Type 0
LastItemStays t [] = Unit {0}
LastItemStays t (x ∷ []) = stays t x ≡ true
LastItemStays t (x ∷ y ∷ ys) = LastItemStays t (y ∷ ys)

module _ (t : List ℕ) where
  optional_item_stays_last : (b : Bool) (x : Item) → stays t x ≡ b → LastItemStays t (if b then x ∷ [] else [])
  optional_item_stays_last true x e = e
  optional_item_stays_last false x e = tt

  last_item_stays_before_cut : (x : Item) (xs : List Item) → LastItemStays t xs → LastItemStays t (cut_before t x xs)
  last_item_stays_before_cut x [] k = optional_item_stays_last (stays t x) x refl
  last_item_stays_before_cut x (y ∷ ys) k = k

  pub last_item_of_cut_stays : (xs : List Item) → LastItemStays t (cut t xs)
  last_item_of_cut_stays [] = tt
  last_item_of_cut_stays (x ∷ xs) = last_item_stays_before_cut x (cut t xs) (last_item_of_cut_stays xs)

  last_item_stays_without_first : (x : Item) (xs : List Item) → LastItemStays t (x ∷ xs) → LastItemStays t xs
  last_item_stays_without_first x [] k = tt
  last_item_stays_without_first x (y ∷ ys) k = k

-- the elements that items spell, with their bytes
abbrev pub items_tree : List ℕ → List Item → PatternTree Text
items_tree t xs = pattern_map (bytes_at t) (elements_of (spelled t xs))

-- ---- joining

lf_text_is_alone : (w : Text) (q : PatternTree Text) → ends_in_lf w ≡ true →
    joined_after w q ≡ elements (text_element w) (joined_pattern q)
lf_text_is_alone w no_elements e = refl
lf_text_is_alone w (elements (placeable x) es) e = refl
lf_text_is_alone w (elements (text_element v) es) e = text_that_may_not_join_stays_apart (is_lone_lf v) (ends_in_lf w) e
  where
    text_that_may_not_join_stays_apart : (a b : Bool) → b ≡ true →
        (if (a && not b) then elements (text_element (w ++ v)) (joined_pattern es) else elements (text_element w)
        (joined_after v es)) ≡ elements (text_element w) (joined_after v es)
    text_that_may_not_join_stays_apart true true e = refl
    text_that_may_not_join_stays_apart false b e = refl
    text_that_may_not_join_stays_apart true false e = cc

lone_lf_is_joined_on : (w : Text) (q : PatternTree Text) → ends_in_lf w ≡ false →
    joined_after w (elements (text_element (lf ∷ [])) q) ≡ elements (text_element (w ++ (lf ∷ []))) (joined_pattern q)
lone_lf_is_joined_on w q e = rw e refl

may_precede_joined_after : (w v : Text) (es : PatternTree Text) → may_precede w (joined_after v es) ≡ true
may_precede_joined_after w v no_elements = refl
may_precede_joined_after w v (elements (placeable e) es) = refl
may_precede_joined_after w v (elements (text_element x) es) = whichever (is_joined v x)
  where
    whichever : (b : Bool) →
        may_precede w (if b then elements (text_element (v ++ x)) (joined_pattern es) else elements (text_element v)
        (joined_after x es)) ≡ true
    whichever true = refl
    whichever false = refl

-- a text before another element is not the last
text_may_precede_joined_elements : (w : Text) (e : ElementTree Text) (es : PatternTree Text) →
    may_precede w (joined_pattern (elements e es)) ≡ true
text_may_precede_joined_elements w (placeable e) es = refl
text_may_precede_joined_elements w (text_element v) es = may_precede_joined_after w v es

text_may_precede_tree_of_items : (t : List ℕ) (w : Text) (x : Item) (xs : List Item) →
    may_precede w (joined_pattern (items_tree t (x ∷ xs))) ≡ true
text_may_precede_tree_of_items t w (text from to) [] = refl
text_may_precede_tree_of_items t w (text from to) (y ∷ ys) =
    text_may_precede_joined_elements w (text_element (slice_range t from to)) (items_tree t (y ∷ ys))
text_may_precede_tree_of_items t w (placeable_item e) xs = refl

-- ---- the elements are well

text_keeps_well : (m : Bool) (s : ElementPosition) (v : Text) (p : PatternTree Text) → is_text v ≡ true →
    may_occur_at One m s v no_elements ≡ true → may_precede v p ≡ true → are_elements One m (position_after v) p ≡ true
    → are_elements One m s (elements (text_element v) p) ≡ true
text_keeps_well m s v p a b c d =
    true_and_true a (true_and_true (text_may_occur_before_any_pattern m s v p no_elements ∙ b) (true_and_true c d))

pub record IsWellPlaced (m : Bool) (s : ElementPosition) (p : PatternTree Text) : Type 0 where
  pub position : are_elements One m s p ≡ true
  pub obey : elements_obey (readable_rules One) p ≡ true

-- a line's text and what follows it
line_before_well_placed_is_well_placed : (m : Bool) (s : ElementPosition) (u w : Text) (q : PatternTree Text) →
    w ≡ u ++ line_end true → list_all is_plain u ≡ true → may_occur_at One m s (u ++ line_end true) no_elements ≡ true →
    may_precede (u ++ line_end true) (joined_pattern q) ≡ true →
    IsWellPlaced m after_line (joined_pattern q) → IsWellPlaced m s (joined_after w q)
line_before_well_placed_is_well_placed m s u w q e p b c h =
    let v = u ++ line_end true in
    let whole : joined_after w q ≡ elements (text_element v) (joined_pattern q) =
    ap (λ w. joined_after w q) e ∙ lf_text_is_alone v q (line_with_lf_ends_in_lf u) in
    let next : position_after v ≡ after_line = rw (line_with_lf_ends_in_lf u) refl in
    subst (IsWellPlaced m s) (sym whole)
    (record {
      position =
          text_keeps_well m s v (joined_pattern q) (plain_is_text u true p line_with_its_end_is_not_empty) b c
          (subst (λ s. are_elements One m s (joined_pattern q) ≡ true) (sym next) h.position);
      obey = h.obey;
    })
  where
    line_with_its_end_is_not_empty : is_empty (u ++ line_end true) ≡ false
    line_with_its_end_is_not_empty = line_with_lf_is_not_empty u

showing_text_is_not_empty : (u : Text) → shows u ≡ true → is_empty u ≡ false
showing_text_is_not_empty [] e = cc
showing_text_is_not_empty (x ∷ u) e = refl

pub space_is_plain : (b : ℕ) → is_space b ≡ true → is_plain b ≡ true
space_is_plain b e = let same = same_by_test b 32 e in subst (λ b. is_plain b ≡ true) (sym same) refl

spaces_are_plain : (u : Text) → is_spaces u ≡ true → list_all is_plain u ≡ true
spaces_are_plain [] e = refl
spaces_are_plain (x ∷ u) e =
    true_and_true (space_is_plain x (and_gives_left (is_space x) (is_spaces u) e))
    (spaces_are_plain u (and_gives_right (is_space x) (is_spaces u) e))

spaces_do_not_show : (u : Text) → is_spaces u ≡ true → shows u ≡ false
spaces_do_not_show [] e = refl
spaces_do_not_show (x ∷ u) e =
    rw (and_gives_left (is_space x) (is_spaces u) e)
    (spaces_do_not_show u (and_gives_right (is_space x) (is_spaces u) e))

-- a blank line does not stay
blank_line_is_not_nonblank : (w u : Text) → w ≡ u ++ line_end true → is_spaces u ≡ true → is_nonblank w ≡ true → ⊥
blank_line_is_not_nonblank w u e f k =
    let no : is_nonblank w ≡ false =
    ap is_nonblank e ∙ (nonblank_is_shows u true (spaces_are_plain u f) ∙ spaces_do_not_show u f) in cc

-- not directly after a text that does not end in LF
abbrev pub IsNotWithinLine : ElementPosition → Type 0
IsNotWithinLine opening = Unit {0}
IsNotWithinLine after_line = Unit {0}
IsNotWithinLine within_line = ⊥
IsNotWithinLine after_placeable = Unit {0}

module _ (t : List ℕ) (Joins : Type 0) (m : Bool) where
  -- the bytes of an item's text
  abbrev At : ℕ → ℕ → Text
  At from to = slice_range t from to

  -- the last text, trimmed
  last_text_is_well_placed : (s : ElementPosition) (u : Text) (c : Bool) (from to : ℕ) → At from to ≡ u ++ line_end c →
      list_all is_plain u ≡ true → BeginsElement m s u → is_nonblank (At from to) ≡ true →
      IsWellPlaced m s (elements (text_element (slice_range t from (trimmed_end t from to))) no_elements)
  last_text_is_well_placed s u c from to e p b k =
      let shown : shows u ≡ true = sym (nonblank_is_shows u c p) ∙ (sym (ap is_nonblank e) ∙ k) in
      let r = plain_is_trimmed u p shown in
      let begins : BeginsElement m s r.kept =
      front_of_shown_text_begins_element m s r.kept r.rest r.shown (subst (BeginsElement m s) r.is b)
      in
      let same : slice_range t from (trimmed_end t from to) ≡ r.kept = trimmed_range_is_kept t u c from to e r in
      let bare : r.kept ++ line_end false ≡ r.kept = append-nil r.kept in
      let is : is_text r.kept ≡ true =
      subst (λ v. is_text v ≡ true) bare
      (plain_is_text r.kept false r.plain
      (subst (λ v. is_empty v ≡ false) (sym bare) (showing_text_is_not_empty r.kept r.shown))) in
      let in_place : may_occur_at One m s r.kept no_elements ≡ true =
      subst (λ v. may_occur_at One m s v no_elements ≡ true) bare (begin_holds m s r.kept false r.plain begins) in
      subst (λ v. IsWellPlaced m s (elements (text_element v) no_elements)) (sym same)
      (record { position = text_keeps_well m s r.kept no_elements is in_place r.ends refl; obey = refl })

  -- a run's text before a placeable
  run_before_placeable_is_well_placed : (s : ElementPosition) (u w : Text) (e : ExpressionTree Span) (xs : List Item)
      → w ≡ u → list_all is_plain u ≡ true →
      is_empty u ≡ false → BeginsElement m s u → IsReadExpression t Joins e → IsWellPlaced m after_placeable
      (joined_pattern (items_tree t xs)) →
      IsWellPlaced m s (joined_after w (items_tree t (placeable_item e ∷ xs)))
  run_before_placeable_is_well_placed s u w e xs f p n b g h =
      let bare : u ++ line_end false ≡ u = append-nil u in
      let is : is_text u ≡ true =
      subst (λ v. is_text v ≡ true) bare (plain_is_text u false p (subst (λ v. is_empty v ≡ false) (sym bare) n)) in
      let in_place : may_occur_at One m s u no_elements ≡ true =
      subst (λ v. may_occur_at One m s v no_elements ≡ true) bare (begin_holds m s u false p b) in
      let rest = joined_pattern (items_tree t (placeable_item e ∷ xs)) in
      subst (λ w. IsWellPlaced m s (joined_after w (items_tree t (placeable_item e ∷ xs)))) (sym f)
      (record {
        position = text_keeps_well m s u rest is in_place refl h.position;
        obey =
            true_and_true g.obeys h.obey;
      })

  -- a run's text with the lone LF that is joined to it
  run_joined_with_lf_is_well_placed : (s : ElementPosition) (u w v : Text) (q : PatternTree Text) → w ≡ u → v ≡ lf ∷ []
      → list_all is_plain u ≡ true →
      BeginsElement m s u → may_precede (u ++ line_end true) (joined_pattern q) ≡ true → IsWellPlaced m after_line
      (joined_pattern q) →
      IsWellPlaced m s (joined_after w (elements (text_element v) q))
  run_joined_with_lf_is_well_placed s u w v q f g p b c h =
      let whole :
      joined_after w (elements (text_element v) q)
      ≡ elements (text_element (u ++ line_end true)) (joined_pattern q) =
      ap (λ w. joined_after w (elements (text_element v) q)) f
      ∙ (ap (λ v. joined_after u (elements (text_element v) q)) g
      ∙ lone_lf_is_joined_on u q (plain_text_does_not_end_in_lf u p)) in
      let next : position_after (u ++ line_end true) ≡ after_line = rw (line_with_lf_ends_in_lf u) refl in
      subst (IsWellPlaced m s) (sym whole) (record {
        position =
            text_keeps_well m s (u ++ line_end true) (joined_pattern q)
            (plain_is_text u true p (line_with_lf_is_not_empty u))
            (begin_holds m s u true p b) c
            (subst (λ s. are_elements One m s (joined_pattern q) ≡ true) (sym next) h.position);
        obey = h.obey;
      })

  last_of_step : (s s' : ElementPosition) (from to : ℕ) → Step t Joins m s (text from to) s'
      → is_nonblank (At from to) ≡ true →
      IsWellPlaced m s (elements (text_element (slice_range t from (trimmed_end t from to))) no_elements)
  last_of_step s s' from to (runs u e p n b) k =
      last_text_is_well_placed s u false from to (e ∙ sym (append-nil u)) p b k
  last_of_step s s' from to (ends_line u e p b) k = last_text_is_well_placed s u true from to e p b k
  last_of_step s s' from to (blank_line u e f) k = absurd (blank_line_is_not_nonblank (At from to) u e f k)
  last_of_step s s' from to (joins e j) k = absurd (blank_line_is_not_nonblank (At from to) [] e refl k)

  -- items of the shape whose last one stays spell well
  pub items_are_well_placed : (s : ElementPosition) (xs : List Item) → IsNotWithinLine s → Shape t Joins m s xs →
      LastItemStays t xs → IsWellPlaced m s (joined_pattern (items_tree t xs))
  items_are_well_placed s [] r h k = record { position = refl; obey = refl }
  items_are_well_placed s (placeable_item e ∷ xs) r (more (places g) h) k =
      let q = items_are_well_placed after_placeable xs tt h (last_item_stays_without_first t (placeable_item e) xs k) in
      record { position = q.position; obey = true_and_true g.obeys q.obey }
  items_are_well_placed s (text from to ∷ []) r (more e h) k = last_of_step s _ from to e k
  items_are_well_placed s (text from to ∷ y ∷ ys) r (more (ends_line u e p b) h) k =
      line_before_well_placed_is_well_placed m s u (At from to) (items_tree t (y ∷ ys)) e p (begin_holds m s u true p b)
      (text_may_precede_tree_of_items t (u ++ line_end true) y ys) (items_are_well_placed after_line (y ∷ ys) tt h k)
  items_are_well_placed s (text from to ∷ y ∷ ys) r (more (blank_line u e f) h) k =
      line_before_well_placed_is_well_placed m after_line u (At from to) (items_tree t (y ∷ ys)) e
      (spaces_are_plain u f) (blank_line_may_occur_after_line m u f)
      (text_may_precede_tree_of_items t (u ++ line_end true) y ys) (items_are_well_placed after_line (y ∷ ys) tt h k)
  items_are_well_placed s (text from to ∷ y ∷ ys) r (more (joins e j) h) k = absurd r
  items_are_well_placed s (text from to ∷ placeable_item x ∷ ys) r (more (runs u e p n b) (more (places g) h)) k =
      run_before_placeable_is_well_placed s u (At from to) x ys e p n b g (items_are_well_placed after_placeable ys tt h
      (last_item_stays_without_first t (placeable_item x) ys k))
  items_are_well_placed s (text from to ∷ text f g ∷ []) r (more (runs u e p n b) (more (joins i j) h)) k =
      absurd (blank_line_is_not_nonblank (At f g) [] i refl k)
  items_are_well_placed s (text from to ∷ text f g ∷ y ∷ ys) r (more (runs u e p n b) (more (joins i j) h)) k =
      run_joined_with_lf_is_well_placed s u (At from to) (At f g) (items_tree t (y ∷ ys)) e i p b
      (text_may_precede_tree_of_items t (u ++ line_end true) y ys)
      (items_are_well_placed after_line (y ∷ ys) tt h k)
  items_are_well_placed s (text from to ∷ text f g ∷ ys) r (more (runs u e p n b) (more (runs v i q o c) h)) k =
      absurd c
  items_are_well_placed s (text from to ∷ text f g ∷ ys) r (more (runs u e p n b) (more (ends_line v i q c) h)) k =
      absurd c

  line_is_not_joined_with_next : (w u : Text) (q : PatternTree Text) → w ≡ u ++ line_end true → joined_pattern q ≡ q →
      joined_after w q ≡ elements (text_element w) q
  line_is_not_joined_with_next w u q e f =
      lf_text_is_alone w q (ap ends_in_lf e ∙ line_with_lf_ends_in_lf u) ∙ ap (λ q. elements (text_element w) q) f

  equal_parts_make_equal_elements : (w : Text) {e f : ExpressionTree Text} {p q : PatternTree Text} → e ≡ f → p ≡ q →
      elements (text_element w) (elements (placeable e) p) ≡ elements (text_element w) (elements (placeable f) q)
  equal_parts_make_equal_elements w a b = cc (a, b)

  -- where nothing is there to join, they are joined already
  pub joined_pattern_without_joins_is_same : (Joins → ⊥) → (s : ElementPosition) (xs : List Item) →
      Shape t Joins m s xs →
      joined_pattern (items_tree t xs) ≡ items_tree t xs
  joined_pattern_without_joins_is_same none s [] h = refl
  joined_pattern_without_joins_is_same none s (placeable_item e ∷ xs) (more (places g) h) =
      cc (g.same none, joined_pattern_without_joins_is_same none after_placeable xs h)
  joined_pattern_without_joins_is_same none s (text from to ∷ []) h = refl
  joined_pattern_without_joins_is_same none s (text from to ∷ y ∷ ys) (more (ends_line u e p b) h) =
      line_is_not_joined_with_next (At from to) u (items_tree t (y ∷ ys)) e
      (joined_pattern_without_joins_is_same none after_line (y ∷ ys) h)
  joined_pattern_without_joins_is_same none s (text from to ∷ y ∷ ys) (more (blank_line u e f) h) =
      line_is_not_joined_with_next (At from to) u (items_tree t (y ∷ ys)) e
      (joined_pattern_without_joins_is_same none after_line (y ∷ ys) h)
  joined_pattern_without_joins_is_same none s (text from to ∷ y ∷ ys) (more (joins e j) h) = absurd (none j)
  joined_pattern_without_joins_is_same none s (text from to ∷ placeable_item x ∷ ys)
      (more (runs u e p n b) (more (places g) h)) =
      equal_parts_make_equal_elements (At from to) (g.same none)
      (joined_pattern_without_joins_is_same none after_placeable ys h)
  joined_pattern_without_joins_is_same none s (text from to ∷ text f g ∷ ys)
      (more (runs u e p n b) (more (joins i j) h)) = absurd (none j)
  joined_pattern_without_joins_is_same none s (text from to ∷ text f g ∷ ys)
      (more (runs u e p n b) (more (runs v i q o c) h)) = absurd c
  joined_pattern_without_joins_is_same none s (text from to ∷ text f g ∷ ys)
      (more (runs u e p n b) (more (ends_line v i q c) h)) = absurd c
