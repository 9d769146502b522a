-- Where a part nests too deeply, so does the whole.
use Rattle.std.proofs.Common.{◌≡◌, ℕ, zero, List, Bool, true, false, subst}
use Rattle.fluent_syntax_grammar.specs.Construct.{Outcome, Construct, Read, Refused, ◌>>=◌, stops, goes_on, peek}
use Rattle.fluent_syntax_grammar.specs.Construct.{chosen, branch_on, first, second, More, item, many, list_ends}
use Rattle.fluent_syntax_grammar.specs.Construct.{list_stops, item_and_more, stops_later}
use Rattle.fluent_syntax_tree.specs.declared.edition.Edition.{Edition}
use Rattle.fluent_syntax_grammar.specs.Grammar.{within}
use Rattle.fluent_syntax_grammar.specs.UniqueReading.{IsFunctional}
use Rattle.fluent_syntax_grammar.specs.Nesting.{TooDeep}

-- ---- the formers

module _ {A B : Type 0} {c : Construct A} {f : A → Construct B} {i : ℕ} where
  -- the first part
  pub bind_is_too_deep_by_first : TooDeep c i → TooDeep (c >>= f) i
  bind_is_too_deep_by_first d o (stops x) = d _ x
  bind_is_too_deep_by_first d o (goes_on x y) = d _ x

  -- the next one, after a first part that is read
  pub bind_is_too_deep_by_second : IsFunctional c → (a : A) (j : ℕ) → c i (Read a j) → TooDeep (f a) j →
      TooDeep (c >>= f) i
  bind_is_too_deep_by_second h a j x d o (stops y) = let e = h.same i _ _ x y in cc
  bind_is_too_deep_by_second h a j x d o (goes_on {j = k} {a = b} y z) =
      let e = h.same i _ _ y x in
      let place : k ≡ j = cc in
      let value : b ≡ a = cc in
      d o (subst (λ k. f a k o) place (subst (λ b. f b k o) value z))

pub peek_is_too_deep : {A B : Type 0} {look : ℕ → A} {part : A → Construct B} {i : ℕ} → TooDeep (part (look i)) i →
    TooDeep (peek look part) i
peek_is_too_deep d o (chosen x) = d o x

module _ {A : Type 0} {test : Bool} {c d : Construct A} {i : ℕ} where
  pub branch_is_too_deep_when_true : test ≡ true → TooDeep c i → TooDeep (branch_on test c d) i
  branch_is_too_deep_when_true e h o (first f x) = h o x
  branch_is_too_deep_when_true e h o (second f x) = cc

  pub branch_is_too_deep_when_false : test ≡ false → TooDeep d i → TooDeep (branch_on test c d) i
  branch_is_too_deep_when_false e h o (first f x) = cc
  branch_is_too_deep_when_false e h o (second f x) = h o x

module _ {A S B : Type 0} {next : S → Construct (More A S)} {add : A → B → B} {none : B} where
  many_holds_of_equal_state_and_place : (q r : S) (k j : ℕ) (o : Outcome B) → q ≡ r → k ≡ j → many next add none q k o →
      many next add none r j o
  many_holds_of_equal_state_and_place q r k j o e f x =
      subst (λ r. many next add none r j o) e (subst (λ j. many next add none q j o) f x)

  -- the item at the place
  pub list_is_too_deep_by_first_item : {s : S} {i : ℕ} → TooDeep (next s) i → TooDeep (many next add none s) i
  list_is_too_deep_by_first_item d o (list_ends x) = d _ x
  list_is_too_deep_by_first_item d o (list_stops x) = d _ x
  list_is_too_deep_by_first_item d o (item_and_more x y) = d _ x
  list_is_too_deep_by_first_item d o (stops_later x y) = d _ x

  -- a later one, after an item that is read
  pub list_is_too_deep_by_later_item : {s : S} {i : ℕ} → IsFunctional (next s) → (a : A) (r : S) (j : ℕ) →
      next s i (Read (item a r) j) → TooDeep (many next add none r) j → TooDeep (many next add none s) i
  list_is_too_deep_by_later_item {i = i} h a r j x d o (list_ends y) = let e = h.same i _ _ x y in cc
  list_is_too_deep_by_later_item {i = i} h a r j x d o (list_stops y) = let e = h.same i _ _ x y in cc
  list_is_too_deep_by_later_item {i = i} h a r j x d o (item_and_more {later = q} {j = k} {end = m} {rest = rest} y z) =
      let e = h.same i _ _ y x in
      let place : k ≡ j = cc in
      let state : q ≡ r = cc in
      d (Read rest m) (many_holds_of_equal_state_and_place q r k j (Read rest m) state place z)
  list_is_too_deep_by_later_item {i = i} h a r j x d o
      (stops_later {later = q} {j = k} {from = m} {to = n} {k = l} y z) =
      let e = h.same i _ _ y x in
      let place : k ≡ j = cc in
      let state : q ≡ r = cc in
      d (Refused l m n) (many_holds_of_equal_state_and_place q r k j (Refused l m n) state place z)

-- ---- what opens

module _ (edition : Edition) (t : List ℕ) where
  -- inside none that are open nothing opens
  pub expression_at_no_depth_is_too_deep : (i : ℕ) → TooDeep (within edition t zero).expression i
  unfolding within
  expression_at_no_depth_is_too_deep i o x = x

  pub argument_list_at_no_depth_is_too_deep : (i : ℕ) → TooDeep (within edition t zero).argument_list i
  unfolding within
  argument_list_at_no_depth_is_too_deep i o x = x
