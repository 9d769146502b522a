-- Lists that a loop gathers: what there is where the loop is comes where it began, after what was gathered.
use Rattle.std.proofs.Common.{◌≡◌, ℕ, List, [], ◌∷◌, ◌++◌, append_assoc, map, ap, refl, subst, sym, ◌∙◌, append-nil}
use Rattle.std.proofs.lemmas.List.{map-append}
use Rattle.fluent_syntax_grammar.specs.Construct.{Construct, Read, More, no_item, item, many, list_ends, list_stops}
use Rattle.fluent_syntax_grammar.specs.Construct.{item_and_more, list_of, stops_later}
use Rattle.fluent_syntax_grammar.specs.UniqueReading.{IsFunctional}
use Rattle.fluent_syntax_grammar.proofs.Deeper.{list_is_too_deep_by_first_item, list_is_too_deep_by_later_item}
use Rattle.fluent_syntax_parser.specs.declared.fault.ReadFault.{ReadFault}
use Rattle.fluent_syntax_parser.specs.Outcomes.{Fails, refused, too_deep, no_memory}
use Rattle.fluent_syntax_parser.specs.Made.{IsMade, made}

module _ {A S B : Type 0} (t : List ℕ) (next : S → Construct (More A S)) (add : A → B → B) (none : B) (s : S) (i : ℕ)
  where
    pub record ContinuesFrom (put : B → B) (r : S) (j : ℕ) : Type 0 where
      pub read : (b : B) (end : ℕ) → many next add none r j (Read b end) → many next add none s i (Read (put b) end)
      pub fails : (f : ReadFault) → Fails t (many next add none r) j f → Fails t (many next add none s) i f

-- where what comes after an item fails, so does the list
item_then_fails : {A S B : Type 0} (t : List ℕ) (next : S → Construct (More A S)) (add : A → B → B) (none : B) (r q : S)
    (j m : ℕ) (a : A) → IsFunctional (next r) → next r j (Read (item a q) m) → (f : ReadFault) →
    Fails t (many next add none q) m f → Fails t (many next add none r) j f
item_then_fails t next add none r q j m a h x f (refused n) = refused (λ k from to e. stops_later x (n k from to e))
item_then_fails t next add none r q j m a h x f (too_deep n) = too_deep (list_is_too_deep_by_later_item h a q m x n)
item_then_fails t next add none r q j m a h x f no_memory = no_memory

module _ {A S B : Type 0} {t : List ℕ} {next : S → Construct (More A S)} {add : A → B → B} {none : B} {s : S} {i : ℕ}
    {put : B → B} {r : S} {j : ℕ} where
  -- an item was refused, or nests too deeply
  pub many_fails_where_item_fails : {f : ReadFault} → ContinuesFrom t next add none s i put r j → Fails t (next r) j f →
      Fails t (many next add none s) i f
  many_fails_where_item_fails g (refused h) = g.fails _ (refused (λ k from to e. list_stops (h k from to e)))
  many_fails_where_item_fails g (too_deep h) = g.fails _ (too_deep (list_is_too_deep_by_first_item h))
  many_fails_where_item_fails g no_memory = no_memory

  -- one more item
  pub many_continues_after_item : (more_put : B → B) (a : A) (q : S) (m : ℕ) →
      ContinuesFrom t next add none s i put r j →
      IsFunctional (next r) → ((b : B) → more_put b ≡ put (add a b)) → next r j (Read (item a q) m) →
      ContinuesFrom t next add none s i more_put q m
  many_continues_after_item more_put a q m g h same x = record {
    read = λ b end y.
        subst (λ b. many next add none s i (Read b end)) (sym (same b)) (g.read (add a b) end (item_and_more x y));
    fails = λ f y. g.fails f (item_then_fails t next add none r q j m a h x f y);
  }

  -- the list ends
  pub whole_list_read : (whole : B) (m : ℕ) → ContinuesFrom t next add none s i put r j → put none ≡ whole →
      next r j (Read no_item m) → many next add none s i (Read whole m)
  whole_list_read whole m g same x =
      subst (λ b. many next add none s i (Read b m)) same (g.read none m (list_ends x))

-- ---- plain lists

-- What was gathered represents what was read, with f of each text in its place.
pub record MadeItems {A B X : Type 0} (t : List ℕ) (next : Construct (More A (Unit {0}))) (f : A → B) (view : X → B)
    (i : ℕ) (xs : List X) (j : ℕ) : Type 0 where
  pub items : List A
  pub same : map view xs ≡ map f items
  pub beyond : ContinuesFrom t (λ u. next) (λ a rest. a ∷ rest) [] tt i (λ more. items ++ more) tt j

module _ {A B X : Type 0} {t : List ℕ} {next : Construct (More A (Unit {0}))} {f : A → B} (view : X → B) {i : ℕ} where
  pub no_items_are_made_at_start : MadeItems t next f view i [] i
  no_items_are_made_at_start = record {
    items = [];
    same = refl;
    beyond = record { read = λ b end h. h; fails = λ e h. h };
  }

  module _ {j m : ℕ} where
    -- one more item
    pub item_is_made_next : (xs ys : List X) (x : X) → ys ≡ xs ++ x ∷ [] → MadeItems t next f view i xs j →
        IsFunctional next → (a : A) → next j (Read (item a tt) m) → view x ≡ f a → MadeItems t next f view i ys m
    item_is_made_next xs ys x all g h a read same = record {
      items = g.items ++ a ∷ [];
      same =
          ap (map view) all ∙ map-append view xs (x ∷ []) ∙ ap (λ zs. zs ++ view x ∷ []) g.same
          ∙ ap (λ z. map f g.items ++ z ∷ []) same ∙ sym (map-append f g.items (a ∷ []));
      beyond =
          many_continues_after_item (λ more. (g.items ++ a ∷ []) ++ more) a tt m g.beyond h
          (λ more. append_assoc g.items (a ∷ []) more) read;
    }

    -- the list ends
    pub items_made_to_end_are_list : (xs : List X) → MadeItems t next f view i xs j → next j (Read no_item m) →
        IsMade (map f) (list_of next) i (map view xs) m
    items_made_to_end_are_list xs g x =
        made (whole_list_read g.items m g.beyond (append-nil g.items) x) g.same
