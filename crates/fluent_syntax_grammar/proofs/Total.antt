-- Constructs that have an outcome at each place of the text from some place on, and that do not go back.
use Rattle.std.proofs.Common.{◌≡◌, ℕ, zero, suc, ◌+◌, ◌<◌, ◌≤◌, List, length, Bool, true, false, refl, arith}
use Rattle.fluent_syntax_tree.specs.Kind.{Kind}
use Rattle.fluent_syntax_grammar.specs.Construct.{Outcome, Read, Refused, Construct, ◌>>=◌, stops, goes_on, yields}
use Rattle.fluent_syntax_grammar.specs.Construct.{given, here, at_place, fails, failed, fails_from, failed_from, skip}
use Rattle.fluent_syntax_grammar.specs.Construct.{passed, peek, chosen, branch_on, first, second, More, no_item, item}
use Rattle.fluent_syntax_grammar.specs.Construct.{many, list_ends, list_stops, item_and_more, stops_later}
use Rattle.fluent_syntax_grammar.proofs.HoareTriple.{HoareTriple, holds_weaker, holds_bind, yields_meets_triple}
use Rattle.fluent_syntax_grammar.proofs.HoareTriple.{here_meets_triple}
use Rattle.fluent_syntax_grammar.proofs.HoareTriple.{fails_meets_triple, holds_fails_from, holds_skip, holds_peek}
use Rattle.fluent_syntax_grammar.proofs.HoareTriple.{holds_branch_on}

-- a place of the text from s on
pub record From (t : List ℕ) (s i : ℕ) : Type 0 where
  pub late : s ≤ i
  pub in_text : i ≤ length t

abbrev pub AnyFault : Kind → ℕ → ℕ → Type 0
AnyFault k from to = Unit {0}

-- From each place with `pre` the construct has an outcome, and each of its readings has `read`.
pub record Decides {A : Type 0} (pre : ℕ → Type 0) (c : Construct A) (read : A → ℕ → Type 0) : Type 0 where
  pub has : (i : ℕ) → pre i → (o : Outcome A) × c i o
  pub on : HoareTriple pre c read AnyFault

-- it has an outcome from each place from s on, and is read to such a place
abbrev pub TotalOnward : {A : Type 0} → List ℕ → ℕ → Construct A → Type 0
TotalOnward t s c = Decides (From t s) c (λ a. From t s)

-- the same, and where it is read it goes on
abbrev pub TotalConsuming : {A : Type 0} → List ℕ → ℕ → Construct A → Type 0
TotalConsuming t s c = Decides (From t s) c (λ a. From t (s + 1))

-- ---- the formers

bind_has_outcome : {A B : Type 0} (pre : ℕ → Type 0) (mid : A → ℕ → Type 0) (read : B → ℕ → Type 0) (c : Construct A)
    (f : A → Construct B) → Decides pre c mid → ((a : A) → Decides (mid a) (f a) read) →
    (i : ℕ) → pre i → (o : Outcome A) → c i o → (p : Outcome B) × (c >>= f) i p
bind_has_outcome pre mid read c f h g i p (Read a j) x =
    let z = (g a).has j (h.on.on_read i j a p x) in (z.0, goes_on x z.1)
bind_has_outcome pre mid read c f h g i p (Refused k from to) x = (Refused k from to, stops x)

-- what holds after the first part is where the second one begins
pub bind_decides :
    {A B : Type 0} {pre : ℕ → Type 0} {mid : A → ℕ → Type 0} {read : B → ℕ → Type 0} {c : Construct A}
    {f : A → Construct B} → Decides pre c mid → ((a : A) → Decides (mid a) (f a) read) → Decides pre (c >>= f) read
bind_decides {pre = pre} {mid = mid} {read = read} {c = c} {f = f} h g = record {
  has = λ i p. let x = h.has i p in bind_has_outcome pre mid read c f h g i p x.0 x.1;
  on = holds_bind h.on (λ a. (g a).on);
}

-- less is asked, more is held
pub weakened_construct_decides : {A : Type 0} {pre pre' : ℕ → Type 0} {c : Construct A} {read read' : A → ℕ → Type 0} →
    ((i : ℕ) → pre' i → pre i) → ((a : A) (j : ℕ) → read a j → read' a j) → Decides pre c read → Decides pre' c read'
weakened_construct_decides p r x =
    record { has = λ i q. x.has i (p i q); on = holds_weaker p r (λ k from to fault. fault) x.on }

pub yields_decides : {A : Type 0} {pre : ℕ → Type 0} {read : A → ℕ → Type 0} {a : A} → ((i : ℕ) → pre i → read a i) →
    Decides pre (yields a) read
yields_decides {a = a} h = record { has = λ i p. (Read a i, given); on = yields_meets_triple h }

pub here_decides : {pre : ℕ → Type 0} {read : ℕ → ℕ → Type 0} → ((i : ℕ) → pre i → read i i) → Decides pre here read
here_decides h = record { has = λ i p. (Read i i, at_place); on = here_meets_triple h }

pub fails_decides : {A : Type 0} {pre : ℕ → Type 0} {read : A → ℕ → Type 0} {k : Kind} → Decides pre (fails k) read
fails_decides {k = k} = record { has = λ i p. (Refused k i (i + 1), failed refl); on = fails_meets_triple (λ i p. tt) }

pub fails_from_decides : {A : Type 0} {pre : ℕ → Type 0} {read : A → ℕ → Type 0} {k : Kind} {start : ℕ} →
    Decides pre (fails_from k start) read
fails_from_decides {k = k} {start = start} =
    record { has = λ i p. (Refused k start i, failed_from); on = holds_fails_from (λ i p. tt) }

pub skip_decides : {pre : ℕ → Type 0} {W : ℕ → ℕ → Type 0} {read : Unit {0} → ℕ → Type 0} →
    ((i : ℕ) → pre i → (j : ℕ) × W i j) → ((i j : ℕ) → pre i → W i j → read tt j) → Decides pre (skip W) read
skip_decides w h = record { has = λ i p. let x = w i p in (Read tt x.0, passed x.1); on = holds_skip h }

-- a part is read where it was chosen
pub peek_decides : {A B : Type 0} {pre : ℕ → Type 0} {read : B → ℕ → Type 0} {look : ℕ → A} {part : A → Construct B} →
    ((a : A) → Decides (λ i. pre i × (look i ≡ a)) (part a) read) → Decides pre (peek look part) read
peek_decides {look = look} g = record {
  has = λ i p. let x = (g (look i)).has i (p, refl) in (x.0, chosen x.1);
  on = holds_peek (λ a. (g a).on);
}

-- whatever is seen
pub any_peek_decides : {A B : Type 0} {pre : ℕ → Type 0} {read : B → ℕ → Type 0} {look : ℕ → A}
    {part : A → Construct B} → ((a : A) → Decides pre (part a) read) → Decides pre (peek look part) read
any_peek_decides g = peek_decides (λ a. weakened_construct_decides (λ i p. p.0) (λ b j x. x) (g a))

branch_on_has_outcome : {A : Type 0} (pre : ℕ → Type 0) (read : A → ℕ → Type 0) (test : Bool) (c d : Construct A) →
    (test ≡ true → Decides pre c read) → (test ≡ false → Decides pre d read) → (i : ℕ) → pre i →
    (o : Outcome A) × branch_on test c d i o
branch_on_has_outcome pre read true c d g h i p = let x = (g refl).has i p in (x.0, first refl x.1)
branch_on_has_outcome pre read false c d g h i p = let x = (h refl).has i p in (x.0, second refl x.1)

pub branch_on_decides : {A : Type 0} {pre : ℕ → Type 0} {read : A → ℕ → Type 0} {test : Bool} {c d : Construct A} →
    (test ≡ true → Decides pre c read) → (test ≡ false → Decides pre d read) → Decides pre (branch_on test c d) read
branch_on_decides {pre = pre} {read = read} {test = test} {c = c} {d = d} g h =
    record { has = branch_on_has_outcome pre read test c d g h; on = holds_branch_on (λ e. (g e).on) (λ e. (h e).on) }

-- either way
pub any_branch_decides : {A : Type 0} {pre : ℕ → Type 0} {read : A → ℕ → Type 0} {test : Bool} {c d : Construct A} →
    Decides pre c read → Decides pre d read → Decides pre (branch_on test c d) read
any_branch_decides x y = branch_on_decides (λ e. x) (λ e. y)

-- ---- from a place on

-- a relation that leads on from each place of the text, within it
pub record IsTotalRelation (t : List ℕ) (W : ℕ → ℕ → Type 0) : Type 0 where
  pub exists : (i : ℕ) → i ≤ length t → (j : ℕ) × W i j
  pub forward : (i j : ℕ) → W i j → i ≤ j
  pub in_text : (i j : ℕ) → i ≤ length t → W i j → j ≤ length t

module _ {t : List ℕ} {s : ℕ} where
  pub yields_is_total_onward : {A : Type 0} {a : A} → TotalOnward t s (yields a)
  yields_is_total_onward = yields_decides (λ i p. p)

  pub here_is_total_onward : TotalOnward t s here
  here_is_total_onward = here_decides (λ i p. p)

  pub skip_is_total_onward : {W : ℕ → ℕ → Type 0} → IsTotalRelation t W → TotalOnward t s (skip W)
  skip_is_total_onward w =
      skip_decides (λ i p. w.exists i p.in_text) (λ i j p x. let late = p.late in let f = w.forward i j x in
      record { late = omega arith; in_text = w.in_text i j p.in_text x })

  pub from_later_is_from_earlier : (i : ℕ) → From t (s + 1) i → From t s i
  from_later_is_from_earlier i p = let late = p.late in record { late = omega arith; in_text = p.in_text }

  pub strict_is_total_onward : {A : Type 0} {c : Construct A} → TotalConsuming t s c → TotalOnward t s c
  strict_is_total_onward x = weakened_construct_decides (λ i p. p) (λ a. from_later_is_from_earlier) x

-- ---- lists

-- where there is a list's item, it goes on
abbrev pub more_on : {A S : Type 0} (t : List ℕ) (s : ℕ) → More A S → ℕ → Type 0
more_on t s no_item j = From t s j
more_on t s (item a r) j = From t (s + 1) j

-- It has an outcome from each place from s on, and where it reads an item it goes on.
abbrev pub TotalConsumingItem : {A S : Type 0} → List ℕ → ℕ → Construct (More A S) → Type 0
TotalConsumingItem t s c = Decides (From t s) c (more_on t s)

pub more_earlier : {A S : Type 0} (t : List ℕ) (s : ℕ) (x : More A S) (j : ℕ) → From t (s + 1) j → more_on t s x j
more_earlier t s no_item j p = from_later_is_from_earlier j p
more_earlier t s (item a r) j p = p

pub item_strict_is_consuming : {A S : Type 0} {t : List ℕ} {s : ℕ} {c : Construct (More A S)} → TotalConsuming t s c →
    TotalConsumingItem t s c
item_strict_is_consuming {t = t} {s = s} x = weakened_construct_decides (λ i p. p) (more_earlier t s) x

pub none_past_end : {A : Type 0} {t : List ℕ} {c : Construct A} (s : ℕ) → length t < s → TotalOnward t s c
none_past_end s l = record {
  has = λ i p. (let late = p.late in let inside = p.in_text in absurd (omega arith));
  on =
      record {
        on_read = λ i j a p x. (let late = p.late in let inside = p.in_text in absurd (omega arith));
        on_refused = λ i from to k p x. tt;
      };
}

module _ {A S B : Type 0} (t : List ℕ) (next : S → Construct (More A S)) (add : A → B → B) (none : B) (low : ℕ)
    (h : (s : ℕ) → low ≤ s → (r : S) → TotalConsumingItem t s (next r)) where
  module _ (s : ℕ) (r : S) (l : low ≤ s) (g : (r : S) → TotalOnward t (s + 1) (many next add none r)) where
    list_has_outcome_after_item : (i : ℕ) (x : More A S) (j : ℕ) → next r i (Read x j) → more_on t s x j →
        (o : Outcome B) × many next add none r i o
    list_has_outcome_after_item i no_item j x p = (Read none j, list_ends x)
    list_has_outcome_after_item i (item a q) j x p = rest_of i a q j x ((g q).has j p)
      where
        rest_of : (i : ℕ) (a : A) (q : S) (j : ℕ) → next r i (Read (item a q) j) →
            (o : Outcome B) × many next add none q j o → (o : Outcome B) × many next add none r i o
        rest_of i a q j x (Read b m, y) = (Read (add a b) m, item_and_more x y)
        rest_of i a q j x (Refused k from to, y) = (Refused k from to, stops_later x y)

    list_has_outcome_by_item : (i : ℕ) → From t s i → (o : Outcome (More A S)) × next r i o →
        (o : Outcome B) × many next add none r i o
    list_has_outcome_by_item i p (Read x j, y) = list_has_outcome_after_item i x j y ((h s l r).on.on_read i j x p y)
    list_has_outcome_by_item i p (Refused k from to, y) = (Refused k from to, list_stops y)

    read_list_goes_on : (i j : ℕ) (b : B) → From t s i → many next add none r i (Read b j) → From t s j
    read_list_goes_on i j b p (list_ends x) = (h s l r).on.on_read i j _ p x
    read_list_goes_on i j b p (item_and_more {later = q} {j = m} x y) =
        from_later_is_from_earlier j ((g q).on.on_read m j _ ((h s l r).on.on_read i m _ p x) y)

    list_is_total_onward_by_item : TotalOnward t s (many next add none r)
    list_is_total_onward_by_item = record {
      has = λ i p. list_has_outcome_by_item i p ((h s l r).has i p);
      on = record { on_read = read_list_goes_on; on_refused = λ i from to k p x. tt };
    }

  list_is_total_onward : (m s : ℕ) → low ≤ s → length t < s + m → (r : S) → TotalOnward t s (many next add none r)
  list_is_total_onward zero s l e r = none_past_end s (omega arith)
  list_is_total_onward (suc m) s l e r =
      list_is_total_onward_by_item s r l (λ r. list_is_total_onward m (s + 1) (omega arith) (omega arith) r)

  -- a list whose items go on, by induction on the bytes that are left
  pub many_is_total_onward : (s : ℕ) → low ≤ s → (r : S) → TotalOnward t s (many next add none r)
  many_is_total_onward s l r = list_is_total_onward (length t + 1) s l (omega arith) r
