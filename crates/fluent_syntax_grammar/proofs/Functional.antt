-- At each place a construct of parts has at most one outcome, if its parts have.
use Rattle.std.proofs.Common.{◌≡◌, ℕ, Bool, refl, sym, ◌∙◌, subst, arith}
use Rattle.fluent_syntax_grammar.specs.Places.{LongestRun, Steps, JumpsTo, BlankBlock, no_line, line}
use Rattle.std.proofs.Common.{List}
use Rattle.fluent_syntax_tree.specs.Kind.{Kind}
use Rattle.fluent_syntax_grammar.specs.Construct.{Outcome, Read, Refused, Construct, ◌>>=◌, stops, goes_on, yields}
use Rattle.fluent_syntax_grammar.specs.Construct.{given, here, at_place, fails, failed, fails_from, failed_from, skip}
use Rattle.fluent_syntax_grammar.specs.Construct.{passed, peek, chosen, branch_on, first, second, More, many, list_ends}
use Rattle.fluent_syntax_grammar.specs.Construct.{list_stops, item_and_more, stops_later}
use Rattle.fluent_syntax_grammar.specs.UniqueReading.{IsFunctional}

-- the relation leads from each place to one place at most
pub record IsFunctionalRelation (W : ℕ → ℕ → Type 0) : Type 0 where
  pub same : (i j k : ℕ) → W i j → W i k → j ≡ k

bind_unique : {A B : Type 0} (c : Construct A) (f : A → Construct B) → IsFunctional c → ((a : A) → IsFunctional (f a)) →
    (i : ℕ) (o p : Outcome B) → (c >>= f) i o → (c >>= f) i p → o ≡ p
bind_unique c f cf ff i o p (stops r) (stops s) = let e = cf.same i _ _ r s in cc
bind_unique c f cf ff i o p (stops r) (goes_on x y) = let e = cf.same i _ _ r x in cc
bind_unique c f cf ff i o p (goes_on x y) (stops r) = let e = cf.same i _ _ r x in cc
bind_unique c f cf ff i o p (goes_on {j = j} {a = a} x y) (goes_on {j = k} {a = b} z w) =
    let e = cf.same i _ _ x z in
    let same_a : a ≡ b = cc in
    let same_j : j ≡ k = cc in
    (ff a).same j o p y (subst (λ b. f b j p) (sym same_a) (subst (λ k. f b k p) (sym same_j) w))

pub bind_is_functional : {A B : Type 0} {c : Construct A} {f : A → Construct B} → IsFunctional c →
    ((a : A) → IsFunctional (f a)) → IsFunctional (c >>= f)
bind_is_functional {c = c} {f = f} cf ff = record { same = bind_unique c f cf ff }

yields_unique : {A : Type 0} (a : A) (i : ℕ) (o p : Outcome A) → yields a i o → yields a i p → o ≡ p
yields_unique a i o p given given = refl

pub yields_is_functional : {A : Type 0} {a : A} → IsFunctional (yields a)
yields_is_functional {a = a} = record { same = yields_unique a }

here_unique : (i : ℕ) (o p : Outcome ℕ) → here i o → here i p → o ≡ p
here_unique i o p at_place at_place = refl

pub here_is_functional : IsFunctional here
here_is_functional = record { same = here_unique }

fails_unique : {A : Type 0} (k : Kind) (i : ℕ) (o p : Outcome A) → fails k i o → fails k i p → o ≡ p
fails_unique k i o p (failed e) (failed f) = cc

pub fails_is_functional : {A : Type 0} {k : Kind} → IsFunctional (fails {A = A} k)
fails_is_functional {k = k} = record { same = fails_unique k }

fails_from_unique : {A : Type 0} (k : Kind) (from i : ℕ) (o p : Outcome A) → fails_from k from i o →
    fails_from k from i p → o ≡ p
fails_from_unique k from i o p failed_from failed_from = refl

pub fails_from_is_functional : {A : Type 0} {k : Kind} {from : ℕ} → IsFunctional (fails_from {A = A} k from)
fails_from_is_functional {k = k} {from = from} = record { same = fails_from_unique k from }

skip_unique : (W : ℕ → ℕ → Type 0) → IsFunctionalRelation W → (i : ℕ) (o p : Outcome (Unit {0})) → skip W i o →
    skip W i p → o ≡ p
skip_unique W single i o p (passed x) (passed y) = let e = single.same i _ _ x y in cc

pub skip_is_functional : {W : ℕ → ℕ → Type 0} → IsFunctionalRelation W → IsFunctional (skip W)
skip_is_functional {W = W} single = record { same = skip_unique W single }

peek_unique : {A B : Type 0} (look : ℕ → A) (part : A → Construct B) → ((a : A) → IsFunctional (part a)) →
    (i : ℕ) (o p : Outcome B) → peek look part i o → peek look part i p → o ≡ p
peek_unique look part f i o p (chosen x) (chosen y) = (f (look i)).same i o p x y

pub peek_is_functional : {A B : Type 0} {look : ℕ → A} {part : A → Construct B} → ((a : A) → IsFunctional (part a)) →
    IsFunctional (peek look part)
peek_is_functional {look = look} {part = part} f = record { same = peek_unique look part f }

branch_on_unique : {A : Type 0} (b : Bool) (c d : Construct A) → IsFunctional c → IsFunctional d →
    (i : ℕ) (o p : Outcome A) → branch_on b c d i o → branch_on b c d i p → o ≡ p
branch_on_unique b c d cf df i o p (first e x) (first f y) = cf.same i o p x y
branch_on_unique b c d cf df i o p (first e x) (second f y) = cc
branch_on_unique b c d cf df i o p (second e x) (first f y) = cc
branch_on_unique b c d cf df i o p (second e x) (second f y) = df.same i o p x y

pub branch_on_is_functional : {A : Type 0} {b : Bool} {c d : Construct A} → IsFunctional c → IsFunctional d →
    IsFunctional (branch_on b c d)
branch_on_is_functional {b = b} {c = c} {d = d} cf df = record { same = branch_on_unique b c d cf df }

module _ {A S B : Type 0} (next : S → Construct (More A S)) (add : A → B → B) (none : B)
    (f : (s : S) → IsFunctional (next s)) where
  many_at_equal_places_is_same : (q r : S) (k j : ℕ) (o : Outcome B) → q ≡ r → k ≡ j → many next add none q k o →
      many next add none r j o
  many_at_equal_places_is_same q r k j o e f x =
      subst (λ r. many next add none r j o) e (subst (λ j. many next add none q j o) f x)

  many_unique : (s : S) (i : ℕ) (o p : Outcome B) → many next add none s i o → many next add none s i p → o ≡ p
  many_unique s i o p (list_ends x) (list_ends y) = let e = (f s).same i _ _ x y in cc
  many_unique s i o p (list_ends x) (list_stops y) = let e = (f s).same i _ _ x y in cc
  many_unique s i o p (list_ends x) (item_and_more y z) = let e = (f s).same i _ _ x y in cc
  many_unique s i o p (list_ends x) (stops_later y z) = let e = (f s).same i _ _ x y in cc
  many_unique s i o p (list_stops x) (list_ends y) = let e = (f s).same i _ _ x y in cc
  many_unique s i o p (list_stops x) (list_stops y) = let e = (f s).same i _ _ x y in cc
  many_unique s i o p (list_stops x) (item_and_more y z) = let e = (f s).same i _ _ x y in cc
  many_unique s i o p (list_stops x) (stops_later y z) = let e = (f s).same i _ _ x y in cc
  many_unique s i o p (item_and_more x y) (list_ends z) = let e = (f s).same i _ _ x z in cc
  many_unique s i o p (item_and_more x y) (list_stops z) = let e = (f s).same i _ _ x z in cc
  many_unique s i o p (item_and_more {later = r} {j = j} {end = m} {rest = xs} x y)
      (item_and_more {later = q} {j = h} {end = u} {rest = ys} z w) =
      let e = (f s).same i _ _ x z in
      let same_r : q ≡ r = cc in
      let same_j : h ≡ j = cc in
      let same : Read xs m ≡ Read ys u =
      many_unique r j _ _ y (many_at_equal_places_is_same q r h j _ same_r same_j w) in cc
  many_unique s i o p (item_and_more {later = r} {j = j} {end = m} {rest = xs} x y)
      (stops_later {later = q} {j = h} {from = u} {to = v} {k = l} z w) =
      let e = (f s).same i _ _ x z in
      let same_r : q ≡ r = cc in
      let same_j : h ≡ j = cc in
      let same : Read xs m ≡ Refused l u v =
      many_unique r j _ _ y (many_at_equal_places_is_same q r h j _ same_r same_j w) in cc
  many_unique s i o p (stops_later x y) (list_ends z) = let e = (f s).same i _ _ x z in cc
  many_unique s i o p (stops_later x y) (list_stops z) = let e = (f s).same i _ _ x z in cc
  many_unique s i o p (stops_later {later = r} {j = j} {from = m} {to = n} {k = k} x y)
      (item_and_more {later = q} {j = h} {end = u} {rest = ys} z w) =
      let e = (f s).same i _ _ x z in
      let same_r : q ≡ r = cc in
      let same_j : h ≡ j = cc in
      let same : Refused k m n ≡ Read ys u =
      many_unique r j _ _ y (many_at_equal_places_is_same q r h j _ same_r same_j w) in cc
  many_unique s i o p (stops_later {later = r} {j = j} {from = m} {to = n} {k = k} x y)
      (stops_later {later = q} {j = h} {from = u} {to = v} {k = l} z w) =
      let e = (f s).same i _ _ x z in
      let same_r : q ≡ r = cc in
      let same_j : h ≡ j = cc in
      let same : Refused k m n ≡ Refused l u v =
      many_unique r j _ _ y (many_at_equal_places_is_same q r h j _ same_r same_j w) in cc

pub many_is_functional : {A S B : Type 0} {next : S → Construct (More A S)} {add : A → B → B} {none : B} {s : S} →
    ((s : S) → IsFunctional (next s)) → IsFunctional (many next add none s)
many_is_functional {next = next} {add = add} {none = none} {s = s} f =
    record { same = many_unique next add none f s }

-- ---- longest words

longest_run_unique : (test : ℕ → Bool) (i j k : ℕ) → LongestRun test i j → LongestRun test i k → j ≡ k
longest_run_unique test i j k a b = grind (arith, a.each k b.forward, b.each j a.forward, a.longest, b.longest)

pub longest_run_is_functional : {test : ℕ → Bool} → IsFunctionalRelation (LongestRun test)
longest_run_is_functional {test = test} = record { same = longest_run_unique test }

steps_unique : (n i j k : ℕ) → Steps n i j → Steps n i k → j ≡ k
steps_unique n i j k a b = a.by ∙ sym b.by

pub steps_is_functional : {n : ℕ} → IsFunctionalRelation (Steps n)
steps_is_functional {n = n} = record { same = steps_unique n }

jumps_to_unique : (n i j k : ℕ) → JumpsTo n i j → JumpsTo n i k → j ≡ k
jumps_to_unique n i j k a b = a.there ∙ sym b.there

pub jumps_to_is_functional : {n : ℕ} → IsFunctionalRelation (JumpsTo n)
jumps_to_is_functional {n = n} = record { same = jumps_to_unique n }

blank_block_end_is_unique : (t : List ℕ) (i j k : ℕ) → BlankBlock t i j → BlankBlock t i k → j ≡ k
blank_block_end_is_unique t i j k (no_line a b) (no_line c d) = refl
blank_block_end_is_unique t i j k (no_line a b) (line c d e) = let h = longest_run_is_functional.same i _ _ a c in cc
blank_block_end_is_unique t i j k (line a b c) (no_line d e) = let h = longest_run_is_functional.same i _ _ a d in cc
blank_block_end_is_unique t i j k (line {m = m} a b c) (line {m = n} d e f) =
    let h = longest_run_is_functional.same i _ _ a d in
    let same_m : m ≡ n = cc in
    blank_block_end_is_unique t m j k c (subst (λ n. BlankBlock t n k) (sym same_m) f)

pub blank_block_ends_at_one_place : {t : List ℕ} → IsFunctionalRelation (BlankBlock t)
blank_block_ends_at_one_place {t = t} = record { same = blank_block_end_is_unique t }

pub ruleset functional = (
  bind_is_functional,
  yields_is_functional,
  here_is_functional,
  fails_is_functional,
  fails_from_is_functional,
  skip_is_functional,
  peek_is_functional,
  branch_on_is_functional,
  many_is_functional,
  longest_run_is_functional,
  steps_is_functional,
  jumps_to_is_functional,
  blank_block_ends_at_one_place,
)
