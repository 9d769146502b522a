-- The logic of constructs: what holds after every reading and of every refusal, from each place of a kind.
use Rattle.std.proofs.Common.{◌≡◌, ℕ, ◌+◌, Bool, true, false, refl}
use Rattle.fluent_syntax_tree.specs.Kind.{Kind}
use Rattle.fluent_syntax_grammar.specs.Construct.{Read, Refused, Construct, ◌>>=◌, stops, goes_on, yields, given, here}
use Rattle.fluent_syntax_grammar.specs.Construct.{at_place, fails, failed, fails_from, failed_from, skip, passed}
use Rattle.fluent_syntax_grammar.specs.Construct.{peek, chosen, branch_on, first, second, More, no_item, item}
use Rattle.fluent_syntax_grammar.specs.Construct.{many, list_ends, list_stops, item_and_more, stops_later}

-- From each place with `pre`, every reading has `read value end`, and every refusal `refused kind from to`.
pub record HoareTriple {A : Type 0} (pre : ℕ → Type 0) (c : Construct A) (read : A → ℕ → Type 0)
    (refused : Kind → ℕ → ℕ → Type 0) : Type 0 where
  pub on_read : (i j : ℕ) (a : A) → pre i → c i (Read a j) → read a j
  pub on_refused : (i from to : ℕ) (k : Kind) → pre i → c i (Refused k from to) → refused k from to

-- less is asked, more is held
pub holds_weaker :
    {A : Type 0} {pre pre' : ℕ → Type 0} {c : Construct A} {read read' : A → ℕ → Type 0}
    {refused refused' : Kind → ℕ → ℕ → Type 0} →
    ((i : ℕ) → pre' i → pre i) → ((a : A) (j : ℕ) → read a j → read' a j) →
    ((k : Kind) (from to : ℕ) → refused k from to → refused' k from to) →
    HoareTriple pre c read refused → HoareTriple pre' c read' refused'
holds_weaker p r f h = record {
  on_read = λ i j a pi x. r a j (h.on_read i j a (p i pi) x);
  on_refused = λ i from to k pi x. f k from to (h.on_refused i from to k (p i pi) x);
}

module _ {A B : Type 0} (pre : ℕ → Type 0) (c : Construct A) (f : A → Construct B) (mid : A → ℕ → Type 0)
    (read : B → ℕ → Type 0) (refused : Kind → ℕ → ℕ → Type 0) (h : HoareTriple pre c mid refused)
    (g : (a : A) → HoareTriple (mid a) (f a) read refused) where
  read_bind_meets_postcondition : (i j : ℕ) (b : B) → pre i → (c >>= f) i (Read b j) → read b j
  read_bind_meets_postcondition i j b p (goes_on {j = m} {a = a} x y) = (g a).on_read m j b (h.on_read i m a p x) y

  refused_bind_meets_postcondition : (i from to : ℕ) (k : Kind) → pre i → (c >>= f) i (Refused k from to) →
      refused k from to
  refused_bind_meets_postcondition i from to k p (stops x) = h.on_refused i from to k p x
  refused_bind_meets_postcondition i from to k p (goes_on {j = m} {a = a} x y) =
      (g a).on_refused m from to k (h.on_read i m a p x) y

-- what holds after the first part is where the second one begins
pub holds_bind :
    {A B : Type 0} {pre : ℕ → Type 0} {c : Construct A} {f : A → Construct B} {mid : A → ℕ → Type 0}
    {read : B → ℕ → Type 0} {refused : Kind → ℕ → ℕ → Type 0} →
    HoareTriple pre c mid refused → ((a : A) → HoareTriple (mid a) (f a) read refused) →
    HoareTriple pre (c >>= f) read refused
holds_bind {pre = pre} {c = c} {f = f} {mid = mid} {read = read} {refused = refused} h g =
    record {
      on_read = read_bind_meets_postcondition pre c f mid read refused h g;
      on_refused =
          refused_bind_meets_postcondition pre c f mid read refused h g;
    }

yields_reads_value : {A : Type 0} (pre : ℕ → Type 0) (a : A) (read : A → ℕ → Type 0) → ((i : ℕ) → pre i → read a i) →
    (i j : ℕ) (b : A) → pre i → yields a i (Read b j) → read b j
yields_reads_value pre a read h i j b p given = h i p

yields_never_refuses : {A : Type 0} (a : A) (X : Type 0) (i from to : ℕ) (k : Kind) → yields a i (Refused k from to) → X
yields_never_refuses a X i from to k x = elim x [ ]

-- what was given is the value, at the same place
pub yields_reads_its_value_in_place : {A : Type 0} (a b : A) (i j : ℕ) → yields a i (Read b j) → (a ≡ b) × (i ≡ j)
yields_reads_its_value_in_place a b i j given = (refl, refl)

pub yields_meets_triple : {A : Type 0} {pre : ℕ → Type 0} {a : A} {read : A → ℕ → Type 0}
    {refused : Kind → ℕ → ℕ → Type 0} →
    ((i : ℕ) → pre i → read a i) → HoareTriple pre (yields a) read refused
yields_meets_triple {pre = pre} {a = a} {read = read} {refused = refused} h =
    record {
      on_read = yields_reads_value pre a read h;
      on_refused = λ i from to k p x. yields_never_refuses a (refused k from to) i from to k x;
    }

here_reads_its_place : (pre : ℕ → Type 0) (read : ℕ → ℕ → Type 0) → ((i : ℕ) → pre i → read i i) → (i j a : ℕ) → pre i →
    here i (Read a j) → read a j
here_reads_its_place pre read h i j a p at_place = h i p

here_is_never_refused : (X : Type 0) (i from to : ℕ) (k : Kind) → here i (Refused k from to) → X
here_is_never_refused X i from to k x = elim x [ ]

pub here_meets_triple : {pre : ℕ → Type 0} {read : ℕ → ℕ → Type 0} {refused : Kind → ℕ → ℕ → Type 0} →
    ((i : ℕ) → pre i → read i i) → HoareTriple pre here read refused
here_meets_triple {pre = pre} {read = read} {refused = refused} h =
    record {
      on_read = here_reads_its_place pre read h;
      on_refused = λ i from to k p x. here_is_never_refused (refused k from to) i from to k x;
    }

fails_never_reads : {A : Type 0} (k : Kind) (X : Type 0) (i j : ℕ) (a : A) → fails k i (Read a j) → X
fails_never_reads k X i j a x = elim x [ ]

fails_refuses_at_its_place : {A : Type 0} (pre : ℕ → Type 0) (k : Kind) (refused : Kind → ℕ → ℕ → Type 0) →
    ((i : ℕ) → pre i → refused k i (i + 1)) → (i from to : ℕ) (l : Kind) → pre i →
    fails {A = A} k i (Refused l from to) → refused l from to
fails_refuses_at_its_place pre k refused h i from to l p (failed e) = rw e (h i p)

pub fails_meets_triple : {A : Type 0} {pre : ℕ → Type 0} {k : Kind} {read : A → ℕ → Type 0}
    {refused : Kind → ℕ → ℕ → Type 0} →
    ((i : ℕ) → pre i → refused k i (i + 1)) → HoareTriple pre (fails k) read refused
fails_meets_triple {pre = pre} {k = k} {read = read} {refused = refused} h =
    record {
      on_read = λ i j a p x. fails_never_reads k (read a j) i j a x;
      on_refused =
          fails_refuses_at_its_place pre k refused h;
    }

fails_from_reads_nothing : {A : Type 0} (k : Kind) (start : ℕ) (X : Type 0) (i j : ℕ) (a : A) →
    fails_from k start i (Read a j) → X
fails_from_reads_nothing k start X i j a x = elim x [ ]

fails_from_refuses_there : {A : Type 0} (pre : ℕ → Type 0) (k : Kind) (start : ℕ) (refused : Kind → ℕ → ℕ → Type 0) →
    ((i : ℕ) → pre i → refused k start i) → (i from to : ℕ) (l : Kind) → pre i →
    fails_from {A = A} k start i (Refused l from to) → refused l from to
fails_from_refuses_there pre k start refused h i from to l p failed_from = h i p

pub holds_fails_from :
    {A : Type 0} {pre : ℕ → Type 0} {k : Kind} {start : ℕ} {read : A → ℕ → Type 0} {refused : Kind → ℕ → ℕ → Type 0} →
    ((i : ℕ) → pre i → refused k start i) → HoareTriple pre (fails_from k start) read refused
holds_fails_from {pre = pre} {k = k} {start = start} {read = read} {refused = refused} h =
    record {
      on_read = λ i j a p x. fails_from_reads_nothing k start (read a j) i j a x;
      on_refused = fails_from_refuses_there pre k start refused h;
    }

skip_reads_to_its_end : (pre : ℕ → Type 0) (W : ℕ → ℕ → Type 0) (read : Unit {0} → ℕ → Type 0) →
    ((i j : ℕ) → pre i → W i j → read tt j) → (i j : ℕ) (a : Unit {0}) → pre i → skip W i (Read a j) → read a j
skip_reads_to_its_end pre W read h i j a p (passed w) = h i j p w

skip_is_never_refused : (W : ℕ → ℕ → Type 0) (X : Type 0) (i from to : ℕ) (k : Kind) → skip W i (Refused k from to) → X
skip_is_never_refused W X i from to k x = elim x [ ]

pub holds_skip :
    {pre : ℕ → Type 0} {W : ℕ → ℕ → Type 0} {read : Unit {0} → ℕ → Type 0} {refused : Kind → ℕ → ℕ → Type 0} →
    ((i j : ℕ) → pre i → W i j → read tt j) → HoareTriple pre (skip W) read refused
holds_skip {pre = pre} {W = W} {read = read} {refused = refused} h =
    record {
      on_read = skip_reads_to_its_end pre W read h;
      on_refused = λ i from to k p x. skip_is_never_refused W (refused k from to) i from to k x;
    }

module _ {A B : Type 0} (pre : ℕ → Type 0) (look : ℕ → A) (part : A → Construct B) (read : B → ℕ → Type 0)
    (refused : Kind → ℕ → ℕ → Type 0) (h : (a : A) →
    HoareTriple (λ i. pre i × (look i ≡ a)) (part a) read refused) where
  read_peek_meets_postcondition : (i j : ℕ) (b : B) → pre i → peek look part i (Read b j) → read b j
  read_peek_meets_postcondition i j b p (chosen x) = (h (look i)).on_read i j b (p, refl) x

  refused_peek_meets_postcondition : (i from to : ℕ) (k : Kind) → pre i → peek look part i (Refused k from to) →
      refused k from to
  refused_peek_meets_postcondition i from to k p (chosen x) = (h (look i)).on_refused i from to k (p, refl) x

-- a part is read where it was chosen
pub holds_peek :
    {A B : Type 0} {pre : ℕ → Type 0} {look : ℕ → A} {part : A → Construct B} {read : B → ℕ → Type 0}
    {refused : Kind → ℕ → ℕ → Type 0} →
    ((a : A) → HoareTriple (λ i. pre i × (look i ≡ a)) (part a) read refused) →
    HoareTriple pre (peek look part) read refused
holds_peek {pre = pre} {look = look} {part = part} {read = read} {refused = refused} h =
    record {
      on_read = read_peek_meets_postcondition pre look part read refused h;
      on_refused = refused_peek_meets_postcondition pre look part read refused h;
    }

module _ {A : Type 0} (pre : ℕ → Type 0) (test : Bool) (yes no : Construct A) (read : A → ℕ → Type 0)
    (refused : Kind → ℕ → ℕ → Type 0) (h : test ≡ true → HoareTriple pre yes read refused)
    (g : test ≡ false → HoareTriple pre no read refused) where
  branch_on_read : (i j : ℕ) (a : A) → pre i → branch_on test yes no i (Read a j) → read a j
  branch_on_read i j a p (first e x) = (h e).on_read i j a p x
  branch_on_read i j a p (second e x) = (g e).on_read i j a p x

  branch_on_refused : (i from to : ℕ) (k : Kind) → pre i → branch_on test yes no i (Refused k from to) →
      refused k from to
  branch_on_refused i from to k p (first e x) = (h e).on_refused i from to k p x
  branch_on_refused i from to k p (second e x) = (g e).on_refused i from to k p x

pub holds_branch_on :
    {A : Type 0} {pre : ℕ → Type 0} {test : Bool} {yes no : Construct A} {read : A → ℕ → Type 0}
    {refused : Kind → ℕ → ℕ → Type 0} →
    (test ≡ true → HoareTriple pre yes read refused) → (test ≡ false → HoareTriple pre no read refused) →
    HoareTriple pre (branch_on test yes no) read refused
holds_branch_on {pre = pre} {test = test} {yes = c} {no = d} {read = read} {refused = refused} h g =
    record {
      on_read = branch_on_read pre test c d read refused h g;
      on_refused = branch_on_refused pre test c d read refused h g;
    }

module _ {A S B : Type 0} (next : S → Construct (More A S)) (add : A → B → B) (none : B) (pre : S → ℕ → Type 0)
    (after : More A S → ℕ → Type 0) (read : B → ℕ → Type 0) (refused : Kind → ℕ → ℕ → Type 0)
    (h : (s : S) → HoareTriple (pre s) (next s) after refused) (at_end : (i : ℕ) → after no_item i → read none i)
    (goes : (a : A) (s : S) (i : ℕ) → after (item a s) i → pre s i)
    (adds : (a : A) (s : S) (i j : ℕ) (b : B) → after (item a s) i → read b j → read (add a b) j) where
  read_many_meets_postcondition : (s : S) (i j : ℕ) (b : B) → pre s i → many next add none s i (Read b j) → read b j
  read_many_meets_postcondition s i j b p (list_ends x) = at_end j ((h s).on_read i j _ p x)
  read_many_meets_postcondition s i j b p (item_and_more {later = r} {j = m} {a = a} x y) = let q =
      (h s).on_read i m _ p x in
      adds a r m j _ q (read_many_meets_postcondition r m j _ (goes a r m q) y)

  refused_many_meets_postcondition : (s : S) (i from to : ℕ) (k : Kind) → pre s i →
      many next add none s i (Refused k from to) →
      refused k from to
  refused_many_meets_postcondition s i from to k p (list_stops x) = (h s).on_refused i from to k p x
  refused_many_meets_postcondition s i from to k p (stops_later {later = r} {j = m} {a = a} x y) =
      refused_many_meets_postcondition r m from to k (goes a r m ((h s).on_read i m _ p x)) y

-- what holds after an item is where the next one begins, and an item is added to what holds of the rest
pub holds_many :
    {A S B : Type 0} {next : S → Construct (More A S)} {add : A → B → B} {none : B} {pre : S → ℕ → Type 0}
    {after : More A S → ℕ → Type 0} {read : B → ℕ → Type 0} {refused : Kind → ℕ → ℕ → Type 0} {s : S} →
    ((s : S) → HoareTriple (pre s) (next s) after refused) → ((i : ℕ) → after no_item i → read none i) →
    ((a : A) (s : S) (i : ℕ) → after (item a s) i → pre s i) →
    ((a : A) (s : S) (i j : ℕ) (b : B) → after (item a s) i → read b j → read (add a b) j) →
    HoareTriple (pre s) (many next add none s) read refused
holds_many {next = next} {add = add} {none = none} {pre = pre} {after = after} {read = read} {refused = refused} {s = s}
    h e g a =
    record {
      on_read = read_many_meets_postcondition next add none pre after read refused h e g a s;
      on_refused = refused_many_meets_postcondition next add none pre after read refused h e g a s;
    }
