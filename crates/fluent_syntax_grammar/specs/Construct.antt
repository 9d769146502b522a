-- What may come of reading a construct at a place, and how constructs are made of parts.
-- Reading and refusing are one relation with two outcomes.
use Rattle.std.specs.Prelude.{◌≡◌, ℕ, ◌+◌, List, [], ◌∷◌, Bool, true, false}
use Rattle.fluent_syntax_tree.specs.Kind.{Kind}

-- It is read and spells a value, and ends at the place; or it is refused, for a kind of fault, from the one place to
-- the other.
pub data Outcome (A : Type 0) : Type 0 where
  Read : A → (end : ℕ) → Outcome A
  Refused : Kind → (from to : ℕ) → Outcome A

-- A construct says, for each place, what may come of reading it there.
abbrev pub Construct : Type 0 → Type 1
Construct A = ℕ → Outcome A → Type 0

-- Two parts, one after the other: the second begins where the first ended. The first refusal met is the construct's.
infixl 10 ◌>>=◌
pub data ◌>>=◌ {A B : Type 0} (first : Construct A) (next : A → Construct B) : ℕ → Outcome B → Type 0 where
  stops : {i from to : ℕ} {k : Kind} → first i (Refused k from to) → (first >>= next) i (Refused k from to)
  goes_on : {i j : ℕ} {a : A} {o : Outcome B} → first i (Read a j) → next a j o → (first >>= next) i o

-- the same, where what the first part spells is not needed
infixl 10 ◌>>◌
abbrev pub ◌>>◌ : {A B : Type 0} → Construct A → Construct B → Construct B
c >> d = c >>= λ _. d

-- Nothing is passed over, and it spells the value.
pub data yields {A : Type 0} (a : A) : ℕ → Outcome A → Type 0 where
  given : {i : ℕ} → yields a i (Read a i)

-- Nothing is passed over, and it spells the place itself.
pub data here : ℕ → Outcome ℕ → Type 0 where
  at_place : {i : ℕ} → here i (Read i i)

-- It is refused at the place: from there to the next place.
pub data fails {A : Type 0} (k : Kind) : ℕ → Outcome A → Type 0 where
  failed : {i to : ℕ} → to ≡ i + 1 → fails k i (Refused k i to)

-- It is refused from an earlier place up to this one.
pub data fails_from {A : Type 0} (k : Kind) (from : ℕ) : ℕ → Outcome A → Type 0 where
  failed_from : {i : ℕ} → fails_from k from i (Refused k from i)

-- What the relation between two places allows is passed over.
pub data skip (W : ℕ → ℕ → Type 0) : ℕ → Outcome (Unit {0}) → Type 0 where
  passed : {i j : ℕ} → W i j → skip W i (Read tt j)

-- What is seen at the place chooses the part.
pub data peek {A B : Type 0} (look : ℕ → A) (part : A → Construct B) : ℕ → Outcome B → Type 0 where
  chosen : {i : ℕ} {o : Outcome B} → part (look i) i o → peek look part i o

-- the first construct where the test passed, and else the second
pub data branch_on {A : Type 0} (test : Bool) (yes no : Construct A) : ℕ → Outcome A → Type 0 where
  first : {i : ℕ} {o : Outcome A} → test ≡ true → yes i o → branch_on test yes no i o
  second : {i : ℕ} {o : Outcome A} → test ≡ false → no i o → branch_on test yes no i o

-- Where a list may go on: its end, or one more item, and with it the state by which the next ones are read.
pub data More (A S : Type 0) : Type 0 where
  no_item : More A S
  item : A → S → More A S

module _ {A S B : Type 0} (next : S → Construct (More A S)) (add : A → B → B) (none : B) where
  -- A list from a state on: one item after the other, up to where `next` finds no more. `add` puts an item before
  -- those that follow it, and `none` is the list of no items. The first refusal met is the list's.
  pub data many : S → ℕ → Outcome B → Type 0 where
    list_ends : {s : S} {i j : ℕ} → next s i (Read no_item j) → many s i (Read none j)
    list_stops : {s : S} {i from to : ℕ} {k : Kind} → next s i (Refused k from to) → many s i (Refused k from to)
    item_and_more : {s later : S} {i j end : ℕ} {a : A} {rest : B} → next s i (Read (item a later) j) →
        many later j (Read rest end) → many s i (Read (add a rest) end)
    stops_later : {s later : S} {i j from to : ℕ} {a : A} {k : Kind} → next s i (Read (item a later) j) →
        many later j (Refused k from to) → many s i (Refused k from to)

-- A plain list, each item of which is read in the same way.
abbrev pub list_of : {A : Type 0} → Construct (More A (Unit {0})) → Construct (List A)
list_of next = many (λ u. next) (λ a rest. a ∷ rest) [] tt
