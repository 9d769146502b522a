-- What holds of every construct: it does not go back, it stays in the text at places of a kind, and its faults mean
-- what their kinds say.
use Rattle.std.proofs.Common.{◌≡◌, ℕ, ◌+◌, ◌≤◌, List, length, Option, Some, None, Bool, true, false, refl, sym, subst}
use Rattle.std.proofs.Common.{arith}
use Rattle.fluent_syntax_tree.specs.Kind.{Kind, ExpectedMessageField, ExpectedTermField}
use Rattle.fluent_syntax_grammar.specs.Places.{LongestRun, after_eol, ByteRun, Blank, BlankBlock, is_line_place}
use Rattle.fluent_syntax_grammar.specs.Lines.{is_run_place}
use Rattle.fluent_syntax_grammar.specs.Construct.{Read, Refused, Construct, ◌>>=◌, stops, goes_on, yields, here}
use Rattle.fluent_syntax_grammar.specs.Construct.{at_place, fails, skip, peek, branch_on, More, no_item, item, many}
use Rattle.fluent_syntax_grammar.specs.Tokens.{spanned, inline_blank, blank, blank_block, past_eol, optional_eol}
use Rattle.fluent_syntax_grammar.specs.Tokens.{rest_of_line}
use Rattle.fluent_syntax_grammar.specs.Meaning.{kind_means}
use Rattle.fluent_syntax_tree.specs.declared.spans.Span.{Span}
use Rattle.fluent_syntax_grammar.proofs.HoareTriple.{HoareTriple, holds_weaker, holds_bind, yields_meets_triple}
use Rattle.fluent_syntax_grammar.proofs.HoareTriple.{fails_meets_triple}
use Rattle.fluent_syntax_grammar.proofs.HoareTriple.{holds_skip, holds_peek, holds_branch_on, holds_many}
use Rattle.fluent_syntax_grammar.proofs.Cuts.{AreBoundaries, IsAsciiSet, space_is_ascii_set, byte_run_ends_at_boundary}
use Rattle.fluent_syntax_grammar.proofs.Cuts.{blank_ends_at_boundary}
use Rattle.fluent_syntax_grammar.proofs.Cuts.{end_of_block_is_place, block_goes_on, eol_goes_on, eol_ends_at_boundary}
use Rattle.fluent_syntax_grammar.proofs.Cuts.{line_run_ends_at_boundary, text_run_ends_at_boundary}

-- an ordered range between two places of the kind
abbrev pub IsSpan : (ℕ → Type 0) → Span → Type 0
IsSpan P span = (span.start ≤ span.end) × P span.start × P span.end

-- a place of the kind that is not before s
pub record Inside (P : ℕ → Type 0) (s i : ℕ) : Type 0 where
  pub late : s ≤ i
  pub place : P i

-- what is read ends at a place of the kind that is not before s, and its value is good
pub record Ended {A : Type 0} (P : ℕ → Type 0) (s : ℕ) (Good : A → Type 0) (a : A) (j : ℕ) : Type 0 where
  pub late : s ≤ j
  pub place : P j
  pub good : Good a

-- a kind that no message and no term lacks its field by
abbrev pub IsPlain : Kind → Type 0
IsPlain (ExpectedMessageField id) = ⊥
IsPlain (ExpectedTermField id) = ⊥
IsPlain k = Unit {0}

-- a fault's place is one byte, not before s and not past the text's end, and its kind means what it says
pub record IsFault (t : List ℕ) (s : ℕ) (k : Kind) (from to : ℕ) : Type 0 where
  pub late : s ≤ from
  pub in_text : from ≤ length t
  pub one : to ≡ from + 1
  pub plain : IsPlain k
  pub means : kind_means t k from

-- The construct is sound from the place s on, and every value that it spells is good.
pub record Sound {A : Type 0} (t : List ℕ) (P : ℕ → Type 0) (s : ℕ) (c : Construct A) (Good : A → Type 0) : Type 0 where
  pub holds : HoareTriple (Inside P s) c (Ended P s Good) (IsFault t s)

-- a relation between places that leads on to places of the kind
pub record IsOnward (P : ℕ → Type 0) (W : ℕ → ℕ → Type 0) : Type 0 where
  pub forward : (i j : ℕ) → W i j → i ≤ j
  pub place : (i j : ℕ) → P i → W i j → P j

ended_from_earlier_start : {A : Type 0} {P : ℕ → Type 0} {Good : A → Type 0} (s m : ℕ) → s ≤ m → (a : A) (j : ℕ) →
    Ended P m Good a j → Ended P s Good a j
ended_from_earlier_start s m l a j e = let f = e.late in record { late = omega arith; place = e.place; good = e.good }

pub fault_holds_of_earlier_start : {t : List ℕ} (s m : ℕ) → s ≤ m → (k : Kind) (from to : ℕ) → IsFault t m k from to →
    IsFault t s k from to
fault_holds_of_earlier_start s m l k from to e = let f = e.late in
    record { late = omega arith; in_text = e.in_text; one = e.one; plain = e.plain; means = e.means }

here_part_is_read : {B : Type 0} (t : List ℕ) (P : ℕ → Type 0) (s : ℕ) (Good : B → Type 0) (f : ℕ → Construct B) →
    ((m : ℕ) → Inside P s m → Sound t P m (f m) Good) → (i j : ℕ) (b : B) → Inside P s i → (here >>= f) i (Read b j) →
    Ended P s Good b j
here_part_is_read t P s Good f g i j b p (goes_on at_place y) =
    ended_from_earlier_start {Good = Good} s i p.late b j
    ((g i p).holds.on_read i j b (record { late = omega arith; place = p.place }) y)

refused_part_after_here_has_fault : {B : Type 0} (t : List ℕ) (P : ℕ → Type 0) (s : ℕ) (Good : B → Type 0)
    (f : ℕ → Construct B) →
    ((m : ℕ) → Inside P s m → Sound t P m (f m) Good) → (i from to : ℕ) (k : Kind) → Inside P s i →
    (here >>= f) i (Refused k from to) → IsFault t s k from to
refused_part_after_here_has_fault t P s Good f g i from to k p (stops x) = elim x [ ]
refused_part_after_here_has_fault t P s Good f g i from to k p (goes_on at_place y) =
    fault_holds_of_earlier_start s i p.late k from to
    ((g i p).holds.on_refused i from to k (record { late = omega arith; place = p.place }) y)

module _ {t : List ℕ} {P : ℕ → Type 0} {s : ℕ} where
  pub part_is_sound_after_good_value : {A B : Type 0} {Mid : A → Type 0} {Good : B → Type 0} {a : A} {c : Construct B} →
      (Mid a → Sound t P s c Good) → HoareTriple (Ended P s Mid a) c (Ended P s Good) (IsFault t s)
  part_is_sound_after_good_value f = record {
    on_read = λ i j b p x. (f p.good).holds.on_read i j b (record { late = p.late; place = p.place }) x;
    on_refused =
        λ i from to k p x. (f p.good).holds.on_refused i from to k (record { late = p.late; place = p.place }) x;
  }

  pub bind_is_sound : {A B : Type 0} {Mid : A → Type 0} {Good : B → Type 0} {c : Construct A} {f : A → Construct B} →
      Sound t P s c Mid → ((a : A) → Mid a → Sound t P s (f a) Good) → Sound t P s (c >>= f) Good
  bind_is_sound {Mid = Mid} x g =
      record { holds = holds_bind x.holds (λ a. part_is_sound_after_good_value {Mid = Mid} (g a)) }

  pub yields_is_sound : {A : Type 0} {Good : A → Type 0} {a : A} → Good a → Sound t P s (yields a) Good
  yields_is_sound g =
      record { holds = yields_meets_triple (λ i p. record { late = p.late; place = p.place; good = g }) }

  pub fails_is_sound : {A : Type 0} {Good : A → Type 0} {k : Kind} → ((i : ℕ) → P i → i ≤ length t) → IsPlain k →
      ((i : ℕ) → kind_means t k i) → Sound t P s (fails k) Good
  fails_is_sound inside plain m =
      record {
        holds =
            fails_meets_triple (λ i p.
            record { late = p.late; in_text = inside i p.place; one = refl; plain = plain; means = m i });
      }

  pub skip_is_sound : {W : ℕ → ℕ → Type 0} → IsOnward P W → Sound t P s (skip W) (λ u. Unit {0})
  skip_is_sound w =
      record {
        holds =
            holds_skip (λ i j p x. let f = w.forward i j x in let l = p.late in
            record { late = omega arith; place = w.place i j p.place x; good = tt });
      }

  pub peek_is_sound : {A B : Type 0} {Good : B → Type 0} {look : ℕ → A} {part : A → Construct B} →
      ((a : A) → Sound t P s (part a) Good) → Sound t P s (peek look part) Good
  peek_is_sound g =
      record { holds = holds_peek (λ a. holds_weaker (λ i p. p.0) (λ b j e. e) (λ k from to e. e) (g a).holds) }

  pub branch_on_is_sound : {A : Type 0} {Good : A → Type 0} {test : Bool} {c d : Construct A} →
      (test ≡ true → Sound t P s c Good) → (test ≡ false → Sound t P s d Good) → Sound t P s (branch_on test c d) Good
  branch_on_is_sound g h = record { holds = holds_branch_on (λ e. (g e).holds) (λ e. (h e).holds) }

  -- after a place, what follows goes on from it
  pub here_is_sound : {B : Type 0} {Good : B → Type 0} {f : ℕ → Construct B} →
      ((m : ℕ) → Inside P s m → Sound t P m (f m) Good) → Sound t P s (here >>= f) Good
  here_is_sound {Good = Good} {f = f} g =
      record {
        holds = record {
          on_read = here_part_is_read t P s Good f g;
          on_refused =
              refused_part_after_here_has_fault t P s Good f g;
        };
      }

-- what is good of a list's item, where there is one
abbrev pub good_more : {A S : Type 0} → (A → Type 0) → More A S → Type 0
good_more Good no_item = Unit {0}
good_more Good (item a s) = Good a

pub many_is_sound :
    {A S B : Type 0} {t : List ℕ} {P : ℕ → Type 0} {s : ℕ} {next : S → Construct (More A S)} {add : A → B → B}
    {none : B}
    {r : S} {Good : A → Type 0} {All : B → Type 0} → ((r : S) → Sound t P s (next r) (good_more Good)) → All none →
    ((a : A) (b : B) → Good a → All b → All (add a b)) → Sound t P s (many next add none r) All
many_is_sound {Good = Good} h e g =
    record {
      holds = holds_many (λ r. (h r).holds) (λ i p. record { late = p.late; place = p.place; good = e })
          (λ a r i p. record { late = p.late; place = p.place })
          (λ a r i j b p q. record { late = q.late; place = q.place; good = g a b p.good q.good });
    }

-- the text from an earlier place to here
pub spanned_is_sound : {t : List ℕ} {P : ℕ → Type 0} {s : ℕ} → P s → Sound t P s (spanned s) (IsSpan P)
spanned_is_sound p = here_is_sound (λ m q. yields_is_sound (q.late, p, q.place))

module _ (t : List ℕ) (P : ℕ → Type 0) (cuts : AreBoundaries t P) where
  pub word_is_onward : {set : ℕ → Bool} → IsAsciiSet set → IsOnward P (ByteRun t set)
  word_is_onward {set = set} a =
      record { forward = λ i j w. w.forward; place = λ i j p w. byte_run_ends_at_boundary t P cuts set a i j p w }

  pub blank_is_onward : IsOnward P (Blank t)
  blank_is_onward = record { forward = λ i j w. w.forward; place = λ i j p w. blank_ends_at_boundary t P cuts i j p w }

  pub block_is_onward : IsOnward P (BlankBlock t)
  block_is_onward =
      record { forward = λ i j w. block_goes_on t i j w; place = λ i j p w. end_of_block_is_place t P cuts i j p w }

  pub line_is_onward : IsOnward P (LongestRun (is_line_place t))
  line_is_onward =
      record { forward = λ i j w. w.forward; place = λ i j p w. line_run_ends_at_boundary t P cuts i j p w }

  pub run_is_onward : IsOnward P (LongestRun (is_run_place t))
  run_is_onward = record { forward = λ i j w. w.forward; place = λ i j p w. text_run_ends_at_boundary t P cuts i j p w }

  pub inline_blank_is_sound : {s : ℕ} → Sound t P s (inline_blank t) (λ u. Unit {0})
  inline_blank_is_sound = skip_is_sound (word_is_onward space_is_ascii_set)

  pub blank_is_sound : {s : ℕ} → Sound t P s (blank t) (λ u. Unit {0})
  blank_is_sound = skip_is_sound blank_is_onward

  pub blank_block_is_sound : {s : ℕ} → Sound t P s (blank_block t) (λ u. Unit {0})
  blank_block_is_sound = skip_is_sound block_is_onward

  pub rest_of_line_is_sound : {s : ℕ} → Sound t P s (rest_of_line t) (IsSpan P)
  rest_of_line_is_sound = here_is_sound (λ m q. bind_is_sound (skip_is_sound line_is_onward)
      (λ u v. spanned_is_sound q.place))

  past_eol_reads_soundly : (s : ℕ) (o : Option ℕ) →
      HoareTriple (λ i. Inside P s i × (after_eol t i ≡ o)) (past_eol o) (Ended P s (λ u. Unit {0})) (IsFault t s)
  past_eol_reads_soundly s None =
      yields_meets_triple (λ i p. let q = p.0 in record { late = q.late; place = q.place; good = tt })
  past_eol_reads_soundly s (Some k) =
      holds_skip (λ i j p w. let q = p.0 in let l = q.late in let f = eol_goes_on t i k p.1 in let e = w.there in
      record { late = omega arith; place = subst P (sym e) (eol_ends_at_boundary t P cuts i k p.1); good = tt })

  pub optional_eol_is_sound : {s : ℕ} → Sound t P s (optional_eol t) (λ u. Unit {0})
  optional_eol_is_sound {s = s} = record { holds = holds_peek (past_eol_reads_soundly s) }
