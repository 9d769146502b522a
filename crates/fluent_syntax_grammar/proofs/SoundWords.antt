-- Marks, identifiers, numbers and string literals are sound.
use Rattle.std.proofs.Common.{◌≡◌, ℕ, ◌<◌, List, Bool, true, false, refl, sym, ◌∙◌, subst, arith}
use Rattle.std.specs.Prelude.{nat_lt, codes}
use Rattle.std.proofs.lemmas.Bool.Decides.{nat_tests}
use Rattle.fluent_syntax_tree.specs.Kind.{ExpectedCharRange}
use Rattle.fluent_syntax_grammar.specs.Places.{has_byte}
use Rattle.fluent_syntax_grammar.specs.Construct.{fails}
use Rattle.fluent_syntax_grammar.specs.Tokens.{optional, token, digits, identifier, number}
use Rattle.fluent_syntax_grammar.proofs.HoareTriple.{HoareTriple, holds_weaker, holds_bind, yields_meets_triple}
use Rattle.fluent_syntax_grammar.proofs.HoareTriple.{fails_meets_triple}
use Rattle.fluent_syntax_grammar.proofs.HoareTriple.{holds_skip, holds_peek, holds_branch_on}
use Rattle.fluent_syntax_grammar.proofs.Cuts.{AreBoundaries, byte_below_128_is_ascii, digit_is_ascii, name_set_is_ascii}
use Rattle.fluent_syntax_grammar.proofs.Sound.{IsSpan, Inside, IsFault, Sound, bind_is_sound, yields_is_sound}
use Rattle.fluent_syntax_grammar.proofs.Sound.{fails_is_sound, skip_is_sound, peek_is_sound, branch_on_is_sound}
use Rattle.fluent_syntax_grammar.proofs.Sound.{here_is_sound, spanned_is_sound, word_is_onward}

byte_below_128_is_small : (b : ℕ) → nat_lt b 128 ≡ true → b < 128
byte_below_128_is_small b e = grind (arith, nat_tests)

true_differs_from_false : true ≡ false → ⊥
true_differs_from_false e = cc

module _ (t : List ℕ) (P : ℕ → Type 0) (cuts : AreBoundaries t P) where
  -- after an optional byte that was not there, there is none
  pub record AfterOptional (s b : ℕ) (found : Bool) (j : ℕ) : Type 0 where
    pub inside : Inside P s j
    pub missing : found ≡ false → has_byte t b j ≡ false

  pub optional_byte_reads_soundly : (s b : ℕ) → nat_lt b 128 ≡ true →
      HoareTriple (Inside P s) (optional t b) (AfterOptional s b) (IsFault t s)
  optional_byte_reads_soundly s b l = holds_peek (λ found. holds_branch_on
      (λ e. holds_bind {mid = λ u. Inside P s}
      (holds_skip (λ i j p w. let q = p.0 in let late = q.late in let by = w.by in
      record {
        late = omega arith;
        place = subst P (sym by) (cuts.after i (byte_below_128_is_ascii t b i (byte_below_128_is_small b l) (p.1 ∙ e)));
      }))
      (λ u. yields_meets_triple (λ i p. record { inside = p; missing = λ no. absurd (true_differs_from_false no) })))
      (λ e. yields_meets_triple (λ i p. record { inside = p.0; missing = λ no. p.1 ∙ e })))

  pub optional_is_sound : {s : ℕ} (b : ℕ) → nat_lt b 128 ≡ true → Sound t P s (optional t b) (λ found. Unit {0})
  optional_is_sound {s = s} b l =
      record {
        holds =
            holds_weaker (λ i p. p) (λ a j e. let q = e.inside in record { late = q.late; place = q.place; good = tt })
            (λ k from to e. e) (optional_byte_reads_soundly s b l);
      }

  pub token_is_sound : {s : ℕ} (b : ℕ) → nat_lt b 128 ≡ true → Sound t P s (token t b) (λ u. Unit {0})
  token_is_sound {s = s} b l = record {
    holds = holds_bind (optional_byte_reads_soundly s b l) (λ found. holds_branch_on
        (λ e. yields_meets_triple (λ i p. let q = p.inside in record { late = q.late; place = q.place; good = tt }))
        (λ e. fails_meets_triple
        (λ i p. let q = p.inside in
        record {
          late = q.late;
          in_text = cuts.in_text i q.place;
          one = refl;
          plain = tt;
          means = p.missing e;
        })));
  }

  range_is_sound : {s : ℕ} {A : Type 0} {Good : A → Type 0} (range : List ℕ) →
      Sound t P s (fails (ExpectedCharRange range)) Good
  range_is_sound range = fails_is_sound cuts.in_text tt (λ i. tt)

  pub digits_are_sound : {s : ℕ} → Sound t P s (digits t) (λ u. Unit {0})
  digits_are_sound =
      peek_is_sound
      (λ found. branch_on_is_sound (λ e. skip_is_sound (word_is_onward t P cuts digit_is_ascii))
      (λ e. range_is_sound (codes "0-9")))

  pub identifier_is_sound : {s : ℕ} → Sound t P s (identifier t) (IsSpan P)
  identifier_is_sound =
      here_is_sound (λ m q.
      bind_is_sound {Mid = λ letter. Unit {0}} (peek_is_sound (λ letter. yields_is_sound tt))
      (λ letter u. branch_on_is_sound
      (λ e. bind_is_sound (skip_is_sound (word_is_onward t P cuts name_set_is_ascii)) (λ u v. spanned_is_sound q.place))
      (λ e. range_is_sound (codes "a-zA-Z"))))

  pub number_is_sound : {s : ℕ} → Sound t P s (number t) (IsSpan P)
  number_is_sound = here_is_sound (λ m q. bind_is_sound (optional_is_sound 45 refl)
      (λ x u. bind_is_sound digits_are_sound (λ x u.
      bind_is_sound (optional_is_sound 46 refl)
      (λ point u. bind_is_sound {Mid = λ u. Unit {0}} (branch_on_is_sound (λ e. digits_are_sound)
      (λ e. yields_is_sound tt))
      (λ x u. spanned_is_sound q.place)))))
