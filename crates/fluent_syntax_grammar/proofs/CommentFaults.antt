-- A comment is refused right after its hashes, and a name where it should begin.
use Rattle.std.proofs.Common.{◌≡◌, ℕ, ◌+◌, ◌≤◌, List, Option, Some, None, Bool, true, false, refl, arith}
use Rattle.std.specs.Prelude.{not, if◌then◌else◌}
use Rattle.fluent_syntax_tree.specs.Kind.{Kind}
use Rattle.fluent_syntax_grammar.specs.Places.{has_byte, after_eol}
use Rattle.fluent_syntax_grammar.specs.Construct.{Refused, chosen}
use Rattle.fluent_syntax_grammar.specs.Tokens.{identifier, spanned, token, past_eol, optional_eol, rest_of_line}
use Rattle.fluent_syntax_grammar.specs.Comments.{hashes, comment_text, comment_rest, comment_lines, comment_of}
use Rattle.fluent_syntax_grammar.specs.Comments.{comment_entry}
use Rattle.fluent_syntax_grammar.proofs.HoareTriple.{HoareTriple, holds_weaker, holds_bind, yields_meets_triple}
use Rattle.fluent_syntax_grammar.proofs.HoareTriple.{here_meets_triple}
use Rattle.fluent_syntax_grammar.proofs.HoareTriple.{fails_meets_triple, holds_skip, holds_peek, holds_branch_on}
use Rattle.fluent_syntax_grammar.proofs.Sound.{IsPlain}

-- refused at the place, for a kind that no message and no term lacks its field by
pub record IsAt (p : ℕ) (k : Kind) (from to : ℕ) : Type 0 where
  pub at : from ≡ p
  pub plain : IsPlain k

abbrev AnyPlace : ℕ → Type 0
AnyPlace i = Unit {0}

abbrev AnyValue : {A : Type 0} → A → ℕ → Type 0
AnyValue a i = Unit {0}

true_is_not_false : {X : Type 0} → true ≡ false → X
true_is_not_false e = cc

comment_lines_are_never_refused : (X : Type 0) (t : List ℕ) (level i from to : ℕ) (k : Kind) →
    comment_lines t level i (Refused k from to) → X
comment_lines_are_never_refused X t level i from to k x = elim x [ ]

at_least_one_hash : (a b c : Bool) → a ≡ true → 1 ≤ (if not a then 0 else if not b then 1 else if not c then 2 else 3)
at_least_one_hash false b c e = cc
at_least_one_hash true false c e = omega arith
at_least_one_hash true true false e = omega arith
at_least_one_hash true true true e = omega arith

module _ (t : List ℕ) (F : Kind → ℕ → ℕ → Type 0) where
  spanned_is_never_refused : (start : ℕ) → HoareTriple AnyPlace (spanned start) AnyValue F
  spanned_is_never_refused start =
      holds_bind {mid = AnyValue} (here_meets_triple (λ i p. tt)) (λ end. yields_meets_triple (λ i p. tt))

  past_eol_is_never_refused : (o : Option ℕ) →
      HoareTriple (λ i. AnyPlace i × (after_eol t i ≡ o)) (past_eol o) AnyValue F
  past_eol_is_never_refused None = yields_meets_triple (λ i p. tt)
  past_eol_is_never_refused (Some k) = holds_skip (λ i j p w. tt)

  optional_eol_is_never_refused : HoareTriple AnyPlace (optional_eol t) AnyValue F
  optional_eol_is_never_refused = holds_peek past_eol_is_never_refused

  rest_of_line_is_never_refused : HoareTriple AnyPlace (rest_of_line t) AnyValue F
  rest_of_line_is_never_refused =
      holds_bind {mid = AnyValue} (here_meets_triple (λ i p. tt))
      (λ start. holds_bind {mid = AnyValue} (holds_skip (λ i j p w. tt)) (λ u. spanned_is_never_refused start))

  comment_lines_have_no_fault : (level : ℕ) → HoareTriple AnyPlace (comment_lines t level) AnyValue F
  comment_lines_have_no_fault level =
      record {
        on_read = λ i j a p x. tt;
        on_refused =
            λ i from to k p x. comment_lines_are_never_refused (F k from to) t level i from to k x;
      }

module _ (t : List ℕ) (p : ℕ) where
  token_fault_is_at_its_start : (b : ℕ) → HoareTriple (λ i. i ≡ p) (token t b) AnyValue (IsAt p)
  token_fault_is_at_its_start b =
      holds_bind {mid = λ found i. found ≡ false → i ≡ p} (holds_peek (λ found. holds_branch_on
      (λ e. holds_bind {mid = AnyValue} (holds_skip (λ i j q w. tt))
      (λ u. yields_meets_triple (λ i q no. true_is_not_false no)))
      (λ e. yields_meets_triple (λ i q no. q.0))))
      (λ found. holds_branch_on (λ e. yields_meets_triple (λ i q. tt))
      (λ e. fails_meets_triple (λ i q. record { at = q e; plain = tt })))

  comment_text_fault_is_at_its_start : (eol : Bool) → HoareTriple (λ i. i ≡ p) (comment_text t eol) AnyValue (IsAt p)
  comment_text_fault_is_at_its_start true =
      holds_bind {mid = AnyValue} (here_meets_triple (λ i q. tt)) (λ i. spanned_is_never_refused t (IsAt p) i)
  comment_text_fault_is_at_its_start false =
      holds_bind (token_fault_is_at_its_start 32) (λ u. rest_of_line_is_never_refused t (IsAt p))

  comment_rest_fault_is_at_its_start : (o : Option ℕ) → HoareTriple (λ i. i ≡ p) (comment_rest t o) AnyValue (IsAt p)
  comment_rest_fault_is_at_its_start None = yields_meets_triple (λ i q. tt)
  comment_rest_fault_is_at_its_start (Some b) =
      holds_bind {mid = AnyValue}
      (holds_peek
      (λ eol. holds_weaker {pre = λ i. i ≡ p} (λ i q. q.0) (λ a j x. x) (λ k from to x. x)
      (comment_text_fault_is_at_its_start eol)))
      (λ content. holds_bind (optional_eol_is_never_refused t (IsAt p)) (λ u. yields_meets_triple (λ i q. tt)))

module _ (t : List ℕ) where
  comment_of_level_fault_is_after_hashes : (i level : ℕ) →
      HoareTriple (λ j. j ≡ i) (comment_of t level) AnyValue (IsAt (i + level))
  comment_of_level_fault_is_after_hashes i level = holds_bind {mid = AnyValue}
      (holds_bind {mid = λ u j. j ≡ i + level} (holds_skip (λ j m e w. let by = w.by in omega arith))
      (λ u. holds_peek
      (λ o. holds_weaker {pre = λ j. j ≡ i + level} (λ j q. q.0) (λ a j x. x) (λ k from to x. x)
      (comment_rest_fault_is_at_its_start t (i + level) o))))
      (λ content.
      holds_bind (comment_lines_have_no_fault t (IsAt (i + level)) level) (λ rest. yields_meets_triple (λ j q. tt)))

  -- a comment is refused at the place after its hashes
  pub comment_fault_is_after_its_hashes : (i from to : ℕ) (k : Kind) → comment_entry t i (Refused k from to) →
      IsAt (i + hashes t i) k from to
  comment_fault_is_after_its_hashes i from to k (chosen x) =
      (comment_of_level_fault_is_after_hashes i (hashes t i)).on_refused i from to k refl x

  -- where there is a `#`, there are hashes
  pub hashes_at_hash_are_at_least_one : (i : ℕ) → has_byte t 35 i ≡ true → 1 ≤ hashes t i
  hashes_at_hash_are_at_least_one i e =
      at_least_one_hash (has_byte t 35 i) (has_byte t 35 (i + 1)) (has_byte t 35 (i + 2)) e

  identifier_fault_is_at_its_start : (p : ℕ) → HoareTriple (λ i. i ≡ p) (identifier t) AnyValue (IsAt p)
  identifier_fault_is_at_its_start p =
      holds_bind {mid = λ start i. i ≡ p} (here_meets_triple (λ i q. q))
      (λ start. holds_bind {mid = λ letter i. i ≡ p} (holds_peek (λ letter. yields_meets_triple (λ i q. q.0)))
      (λ letter. holds_branch_on
      (λ e. holds_bind {mid = AnyValue} (holds_skip (λ i j q w. tt)) (λ u. spanned_is_never_refused t (IsAt p) start))
      (λ e. fails_meets_triple (λ i q. record { at = q; plain = tt }))))

  -- a name is refused at its place
  pub refused_identifier_fails_at_its_start : (i from to : ℕ) (k : Kind) → identifier t i (Refused k from to) →
      IsAt i k from to
  refused_identifier_fails_at_its_start i from to k x =
      (identifier_fault_is_at_its_start i).on_refused i from to k refl x
