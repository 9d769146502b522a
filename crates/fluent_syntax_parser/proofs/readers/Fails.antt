-- Where a part is refused or nests too deeply, so does the whole: one step of a reader, for each of its exits by `?`.
use Rattle.std.proofs.Common.{◌≡◌, ℕ, suc, ◌-◌, List, [], Bool, true, false, refl, sym, subst, arith}
use Rattle.std.specs.Prelude.{Result, Err}
use Rattle.std.specs.Result.{IsErrAnd}
use Rattle.std.proofs.lemmas.Result.{err_from_is_err_and}
use Rattle.fluent_syntax_tree.specs.Tree.{ArgumentsTree, ExpressionTree}
use Rattle.fluent_syntax_tree.specs.declared.edition.Edition.{Edition}
use Rattle.fluent_syntax_tree.specs.declared.spans.Span.{Span}
use Rattle.fluent_syntax_grammar.specs.Arguments.{call_arguments, more_arguments}
use Rattle.fluent_syntax_grammar.specs.Bytes.{left_brace, left_parenthesis}
use Rattle.fluent_syntax_grammar.specs.Construct.{Outcome, Construct, Read, Refused, ◌>>=◌, stops, goes_on, skip}
use Rattle.fluent_syntax_grammar.specs.Construct.{passed, branch_on, first, second, peek, chosen, yields, here}
use Rattle.fluent_syntax_grammar.specs.Grammar.{within}
use Rattle.fluent_syntax_grammar.specs.UniqueReading.{IsFunctional}
use Rattle.fluent_syntax_grammar.specs.Nesting.{TooDeep}
use Rattle.fluent_syntax_grammar.specs.Expressions.{arrow_line_end, expression, placeable}
use Rattle.fluent_syntax_grammar.specs.Places.{Blank, JumpsTo, Steps, after_eol}
use Rattle.fluent_syntax_grammar.specs.Variants.{only_star}
use Rattle.fluent_syntax_grammar.specs.Tokens.{optional, token}
use Rattle.fluent_syntax_grammar.proofs.Deeper.{bind_is_too_deep_by_first, bind_is_too_deep_by_second}
use Rattle.fluent_syntax_grammar.proofs.Deeper.{branch_is_too_deep_when_true, branch_is_too_deep_when_false}
use Rattle.fluent_syntax_grammar.proofs.Deeper.{peek_is_too_deep}
use Rattle.fluent_syntax_grammar.proofs.Deeper.{expression_at_no_depth_is_too_deep}
use Rattle.fluent_syntax_grammar.proofs.Deeper.{argument_list_at_no_depth_is_too_deep}
use Rattle.fluent_syntax_grammar.proofs.Functional.{functional, peek_is_functional}
use Rattle.fluent_syntax_grammar.proofs.FunctionalRules.{arrow_line_end_is_functional}
use Rattle.fluent_syntax_grammar.proofs.FunctionalWords.{blank_is_functional, optional_is_functional}
use Rattle.fluent_syntax_grammar.proofs.FunctionalWords.{token_is_functional}
use Rattle.fluent_syntax_parser.specs.declared.fault.ReadFault.{ReadFault}
use Rattle.fluent_syntax_parser.specs.declared.fault.ReadFault.TheVariants as faults
use Rattle.fluent_syntax_parser.specs.declared.fault.Fault.{Fault}
use Rattle.fluent_syntax_parser.specs.Outcomes.{Fails, IsRefusedAs, from_of, kind_at, refused, to_of, too_deep}
use Rattle.fluent_syntax_parser.specs.Outcomes.{no_memory}

module _ {A B : Type 0} {t : List ℕ} {c : Construct A} {d : A → Construct B} {i : ℕ} where
  pub bind_fails_where_first_fails : {f : ReadFault} → Fails t c i f → Fails t (c >>= d) i f
  bind_fails_where_first_fails (refused h) = refused (λ k from to s. stops (h k from to s))
  bind_fails_where_first_fails (too_deep h) = too_deep (bind_is_too_deep_by_first h)
  bind_fails_where_first_fails no_memory = no_memory

  pub bind_fails_second : {a : A} {j : ℕ} {f : ReadFault} → IsFunctional c → c i (Read a j) → Fails t (d a) j f →
      Fails t (c >>= d) i f
  bind_fails_second x r (refused h) = refused (λ k from to e. goes_on r (h k from to e))
  bind_fails_second {a = a} {j = j} x r (too_deep h) = too_deep (bind_is_too_deep_by_second x a j r h)
  bind_fails_second x r no_memory = no_memory

-- what a refusal shows
pub failure_of_refusal_is_refused : {A : Type 0} {t : List ℕ} {c : Construct A} {i : ℕ} {f : Fault} {from place : ℕ} →
    Fails t c i (faults.Refused f from place) →
    c i (Refused (kind_at t f from place) (from_of f from place) (to_of f place))
failure_of_refusal_is_refused (refused h) = h _ _ _ (refl, refl, refl)

pub failure_is_refused_as : {A : Type 0} {t : List ℕ} {c : Construct A} {i : ℕ} {f : Fault} {from place : ℕ} →
    Fails t c i (faults.Refused f from place) → IsRefusedAs t c i (record { fault = f; from = from; place = place })
failure_is_refused_as (refused h) = h

pub failure_is_too_deep : {A : Type 0} {t : List ℕ} {c : Construct A} {i : ℕ} → Fails t c i faults.TooDeep → TooDeep c i
failure_is_too_deep (too_deep h) = h

-- the same of a construct with the same outcomes there
pub equal_constructs_fail_alike : {A : Type 0} {t : List ℕ} {c d : Construct A} {i : ℕ} {f : ReadFault} →
    ((o : Outcome A) → c i o → d i o) → ((o : Outcome A) → d i o → c i o) → Fails t c i f → Fails t d i f
equal_constructs_fail_alike into from (refused h) = refused (λ k a b s. into (Refused k a b) (h k a b s))
equal_constructs_fail_alike into from (too_deep h) = too_deep (λ o x. h o (from o x))
equal_constructs_fail_alike into from no_memory = no_memory

-- the exit by `?` of what took no memory
pub memory_is_err : {X : Type 0} (r : Result X ReadFault) → IsErrAnd r (λ f. f ≡ faults.Memory) → r ≡ Err faults.Memory
memory_is_err r e = let p = err_from_is_err_and r e in rw (p.1, p.2)

pub branch_fails_with_first_when_true : {A : Type 0} {t : List ℕ} {test : Bool} {c d : Construct
    A} {i : ℕ} {f : ReadFault} → test ≡ true → Fails t c i f → Fails t (branch_on test c d) i f
branch_fails_with_first_when_true e (refused h) = refused (λ k from to s. first e (h k from to s))
branch_fails_with_first_when_true e (too_deep h) = too_deep (branch_is_too_deep_when_true e h)
branch_fails_with_first_when_true e no_memory = no_memory

pub branch_on_false_fails_where_second_fails : {A : Type 0} {t : List ℕ} {test : Bool} {c d : Construct A} {i : ℕ}
    {f : ReadFault} → test ≡ false →
    Fails t d i f → Fails t (branch_on test c d) i f
branch_on_false_fails_where_second_fails e (refused h) = refused (λ k from to s. second e (h k from to s))
branch_on_false_fails_where_second_fails e (too_deep h) = too_deep (branch_is_too_deep_when_false e h)
branch_on_false_fails_where_second_fails e no_memory = no_memory

pub peek_fails_with_its_part : {A B : Type 0} {t : List ℕ} {look : ℕ → A} {part : A →
    Construct B} {i : ℕ} {f : ReadFault} → Fails t (part (look i)) i f → Fails t (peek look part) i f
peek_fails_with_its_part (refused h) = refused (λ k from to s. chosen (h k from to s))
peek_fails_with_its_part (too_deep h) = too_deep (peek_is_too_deep h)
peek_fails_with_its_part no_memory = no_memory

-- by what was seen at the place
pub peek_fails_where_seen_part_fails : {A B : Type 0} {t : List ℕ} {look : ℕ → A} (part : A → Construct B) {i : ℕ}
    {f : ReadFault} (a : A) →
    a ≡ look i → Fails t (part a) i f → Fails t (peek look part) i f
peek_fails_where_seen_part_fails {t = t} part {i = i} {f = f} a e h =
    peek_fails_with_its_part (subst (λ a. Fails t (part a) i f) e h)

-- ---- parts with one outcome at most

pub look_is_functional : {A : Type 0} (look : ℕ → A) → IsFunctional (peek look yields)
look_is_functional look = search functional depth 30

pub steps_are_functional : {n : ℕ} → IsFunctional (skip (Steps n))
steps_are_functional = search functional depth 30

pub jump_is_functional : {k : ℕ} → IsFunctional (skip (JumpsTo k))
jump_is_functional = search functional depth 30

pub star_is_functional : (starred star : Bool) → IsFunctional (only_star starred star)
star_is_functional starred star = search functional depth 30

pub arrow_end_is_functional : (t : List ℕ) → IsFunctional (peek (after_eol t) arrow_line_end)
arrow_end_is_functional t = peek_is_functional arrow_line_end_is_functional

-- ---- what is inside, within one more

module _ (edition : Edition) (t : List ℕ) where
  pub expression_is_in_next_depth : (m i : ℕ) (o : Outcome (ExpressionTree Span)) →
      expression edition t (within edition t m) i o → (within edition t (suc m)).expression i o
  unfolding within
  expression_is_in_next_depth m i o x = x

  expression_in_next_depth_is_expression : (m i : ℕ) (o : Outcome (ExpressionTree Span)) →
      (within edition t (suc m)).expression i o → expression edition t (within edition t m) i o
  unfolding within
  expression_in_next_depth_is_expression m i o x = x

  pub argument_list_is_in_next_depth : (m i : ℕ) (o : Outcome (ArgumentsTree Span)) →
      more_arguments t (within edition t m) [] i o → (within edition t (suc m)).argument_list i o
  unfolding within
  argument_list_is_in_next_depth m i o x = x

  argument_list_in_next_depth_is_arguments : (m i : ℕ) (o : Outcome (ArgumentsTree Span)) →
      (within edition t (suc m)).argument_list i o → more_arguments t (within edition t m) [] i o
  unfolding within
  argument_list_in_next_depth_is_arguments m i o x = x

  nonzero_is_successor_of_predecessor : (n : ℕ) → (n ≡ 0 → ⊥) → suc (n - 1) ≡ n
  nonzero_is_successor_of_predecessor n e = omega arith

  pub expression_in_braces_is_in_family : (n i : ℕ) (o : Outcome (ExpressionTree Span)) → (n ≡ 0 → ⊥) →
      expression edition t (within edition t (n - 1)) i o → (within edition t n).expression i o
  expression_in_braces_is_in_family n i o e x =
      subst (λ n. (within edition t n).expression i o) (nonzero_is_successor_of_predecessor n e)
      (expression_is_in_next_depth (n - 1) i o x)

  pub expression_in_nonzero_depth_fails_alike : {n i : ℕ} {f : ReadFault} → (n ≡ 0 → ⊥) →
      Fails t (expression edition t (within edition t (n - 1))) i f → Fails t (within edition t n).expression i f
  expression_in_nonzero_depth_fails_alike {n = n} {i = i} e (refused h) =
      refused (λ k from to s. expression_in_braces_is_in_family n i _ e (h k from to s))
  expression_in_nonzero_depth_fails_alike {n = n} {i = i} e (too_deep h) = too_deep
      (subst (λ n. TooDeep (within edition t n).expression i) (nonzero_is_successor_of_predecessor n e)
      (λ o x. h o (expression_in_next_depth_is_expression (n - 1) i o x)))
  expression_in_nonzero_depth_fails_alike e no_memory = no_memory

  pub argument_list_is_in_nonzero_depth : (n i : ℕ) (o : Outcome (ArgumentsTree Span)) → (n ≡ 0 → ⊥) →
      more_arguments t (within edition t (n - 1)) [] i o → (within edition t n).argument_list i o
  argument_list_is_in_nonzero_depth n i o e x = subst (λ n. (within edition t n).argument_list i o)
      (nonzero_is_successor_of_predecessor n e) (argument_list_is_in_next_depth (n - 1) i o x)

  pub argument_list_in_nonzero_depth_fails_alike : {n i : ℕ} {f : ReadFault} → (n ≡ 0 → ⊥) →
      Fails t (more_arguments t (within edition t (n - 1)) []) i f → Fails t (within edition t n).argument_list i f
  argument_list_in_nonzero_depth_fails_alike {n = n} {i = i} e (refused h) =
      refused (λ k from to s. argument_list_is_in_nonzero_depth n i _ e (h k from to s))
  argument_list_in_nonzero_depth_fails_alike {n = n} {i = i} e (too_deep h) = too_deep
      (subst (λ n. TooDeep (within edition t n).argument_list i) (nonzero_is_successor_of_predecessor n e)
      (λ o x. h o (argument_list_in_next_depth_is_arguments (n - 1) i o x)))
  argument_list_in_nonzero_depth_fails_alike e no_memory = no_memory

  -- ---- one that may not open

  skip_before_too_deep_is_too_deep : {B : Type 0} {W : ℕ → ℕ → Type 0} {c : Unit {0} → Construct B} {i : ℕ} →
      ((j : ℕ) → W i j → TooDeep (c tt) j) → TooDeep (skip W >>= c) i
  skip_before_too_deep_is_too_deep h o (stops x) = elim x [ ]
  skip_before_too_deep_is_too_deep h o (goes_on (passed {j = j} w) y) = h j w o y

  pub placeable_at_depth_zero_is_too_deep : (n i j : ℕ) → n ≡ 0 → token t left_brace i (Read tt j) →
      TooDeep (placeable t (within edition t n)) i
  placeable_at_depth_zero_is_too_deep n i j e x = subst (λ n. TooDeep (placeable t (within edition t n)) i) (sym e)
      (bind_is_too_deep_by_second (token_is_functional t left_brace) tt j x
      (skip_before_too_deep_is_too_deep
      (λ k w. bind_is_too_deep_by_first (expression_at_no_depth_is_too_deep edition t k))))

  pub call_at_depth_zero_is_too_deep : (n i j k : ℕ) (found : Bool) → n ≡ 0 → Blank t i j →
      optional t left_parenthesis j (Read found k) → found ≡ true → TooDeep (call_arguments t (within edition t n)) i
  call_at_depth_zero_is_too_deep n i j k found e w x f =
      subst (λ n. TooDeep (call_arguments t (within edition t n)) i) (sym e)
      (bind_is_too_deep_by_second (blank_is_functional t) tt j (passed w)
      (bind_is_too_deep_by_second (optional_is_functional t left_parenthesis)
      found k x
      (branch_is_too_deep_when_true f (bind_is_too_deep_by_first
      (skip_before_too_deep_is_too_deep (λ m v. argument_list_at_no_depth_is_too_deep edition t m))))))
