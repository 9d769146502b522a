-- The grammar is the family that its rules make: what a rule gives over the family, the family gives, and the other way
-- round.
use Rattle.std.proofs.Common.{◌≡◌, ℕ, zero, suc, ◌+◌, ◌≤◌, List, [], arith}
use Rattle.fluent_syntax_tree.specs.Tree.{ArgumentsTree, ExpressionTree}
use Rattle.fluent_syntax_grammar.specs.Construct.{Outcome}
use Rattle.fluent_syntax_grammar.specs.Arguments as arguments
use Rattle.fluent_syntax_grammar.specs.Expressions as expressions
use Rattle.fluent_syntax_grammar.specs.Grammar.{within, family}
use Rattle.fluent_syntax_tree.specs.declared.edition.Edition.{Edition}
use Rattle.fluent_syntax_tree.specs.declared.spans.Span.{Span}
use Rattle.fluent_syntax_grammar.proofs.FunctionalRules.{IsFunctionalFamily, next_is_functional}
use Rattle.fluent_syntax_grammar.proofs.Included.{IsIncludedFamily, next_is_included}
use Rattle.fluent_syntax_grammar.proofs.Union.{IsUnionFamily, more_arguments_are_union, expression_is_union}

module _ (edition : Edition) (t : List ℕ) where
  depth_zero_is_included_in_any : (n : ℕ) → IsIncludedFamily (within edition t zero) (within edition t n)
  unfolding within
  depth_zero_is_included_in_any n = record {
    expression = record { part = λ i o x. absurd x };
    argument_list = record { part = λ i o x. absurd x };
  }

  next_depths_are_included : (m n : ℕ) → IsIncludedFamily (within edition t m) (within edition t n) →
      IsIncludedFamily (within edition t (suc m)) (within edition t (suc n))
  unfolding within
  next_depths_are_included m n h = next_is_included edition t (within edition t m) (within edition t n) h

  -- what nests no deeper than m, nests no deeper than a larger number
  pub deeper_family_includes_family : (m n : ℕ) → m ≤ n → IsIncludedFamily (within edition t m) (within edition t n)
  deeper_family_includes_family zero n l = depth_zero_is_included_in_any n
  deeper_family_includes_family (suc m) zero l = absurd (omega arith)
  deeper_family_includes_family (suc m) (suc n) l =
      next_depths_are_included m n (deeper_family_includes_family m n (omega arith))

  pub within_family : (n : ℕ) → IsIncludedFamily (within edition t n) (family edition t)
  unfolding family
  within_family n = record {
    expression = record { part = λ i o x. (n, x) };
    argument_list = record { part = λ i o x. (n, x) };
  }

  -- the family is the union of what nests to each depth
  pub family_is_union_of_depths : IsUnionFamily (family edition t) (within edition t)
  unfolding family
  family_is_union_of_depths = record {
    grows = deeper_family_includes_family;
    expression = record { grows = λ m n l. (deeper_family_includes_family m n l).expression; found = λ i o x. x };
    argument_list = record { grows = λ m n l. (deeper_family_includes_family m n l).argument_list; found = λ i o x. x };
  }

  expression_at_depth_is_in_family : (n i : ℕ) (o : Outcome (ExpressionTree Span)) →
      expressions.expression edition t (within edition t n) i o → (family edition t).expression i o
  unfolding family within
  expression_at_depth_is_in_family n i o x = (suc n, x)

  -- what the rule gives over the family, the family gives
  pub expression_of_family_is_in_family : (i : ℕ) (o : Outcome (ExpressionTree Span)) →
      expressions.expression edition t (family edition t) i o → (family edition t).expression i o
  expression_of_family_is_in_family i o x =
      let m = (expression_is_union edition t (family edition t) (within edition t) family_is_union_of_depths).found i o
      x in
      expression_at_depth_is_in_family m.0 i o m.1

  argument_list_at_depth_is_in_family : (n i : ℕ) (o : Outcome (ArgumentsTree Span)) →
      arguments.more_arguments t (within edition t n) [] i o → (family edition t).argument_list i o
  unfolding family within
  argument_list_at_depth_is_in_family n i o x = (suc n, x)

  -- what the rule gives over the family, the family gives
  pub argument_list_of_family_is_in_family : (i : ℕ) (o : Outcome (ArgumentsTree Span)) →
      arguments.more_arguments t (family edition t) [] i o → (family edition t).argument_list i o
  argument_list_of_family_is_in_family i o x =
      let m = (more_arguments_are_union t (family edition t) (within edition t) family_is_union_of_depths []).found i o
      x in
      argument_list_at_depth_is_in_family m.0 i o m.1

  depth_zero_is_functional : IsFunctionalFamily (within edition t zero)
  unfolding within
  depth_zero_is_functional = record {
    expression = record { same = λ i o p x y. absurd x };
    argument_list = record { same = λ i o p x y. absurd x };
  }

  next_depth_is_functional : (n : ℕ) → IsFunctionalFamily (within edition t n) →
      IsFunctionalFamily (within edition t (suc n))
  unfolding within
  next_depth_is_functional n h = next_is_functional edition t (within edition t n) h

  -- what nests no deeper than a number has at most one outcome at a place
  pub within_is_functional : (n : ℕ) → IsFunctionalFamily (within edition t n)
  within_is_functional zero = depth_zero_is_functional
  within_is_functional (suc n) = next_depth_is_functional n (within_is_functional n)

  family_expression_outcome_is_unique : (i : ℕ) (o p : Outcome (ExpressionTree Span)) →
      (family edition t).expression i o → (family edition t).expression i p → o ≡ p
  unfolding family
  family_expression_outcome_is_unique i o p (m, x) (n, y) =
      (within_is_functional (m + n)).expression.same i o p
      ((deeper_family_includes_family m (m + n) (omega arith)).expression.part i o
      x)
      ((deeper_family_includes_family n (m + n) (omega arith)).expression.part i p y)

  family_argument_list_outcome_is_unique : (i : ℕ) (o p : Outcome (ArgumentsTree Span)) →
      (family edition t).argument_list i o → (family edition t).argument_list i p → o ≡ p
  unfolding family
  family_argument_list_outcome_is_unique i o p (m, x) (n, y) =
      (within_is_functional (m + n)).argument_list.same i o p
      ((deeper_family_includes_family m (m + n) (omega arith)).argument_list.part i o x)
      ((deeper_family_includes_family n (m + n) (omega arith)).argument_list.part i p y)

  -- the constructs that nest have at most one outcome at a place
  pub family_is_functional : IsFunctionalFamily (family edition t)
  family_is_functional =
      record {
        expression = record { same = family_expression_outcome_is_unique };
        argument_list =
            record { same = family_argument_list_outcome_is_unique };
      }
