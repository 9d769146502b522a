-- What is found first: that there is nothing exactly where a tree is canonical, and that what is named is so.
use Rattle.std.proofs.Common.{◌≡◌, ℕ, suc, ◌+◌, List, [], ◌∷◌, take, Option, Some, None, Bool, true, false, ◌&&◌}
use Rattle.std.proofs.Common.{not, refl, sym, ap, subst, ◌∙◌, arith}
use Rattle.std.specs.Prelude.{is_some, is_none, slice_get, IfSome}
use Rattle.std.specs.List.{list_all, find}
use Rattle.std.proofs.Math.Bool.{cond}
use Rattle.fluent_syntax_tree.specs.Entry.{EntryTree, BodyTree}
use Rattle.fluent_syntax_tree.specs.declared.edition.Edition.{Edition}
use Rattle.fluent_syntax_grammar.specs.Canonical.{canonical_rules, is_canonical}
use Rattle.fluent_syntax_grammar.specs.Readable.{readable_rules}
use Rattle.fluent_syntax_grammar.specs.Rules.{entry_obeys}
use Rattle.fluent_syntax_grammar.specs.Written.{Text}
use Rattle.fluent_syntax_writer.specs.RuleSets.{keeps, HoldsBroken}
use Rattle.fluent_syntax_writer.specs.SingleRule.{every_rule, entry_keeps}
use Rattle.fluent_syntax_writer.specs.Uncanonical.{first_of, broken_rule, or_after, first_from, first_uncanonical}
use Rattle.fluent_syntax_writer.specs.Uncanonical.{IsFirstBroken}
use Rattle.fluent_syntax_writer.specs.declared.canonical.broken_rules.Uncanonical.{Uncanonical}
use Rattle.fluent_syntax_writer.specs.declared.canonical.rule_set.RuleSet.{RuleSet}
use Rattle.fluent_syntax_writer.specs.declared.canonical.rules.Rule.{Rule}
use Rattle.fluent_syntax_writer.proofs.rules.EveryRule.{readable, readable_entry_keeps_each, canonical_entry_keeps_each}

-- ---- The first that a test refuses

module _ {X : Type 0} (test : X → Bool) where
  abbrev refused : List X → Option X
  refused xs = find (λ x. not (test x)) xs

  none_is_found_after_passing_first : (b : Bool) (x : X) (o : Option X) (all : Bool) → is_none o ≡ all
      → is_none (cond (not b) (Some x) o) ≡ (b && all)
  none_is_found_after_passing_first true x o all e = e
  none_is_found_after_passing_first false x o all e = refl

  none_is_refused_where_all_pass : (xs : List X) → is_none (refused xs) ≡ list_all test xs
  none_is_refused_where_all_pass [] = refl
  none_is_refused_where_all_pass (x ∷ xs) =
      none_is_found_after_passing_first (test x) x (refused xs) (list_all test xs) (none_is_refused_where_all_pass xs)

  -- the item is refused, and all before it pass
  record IsRefused (xs : List X) (found : X) : Type 0 where
    before : ℕ
    there : slice_get xs before ≡ Some found
    fails : test found ≡ false
    pass : list_all test (take before xs) ≡ true

  refused_of_rest_is_refused : (x : X) (xs : List X) (found : X) → test x ≡ true → IsRefused xs found
      → IsRefused (x ∷ xs) found
  refused_of_rest_is_refused x xs found passes rest =
      record { before = suc rest.before; there = rest.there; fails = rest.fails; pass = rw passes rest.pass }

  failing_first_is_refused : (x : X) (xs : List X) (found : X) → test x ≡ false → x ≡ found → IsRefused (x ∷ xs) found
  failing_first_is_refused x xs found fails same =
      record { before = 0; there = ap Some same; fails = ap test (sym same) ∙ fails; pass = refl }

  refused_by_its_test_is_refused : (x : X) (xs : List X) (found : X) (b : Bool) → test x ≡ b
      → (refused xs ≡ Some found → IsRefused xs found)
      → cond (not b) (Some x) (refused xs) ≡ Some found → IsRefused (x ∷ xs) found
  refused_by_its_test_is_refused x xs found true passes rest is = refused_of_rest_is_refused x xs found passes (rest is)
  refused_by_its_test_is_refused x xs found false fails rest is =
      let same : x ≡ found = cc in
      failing_first_is_refused x xs found fails same

  found_refused_is_first_that_fails : (xs : List X) (found : X) → refused xs ≡ Some found → IsRefused xs found
  found_refused_is_first_that_fails [] found is = cc
  found_refused_is_first_that_fails (x ∷ xs) found is =
      refused_by_its_test_is_refused x xs found (test x) refl (found_refused_is_first_that_fails xs found) is

  -- tests that give the same refuse the same first
  equal_tests_refuse_the_same : (other : X → Bool) → ((x : X) → other x ≡ test x) → (xs : List X)
      → find (λ x. not (other x)) xs ≡ refused xs
  equal_tests_refuse_the_same other same [] = refl
  equal_tests_refuse_the_same other same (x ∷ xs) =
      ap (λ b. cond (not b) (Some x) (find (λ x. not (other x)) xs)) (same x)
      ∙ ap (λ o. cond (not (test x)) (Some x) o) (equal_tests_refuse_the_same other same xs)

-- nothing is found exactly where this is answered
pub answer_is_whether_none_is_found : {X : Type 0} (found : Option X) (answer : Bool) → is_some found ≡ not answer
    → answer ≡ is_none found
answer_is_whether_none_is_found None true is = refl
answer_is_whether_none_is_found None false is = cc
answer_is_whether_none_is_found (Some x) true is = cc
answer_is_whether_none_is_found (Some x) false is = refl

-- ---- The rule that an entry breaks

pub set_finds_first : (edition : Edition) (e : EntryTree Text) (broken : RuleSet)
    → HoldsBroken broken (λ rule. entry_keeps edition rule e) → (rules : List Rule)
    → find (λ rule. not (keeps broken rule)) rules ≡ first_of edition e rules
set_finds_first edition e broken are rules =
    equal_tests_refuse_the_same (λ rule. entry_keeps edition rule e) (keeps broken) are rules

pub no_rule_is_broken_where_all_are_obeyed : (edition : Edition) (e : EntryTree Text)
    → is_none (broken_rule edition e) ≡ entry_obeys (canonical_rules edition) e
no_rule_is_broken_where_all_are_obeyed edition e =
    none_is_refused_where_all_pass (λ rule. entry_keeps edition rule e) every_rule ∙
    sym (canonical_entry_keeps_each edition e)

pub no_readable_rule_broken : (edition : Edition) (e : EntryTree Text)
    → is_none (first_of edition e readable) ≡ entry_obeys (readable_rules edition) e
no_readable_rule_broken edition e =
    none_is_refused_where_all_pass (λ rule. entry_keeps edition rule e) readable ∙
    sym (readable_entry_keeps_each edition e)

-- ---- The entry that breaks one

or_after-none : (n : ℕ) (o : Option Rule) (after : Option Uncanonical)
    → is_none (or_after n o after) ≡ (is_none o && is_none after)
or_after-none n None after = refl
or_after-none n (Some rule) after = refl

first_from-none : (edition : Edition) (n : ℕ) (body : BodyTree Text)
    → is_none (first_from edition n body) ≡ is_canonical edition body
first_from-none edition n [] = refl
first_from-none edition n (e ∷ es) =
    or_after-none n (broken_rule edition e) (first_from edition (n + 1) es)
    ∙ rw (no_rule_is_broken_where_all_are_obeyed edition e, first_from-none edition (n + 1) es)

-- Nothing is found exactly where the tree is canonical.
pub no_entry_is_uncanonical_when_canonical : (edition : Edition) (body : BodyTree Text)
    → is_none (first_uncanonical edition body) ≡ is_canonical edition body
no_entry_is_uncanonical_when_canonical edition body = first_from-none edition 0 body

module _ (edition : Edition) where
  -- what was found among entries of which the first has the number n
  record IsFound (n : ℕ) (body : BodyTree Text) (found : Uncanonical) : Type 0 where
    before : ℕ
    number : found.entry ≡ n + before
    first : IsFirstBroken edition body (record { entry = before; rule = found.rule })

  entry_with_broken_rule_is_found : (n : ℕ) (e : EntryTree Text) (es : BodyTree Text) (rule : Rule)
      (found : Uncanonical)
      → broken_rule edition e ≡ Some rule → record { entry = n; rule = rule } ≡ found → IsFound n (e ∷ es) found
  entry_with_broken_rule_is_found n e es rule found broken same =
      let number : found.entry ≡ n = cc in
      let named : found.rule ≡ rule = cc in
      let is = found_refused_is_first_that_fails (λ r. entry_keeps edition r e) every_rule rule broken in
      record {
        before = 0;
        number = omega (arith, number);
        first = record {
          before = refl;
          entry = e;
          there = refl;
          breaks = rw named is.fails;
          kept = is.before;
          named = rw named is.there;
          first = is.pass;
        };
      }

  entry_found_in_rest_is_found : (n : ℕ) (e : EntryTree Text) (es : BodyTree Text) (found : Uncanonical)
      → broken_rule edition e ≡ None → IsFound (n + 1) es found → IsFound n (e ∷ es) found
  entry_found_in_rest_is_found n e es found keeps rest =
      let canonical : entry_obeys (canonical_rules edition) e ≡ true =
      sym (no_rule_is_broken_where_all_are_obeyed edition e) ∙ ap is_none keeps in
      let first = rest.first in
      record {
        before = suc rest.before;
        number = omega (arith, rest.number);
        first = record {
          before = rw canonical first.before;
          entry = first.entry;
          there = first.there;
          breaks = first.breaks;
          kept = first.kept;
          named = first.named;
          first = first.first;
        };
      }

  entry_found_by_its_rule_is_found : (n : ℕ) (e : EntryTree Text) (es : BodyTree Text) (found : Uncanonical)
      (o : Option Rule) → broken_rule edition e ≡ o
      → (first_from edition (n + 1) es ≡ Some found → IsFound (n + 1) es found)
      → or_after n o (first_from edition (n + 1) es) ≡ Some found → IsFound n (e ∷ es) found
  entry_found_by_its_rule_is_found n e es found None keeps rest is =
      entry_found_in_rest_is_found n e es found keeps (rest is)
  entry_found_by_its_rule_is_found n e es found (Some rule) broken rest is =
      entry_with_broken_rule_is_found n e es rule found broken cc

  entry_found_from_number_is_first : (n : ℕ) (body : BodyTree Text) (found : Uncanonical)
      → first_from edition n body ≡ Some found → IsFound n body found
  entry_found_from_number_is_first n [] found is = cc
  entry_found_from_number_is_first n (e ∷ es) found is =
      entry_found_by_its_rule_is_found n e es found (broken_rule edition e) refl
      (entry_found_from_number_is_first (n + 1) es found) is

  -- What is found is so.
  first_uncanonical_is_first_broken : (body : BodyTree Text) (found : Uncanonical)
      → first_uncanonical edition body ≡ Some found → IsFirstBroken edition body found
  first_uncanonical_is_first_broken body found is =
      let here = entry_found_from_number_is_first 0 body found is in
      let number : here.before ≡ found.entry = omega (arith, here.number) in
      subst (λ n. IsFirstBroken edition body (record { entry = n; rule = found.rule })) number here.first

  pub first_is_broken : (body : BodyTree Text) (o : Option Uncanonical) → o ≡ first_uncanonical edition body
      → IfSome o (λ found. IsFirstBroken edition body found)
  first_is_broken body None is = tt
  first_is_broken body (Some found) is = first_uncanonical_is_first_broken body found (sym is)
