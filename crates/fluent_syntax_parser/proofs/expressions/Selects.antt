-- A select from its arrow on, by what is before its variants.
use Rattle.std.proofs.Common.{◌≡◌, ◌∙◌, ℕ, ◌+◌, List, Option, Some, None, true, ap, refl, subst, sym}
use Rattle.std.specs.Prelude.{Result, Ok, Err}
use Rattle.fluent_syntax_tree.specs.Kind.{Kind}
use Rattle.fluent_syntax_tree.specs.Tree.{ExpressionTree, InlineTree, VariantTrees, inline_map, select}
use Rattle.fluent_syntax_tree.specs.declared.ast.PatternElement.{PatternElement}
use Rattle.fluent_syntax_tree.specs.declared.edition.Edition.{Edition}
use Rattle.fluent_syntax_tree.specs.declared.spans.Span.{Span}
use Rattle.fluent_syntax_grammar.specs.Construct.{Outcome, Read, Refused, stops, goes_on, given, failed, passed}
use Rattle.fluent_syntax_grammar.specs.Construct.{chosen, first}
use Rattle.fluent_syntax_grammar.specs.Family.{Family}
use Rattle.fluent_syntax_grammar.specs.Inline.{inline_expression}
use Rattle.fluent_syntax_grammar.specs.Expressions.{expression, has_arrow, select_with, selector_fault}
use Rattle.fluent_syntax_grammar.specs.Expressions.{variants_of_select}
use Rattle.fluent_syntax_grammar.specs.Places.{Blank}
use Rattle.fluent_syntax_grammar.specs.UniqueReading.{IsFunctional}
use Rattle.fluent_syntax_grammar.proofs.Functional.{bind_is_functional, fails_is_functional}
use Rattle.fluent_syntax_grammar.proofs.FunctionalRules.{IsFunctionalFamily, inline_is_functional}
use Rattle.fluent_syntax_grammar.proofs.FunctionalWords.{blank_is_functional, inline_blank_is_functional}
use Rattle.fluent_syntax_parser.specs.Last.{Pushes}
use Rattle.fluent_syntax_parser.specs.Outcomes.{Fails, no_memory, refused, too_deep}
use Rattle.fluent_syntax_parser.specs.Selects.{arrow_variants, select_start}
use Rattle.fluent_syntax_parser.specs.declared.fault.ReadFault.{ReadFault}
use Rattle.fluent_syntax_parser.proofs.readers.Fails.{bind_fails_second, branch_fails_with_first_when_true}
use Rattle.fluent_syntax_parser.proofs.readers.Fails.{arrow_end_is_functional, look_is_functional, steps_are_functional}
use Rattle.fluent_syntax_parser.proofs.readers.Made.{mapping_keeps_selector_fault}

-- what is no selector
pub non_selector_refused : (t : List ℕ) (i : ℕ) (fault : Option Kind) (kind : Kind) → fault ≡ Some kind →
    select_start t fault i (Refused kind i (i + 1))
non_selector_refused t i fault kind is =
    subst (λ x. select_start t x i (Refused kind i (i + 1))) (sym is) (failed refl)

-- what is one
pub select_start-no_fault : (t : List ℕ) {i : ℕ} (fault : Option Kind) (o : Outcome Unit) → fault ≡ None →
    select_start t None i o → select_start t fault i o
select_start-no_fault t {i = i} fault o is h = subst (λ x. select_start t x i o) (sym is) h

pub select_start_is_functional : (t : List ℕ) (fault : Option Kind) → IsFunctional (select_start t fault)
select_start_is_functional t (Some kind) = fails_is_functional
select_start_is_functional t None =
    bind_is_functional steps_are_functional (λ u.
    bind_is_functional (inline_blank_is_functional t) (λ u.
    bind_is_functional (arrow_end_is_functional t) (λ u. blank_is_functional t)))

module _ (edition : Edition) (t : List ℕ) (R : Family) (e : InlineTree Span) (i : ℕ) where
  -- the same outcome, with the select that the variants make
  abbrev selected : Outcome (VariantTrees Span) → Outcome (ExpressionTree Span)
  selected (Read vs j) = Read (select e vs) j
  selected (Refused kind from to) = Refused kind from to

  variants_after_arrow_make_select : (fault : Option Kind) (o : Outcome (VariantTrees Span)) →
      arrow_variants edition t R fault i o →
      select_with edition t R e fault i (selected o)
  variants_after_arrow_make_select (Some fault) o (stops (failed is)) = failed is
  variants_after_arrow_make_select (Some fault) o (goes_on start x) = elim start [ ]
  variants_after_arrow_make_select None o (stops (stops a)) = stops (stops a)
  variants_after_arrow_make_select None o (stops (goes_on a (stops b))) = stops (goes_on a (stops b))
  variants_after_arrow_make_select None o (stops (goes_on a (goes_on b (stops c)))) =
      stops (goes_on a (goes_on b (stops c)))
  variants_after_arrow_make_select None o (stops (goes_on a (goes_on b (goes_on c d)))) =
      stops (goes_on a (goes_on b (goes_on c (stops d))))
  variants_after_arrow_make_select None (Read vs j) (goes_on (goes_on a (goes_on b (goes_on c d))) x) =
      goes_on (goes_on a (goes_on b (goes_on c (goes_on d x)))) given
  variants_after_arrow_make_select None (Refused kind from to) (goes_on (goes_on a (goes_on b (goes_on c d))) x) =
      stops (goes_on a (goes_on b (goes_on c (goes_on d x))))

  variants_of_select_are_arrow_variants : (o : Outcome (VariantTrees Span)) → variants_of_select edition t R i o →
      arrow_variants edition t R None i o
  variants_of_select_are_arrow_variants o (stops a) = stops (stops a)
  variants_of_select_are_arrow_variants o (goes_on a (stops b)) = stops (goes_on a (stops b))
  variants_of_select_are_arrow_variants o (goes_on a (goes_on b (stops c))) = stops (goes_on a (goes_on b (stops c)))
  variants_of_select_are_arrow_variants o (goes_on a (goes_on b (goes_on c (stops d)))) =
      stops (goes_on a (goes_on b (goes_on c d)))
  variants_of_select_are_arrow_variants o (goes_on a (goes_on b (goes_on c (goes_on d x)))) =
      goes_on (goes_on a (goes_on b (goes_on c d))) x

  select_was_made_of_variants_after_arrow : (fault : Option Kind) (o : Outcome (ExpressionTree Span)) →
      select_with edition t R e fault i o → (p : Outcome (VariantTrees Span)) × arrow_variants edition t R fault i p
  select_was_made_of_variants_after_arrow (Some fault) o (failed is) = (_, stops (failed is))
  select_was_made_of_variants_after_arrow None o (stops x) = (_, variants_of_select_are_arrow_variants _ x)
  select_was_made_of_variants_after_arrow None o (goes_on x given) = (_, variants_of_select_are_arrow_variants _ x)

  fails_from_arrow : (fault : Option Kind) {f : ReadFault} → Fails t (arrow_variants edition t R fault) i f →
      Fails t (select_with edition t R e fault) i f
  fails_from_arrow fault (refused h) = refused (λ k from to s. variants_after_arrow_make_select fault _ (h k from to s))
  fails_from_arrow fault (too_deep h) =
      too_deep (λ o x. let (p, y) = select_was_made_of_variants_after_arrow fault o x in h p y)
  fails_from_arrow fault no_memory = no_memory

  -- ---- the same by why the selector is none, if it is none

  module _ {fault : Option Kind} (is : fault ≡ selector_fault e) where
    pub read_variants_are_read_as_select : {j : ℕ} {vs : VariantTrees Span} →
        arrow_variants edition t R fault i (Read vs j) →
        select_with edition t R e (selector_fault e) i (Read (select e vs) j)
    read_variants_are_read_as_select {j = j} {vs = vs} h =
        subst (λ x. select_with edition t R e x i (Read (select e vs) j)) is
        (variants_after_arrow_make_select fault _ h)

    pub select_fails_with_its_variants : {f : ReadFault} → Fails t (arrow_variants edition t R fault) i f →
        Fails t (select_with edition t R e (selector_fault e)) i f
    select_fails_with_its_variants {f = f} h =
        subst (λ x. Fails t (select_with edition t R e x) i f) is (fails_from_arrow fault h)

-- The rest of an expression after which there is an arrow, by its select.
pub select_is_read_past_blank : {S X : Type 0} (v : S → X) (edition : Edition) (t : List ℕ) (R : Family)
    (f : ExpressionTree Span → ExpressionTree X) (old new : List (PatternElement S)) {i j k : ℕ} {e : InlineTree Span}
    (r : Result ℕ ReadFault) → inline_expression t R i (Read e j) → Blank t j k → has_arrow t k ≡ true →
    IsFunctionalFamily R → Pushes v t f (select_with edition t R e (selector_fault e)) old new k r →
    Pushes v t f (expression edition t R) old new i r
select_is_read_past_blank v edition t R f old new (Ok x) read blank arrow g (b, there, added) =
    (b, goes_on read (goes_on (passed blank) (goes_on (chosen given) (first arrow there))), added)
select_is_read_past_blank v edition t R f old new (Err _) read blank arrow g h =
    bind_fails_second (inline_is_functional t R g) read
    (bind_fails_second (blank_is_functional t) (passed blank)
    (bind_fails_second (look_is_functional (has_arrow t)) (chosen given)
    (branch_fails_with_first_when_true arrow h)))

-- Why an expression is no selector is reported alike of what represents it.
pub same_selector_fault_of_tree : {X : Type 0} (f : Span → X) (b : InlineTree X) (e : InlineTree Span) → b ≡ inline_map
    f e →
    selector_fault b ≡ selector_fault e
same_selector_fault_of_tree f b e same = ap selector_fault same ∙ mapping_keeps_selector_fault f e
