-- Where an attribute nests too deeply, so does the list.
use Rattle.std.proofs.Common.{◌≡◌, ℕ, List, subst}
use Rattle.fluent_syntax_tree.specs.Entry.{AttributeTree}
use Rattle.fluent_syntax_tree.specs.declared.edition.Edition.{Edition}
use Rattle.fluent_syntax_tree.specs.declared.spans.Span.{Span}
use Rattle.fluent_syntax_grammar.specs.Construct.{Read}
use Rattle.fluent_syntax_grammar.specs.Entries.{attribute_of, attributes_of, no_more, one_more}
use Rattle.fluent_syntax_grammar.specs.Family.{Family}
use Rattle.fluent_syntax_grammar.specs.Nesting.{TooDeep}
use Rattle.fluent_syntax_grammar.proofs.FunctionalEntries.{attribute_of_is_functional}
use Rattle.fluent_syntax_grammar.proofs.FunctionalRules.{IsFunctionalFamily}

module _ (edition : Edition) (t : List ℕ) (R : Family) where
  -- the attribute at the place
  pub attributes_are_too_deep_by_first : {i : ℕ} → TooDeep (attribute_of edition t R) i →
      TooDeep (attributes_of edition t R) i
  attributes_are_too_deep_by_first d o (no_more x) = d _ x
  attributes_are_too_deep_by_first d o (one_more x y) = d _ x

  -- a later one, after an attribute that is read
  pub attributes_are_too_deep_by_later : IsFunctionalFamily R → {i j : ℕ} {a : AttributeTree Span} →
      attribute_of edition t R i (Read a j) → TooDeep (attributes_of edition t R) j →
      TooDeep (attributes_of edition t R) i
  attributes_are_too_deep_by_later h {i = i} x d o (no_more y) =
      let e = (attribute_of_is_functional edition t R h).same i _ _ x y in cc
  attributes_are_too_deep_by_later h {i = i} {j = j} x d o (one_more {j = k} {end = end} {rest = rest} y z) =
      let e = (attribute_of_is_functional edition t R h).same i _ _ y x in
      let place : k ≡ j = cc in
      d _ (subst (λ k. attributes_of edition t R k (Read rest end)) place z)
