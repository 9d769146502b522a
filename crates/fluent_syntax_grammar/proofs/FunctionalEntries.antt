-- Entries have at most one outcome at a place.
use Rattle.std.proofs.Common.{◌≡◌, ℕ, List, [], ◌∷◌, Option, Some, None, Bool, true, false, refl, sym, subst}
use Rattle.fluent_syntax_tree.specs.Tree.{PatternTree}
use Rattle.fluent_syntax_tree.specs.Entry.{AttributeTree}
use Rattle.fluent_syntax_grammar.specs.Family.{Family}
use Rattle.fluent_syntax_grammar.specs.Patterns as patterns
use Rattle.fluent_syntax_grammar.specs.Entries.{attribute_of, attributes_of, message_of, term_of}
use Rattle.fluent_syntax_grammar.specs.Tiling.{entry_in}
use Rattle.fluent_syntax_grammar.proofs.FunctionalRules.{IsFunctionalFamily}
use Rattle.fluent_syntax_grammar.specs.Construct.{Outcome, Read}
use Rattle.fluent_syntax_grammar.specs.Grammar.{pattern, family}
use Rattle.fluent_syntax_grammar.specs.Entries.{attribute_with, message_with, term_with, attribute, attributes, no_more}
use Rattle.fluent_syntax_grammar.specs.Entries.{one_more, message_entry, term_entry}
use Rattle.fluent_syntax_grammar.specs.Comments as comments
use Rattle.fluent_syntax_grammar.specs.Comments.{comment_text, comment_rest, comment_line, comment_lines, comment_of}
use Rattle.fluent_syntax_grammar.specs.Comments.{comment_entry, other_level, no_comment_line}
use Rattle.fluent_syntax_grammar.specs.Tiling.{entry_of, entry_at}
use Rattle.fluent_syntax_tree.specs.declared.edition.Edition.{Edition}
use Rattle.fluent_syntax_tree.specs.declared.spans.Span.{Span}
use Rattle.fluent_syntax_grammar.specs.UniqueReading.{IsFunctional}
use Rattle.fluent_syntax_grammar.proofs.Functional.{functional}
use Rattle.fluent_syntax_grammar.proofs.FunctionalWords.{token_is_functional, identifier_is_functional}
use Rattle.fluent_syntax_grammar.proofs.FunctionalWords.{optional_eol_is_functional, rest_of_line_is_functional}
use Rattle.fluent_syntax_grammar.proofs.FunctionalRules as rules
use Rattle.fluent_syntax_grammar.proofs.Nesting.{family_is_functional}

ruleset words = (
  functional,
  token_is_functional,
  identifier_is_functional,
  optional_eol_is_functional,
  rest_of_line_is_functional,
)

attribute_with_is_functional : (id : Span) (value : Option (PatternTree Span)) → IsFunctional (attribute_with id value)
attribute_with_is_functional id None = search words depth 30
attribute_with_is_functional id (Some value) = search words depth 30

message_with_is_functional :
    (t : List ℕ) (start : ℕ) (id : Span) (value : Option (PatternTree Span)) (rest : List (AttributeTree Span)) →
    IsFunctional (message_with t start id value rest)
message_with_is_functional t start id None [] = search words depth 30
message_with_is_functional t start id None (a ∷ rest) = search words depth 30
message_with_is_functional t start id (Some value) rest = search words depth 30

term_with_is_functional :
    (t : List ℕ) (start : ℕ) (id : Span) (value : Option (PatternTree Span)) (rest : List (AttributeTree Span)) →
    IsFunctional (term_with t start id value rest)
term_with_is_functional t start id None rest = search words depth 30
term_with_is_functional t start id (Some value) rest = search words depth 30

module _ (edition : Edition) (t : List ℕ) (R : Family) (h : IsFunctionalFamily R) where
  pattern_of_is_functional : IsFunctional (patterns.pattern edition t R)
  pattern_of_is_functional = rules.pattern_over_is_functional edition t R h

  pub attribute_of_is_functional : IsFunctional (attribute_of edition t R)
  attribute_of_is_functional = search (words, attribute_with_is_functional, pattern_of_is_functional) depth 30

  attributes_unique : (i : ℕ) (o p : Outcome (List (AttributeTree Span))) → attributes_of edition t R i o →
      attributes_of edition t R i p → o ≡ p
  attributes_unique i o p (no_more a) (no_more b) = refl
  attributes_unique i o p (no_more a) (one_more b c) = let h = attribute_of_is_functional.same i _ _ a b in cc
  attributes_unique i o p (one_more a b) (no_more c) = let h = attribute_of_is_functional.same i _ _ a c in cc
  attributes_unique i o p (one_more {j = j} {end = e} {a = x} {rest = xs} a b)
      (one_more {j = k} {end = f} {a = y} {rest = ys} c d) =
      let h = attribute_of_is_functional.same i _ _ a c in
      let same_j : j ≡ k = cc in
      let same_x : x ≡ y = cc in
      let rest : Read xs e ≡ Read ys f =
      attributes_unique j _ _ b (subst (λ k. attributes_of edition t R k (Read ys f)) (sym same_j) d) in
      cc

  attributes_of_is_functional : IsFunctional (attributes_of edition t R)
  attributes_of_is_functional = record { same = attributes_unique }

  message_of_is_functional : IsFunctional (message_of edition t R)
  message_of_is_functional =
      search (words, message_with_is_functional, pattern_of_is_functional, attributes_of_is_functional) depth 30

  term_of_is_functional : IsFunctional (term_of edition t R)
  term_of_is_functional = search (words, term_with_is_functional, pattern_of_is_functional, attributes_of_is_functional)
      depth 30

module _ (t : List ℕ) where
  comment_text_is_functional : (eol : Bool) → IsFunctional (comment_text t eol)
  comment_text_is_functional true = search words depth 30
  comment_text_is_functional false = search words depth 30

  comment_rest_is_functional : (b : Option ℕ) → IsFunctional (comment_rest t b)
  comment_rest_is_functional None = search words depth 30
  comment_rest_is_functional (Some b) = search (words, comment_text_is_functional) depth 30

  pub comment_line_is_functional : (level : ℕ) → IsFunctional (comment_line t level)
  comment_line_is_functional level = search (words, comment_rest_is_functional) depth 30

  comment_lines_unique : (level i : ℕ) (o p : Outcome (List Span)) → comment_lines t level i o →
      comment_lines t level i p → o ≡ p
  comment_lines_unique level i o p (other_level a) (other_level b) = refl
  comment_lines_unique level i o p (other_level a) (no_comment_line b c) = refl
  comment_lines_unique level i o p (other_level a) (comments.one_more b c d) = absurd (a b)
  comment_lines_unique level i o p (no_comment_line a b) (other_level c) = refl
  comment_lines_unique level i o p (no_comment_line a b) (no_comment_line c d) = refl
  comment_lines_unique level i o p (no_comment_line a b) (comments.one_more c d e) =
      let h = (comment_line_is_functional level).same i _ _ b d in cc
  comment_lines_unique level i o p (comments.one_more a b c) (other_level d) = absurd (d a)
  comment_lines_unique level i o p (comments.one_more a b c) (no_comment_line d e) =
      let h = (comment_line_is_functional level).same i _ _ b e in cc
  comment_lines_unique level i o p (comments.one_more {j = j} {end = m} {content = x} {rest = xs} a b c)
      (comments.one_more {j = k} {end = n} {content = y} {rest = ys} d e f) =
      let h = (comment_line_is_functional level).same i _ _ b e in
      let same_j : j ≡ k = cc in
      let same_x : x ≡ y = cc in
      let rest : Read xs m ≡ Read ys n =
      comment_lines_unique level j _ _ c (subst (λ k. comment_lines t level k (Read ys n)) (sym same_j) f) in
      cc

  pub comment_lines_are_functional : (level : ℕ) → IsFunctional (comment_lines t level)
  comment_lines_are_functional level = record { same = comment_lines_unique level }

  comment_of_is_functional : (level : ℕ) → IsFunctional (comment_of t level)
  comment_of_is_functional level = search (words, comment_line_is_functional, comment_lines_are_functional) depth 30

  pub comment_is_functional : IsFunctional (comment_entry t)
  comment_is_functional = search (words, comment_of_is_functional) depth 30

module _ (edition : Edition) (t : List ℕ) (R : Family) (h : IsFunctionalFamily R) where
  entry_of_is_functional : (b : Option ℕ) → IsFunctional (entry_of edition t R b)
  entry_of_is_functional None = message_of_is_functional edition t R h
  entry_of_is_functional (Some b) =
      search (words, comment_is_functional, term_of_is_functional, message_of_is_functional) depth 30

  -- the entries over a family whose constructs have at most one outcome
  pub entry_in_is_functional : IsFunctional (entry_in edition t R)
  entry_in_is_functional = search (words, entry_of_is_functional) depth 30

module _ (edition : Edition) (t : List ℕ) where
  pub pattern_is_functional : IsFunctional (pattern edition t)
  pattern_is_functional = pattern_of_is_functional edition t (family edition t) (family_is_functional edition t)

  pub attribute_is_functional : IsFunctional (attribute edition t)
  attribute_is_functional = attribute_of_is_functional edition t (family edition t) (family_is_functional edition t)

  pub attributes_are_functional : IsFunctional (attributes edition t)
  attributes_are_functional = attributes_of_is_functional edition t (family edition t) (family_is_functional edition t)

  pub message_is_functional : IsFunctional (message_entry edition t)
  message_is_functional = message_of_is_functional edition t (family edition t) (family_is_functional edition t)

  pub term_is_functional : IsFunctional (term_entry edition t)
  term_is_functional = term_of_is_functional edition t (family edition t) (family_is_functional edition t)

  pub entry_is_functional : IsFunctional (entry_at edition t)
  entry_is_functional = entry_in_is_functional edition t (family edition t) (family_is_functional edition t)
