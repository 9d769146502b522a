-- Which entry of a tree is the first that is not canonical, and which rule it breaks first.
use Rattle.std.specs.Prelude.{ℕ, ◌+◌, ◌≡◌, List, [], ◌∷◌, take, Option, Some, None, true, false, not, slice_get}
use Rattle.std.specs.List.{find, list_all}
use Rattle.fluent_syntax_tree.specs.Entry.{EntryTree, BodyTree}
use Rattle.fluent_syntax_tree.specs.declared.edition.Edition.{Edition}
use Rattle.fluent_syntax_grammar.specs.Canonical.{is_canonical}
use Rattle.fluent_syntax_grammar.specs.Written.{Text}
use Rattle.fluent_syntax_writer.specs.SingleRule.{every_rule, entry_keeps}
use Rattle.fluent_syntax_writer.specs.declared.canonical.broken_rules.Uncanonical.{Uncanonical}
use Rattle.fluent_syntax_writer.specs.declared.canonical.rules.Rule.{Rule}

-- the first of these rules that the entry breaks
abbrev pub first_of : Edition → EntryTree Text → List Rule → Option Rule
first_of edition e rules = find (λ rule. not (entry_keeps edition rule e)) rules

-- the first rule that the entry breaks
abbrev pub broken_rule : Edition → EntryTree Text → Option Rule
broken_rule edition e = first_of edition e every_rule

-- the entry of that number, if it breaks a rule, and else what is found after it
abbrev pub or_after : ℕ → Option Rule → (after : Option Uncanonical) → Option Uncanonical
or_after n None after = after
or_after n (Some rule) after = Some (record { entry = n; rule = rule })

-- The first entry, of these, that breaks a rule; the first of them has the number n.
abbrev pub first_from : Edition → (n : ℕ) → BodyTree Text → Option Uncanonical
first_from edition n [] = None
first_from edition n (e ∷ es) = or_after n (broken_rule edition e) (first_from edition (n + 1) es)

-- The first entry that breaks a rule, and the first rule that it breaks.
abbrev pub first_uncanonical : Edition → BodyTree Text → Option Uncanonical
first_uncanonical edition body = first_from edition 0 body

-- What was found is really so: the entries before are canonical, and the entry of that number breaks the rule, and none
-- before it.
pub record IsFirstBroken (edition : Edition) (body : BodyTree Text) (found : Uncanonical) : Type 0 where
  pub before : is_canonical edition (take found.entry body) ≡ true
  pub entry : EntryTree Text
  pub there : slice_get body found.entry ≡ Some entry
  pub breaks : entry_keeps edition found.rule entry ≡ false
  -- how many rules come before that one
  pub kept : ℕ
  pub named : slice_get every_rule kept ≡ Some found.rule
  pub first : list_all (λ rule. entry_keeps edition rule entry) (take kept every_rule) ≡ true
