-- Where an attribute is refused, there is its place in the text.
use Rattle.std.proofs.Common.{◌≡◌, ℕ, ◌+◌, ◌≤◌, List, length, arith}
use Rattle.fluent_syntax_tree.specs.declared.edition.Edition.{Edition}
use Rattle.fluent_syntax_grammar.specs.Construct.{Refused}
use Rattle.fluent_syntax_grammar.specs.Entries.{attribute, attribute_of}
use Rattle.fluent_syntax_grammar.specs.Grammar.{family, within}
use Rattle.fluent_syntax_grammar.proofs.Boundaries.{places_in_text_are_boundaries}
use Rattle.fluent_syntax_grammar.proofs.Nesting.{within_family}
use Rattle.fluent_syntax_grammar.proofs.SoundEntries.{attribute_is_sound}
use Rattle.fluent_syntax_grammar.proofs.SoundStrings.{InText}
use Rattle.fluent_syntax_parser.specs.Outcomes.{Fails, kind_at, from_of, to_of}
use Rattle.fluent_syntax_parser.specs.declared.fault.Fault.{Fault}
use Rattle.fluent_syntax_parser.specs.declared.fault.Fault.TheVariants as fault
use Rattle.fluent_syntax_parser.specs.declared.fault.ReadFault.TheVariants as faults
use Rattle.fluent_syntax_parser.proofs.entry_forms.ExtentForms.{attribute_is_included}
use Rattle.fluent_syntax_parser.proofs.readers.Fails.{failure_of_refusal_is_refused}

-- the place is not after the end of what the fault says
place_precedes_refusal_end : (f : Fault) (place : ℕ) → place ≤ to_of f place
place_precedes_refusal_end fault.MessageField place = omega arith
place_precedes_refusal_end fault.TermField place = omega arith
place_precedes_refusal_end f place = omega arith

module _ (edition : Edition) (t : List ℕ) (n i : ℕ) (f : Fault) (from place : ℕ) (inside : i ≤ length t)
    (fails : Fails t (attribute_of edition t (within edition t n)) i (faults.Refused f from place)) where
  pub attribute_is_refused_where_its_fault_is :
      attribute edition t i (Refused (kind_at t f from place) (from_of f from place) (to_of f place))
  attribute_is_refused_where_its_fault_is =
      (attribute_is_included edition t (within edition t n) (family edition t) (within_family edition t n)).part i _
      (failure_of_refusal_is_refused fails)

  pub refusal_starts_in_text : from_of f from place ≤ length t
  refusal_starts_in_text =
      ((attribute_is_sound edition t (InText t) (places_in_text_are_boundaries t) {s = i}).holds.on_refused i _ _ _
      (record { late = omega arith; place = inside }) attribute_is_refused_where_its_fault_is).in_text

  -- so the place is not after the one after the text's end
  pub refusal_place_in_text : place ≤ length t + 1
  refusal_place_in_text =
      let fault =
      (attribute_is_sound edition t (InText t) (places_in_text_are_boundaries t) {s = i}).holds.on_refused i _ _ _
      (record { late = omega arith; place = inside }) attribute_is_refused_where_its_fault_is in
      omega (arith, place_precedes_refusal_end f place, fault.one, fault.in_text)
