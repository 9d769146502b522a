-- Messages and terms, by what comes after their names.
use Rattle.std.proofs.Common.{◌≡◌, ℕ, true, false, List, [], ◌∷◌, Option, Some, None, map, ap, refl, length, arith}
use Rattle.std.specs.Prelude.{option_map, is_some, ◌==◌}
use Rattle.std.proofs.lemmas.Bool.Decides.{nat_tests}
use Rattle.fluent_syntax_tree.specs.Kind.{Kind, ExpectedMessageField}
use Rattle.fluent_syntax_tree.specs.Entry.{AttributeTree, EntryTree, message}
use Rattle.fluent_syntax_tree.specs.Spans.{bytes_at}
use Rattle.fluent_syntax_tree.specs.Tree.{PatternTree}
use Rattle.fluent_syntax_tree.specs.declared.edition.Edition.{Edition}
use Rattle.fluent_syntax_tree.specs.declared.spans.Span.{Span}
use Rattle.fluent_syntax_grammar.specs.Bytes.{equals_sign}
use Rattle.fluent_syntax_grammar.specs.Construct.{Outcome, Construct, Read, Refused, ◌>>=◌, ◌>>◌, stops, goes_on, given}
use Rattle.fluent_syntax_grammar.specs.Construct.{failed_from}
use Rattle.fluent_syntax_grammar.specs.Entries.{attributes_of, message_with}
use Rattle.fluent_syntax_grammar.specs.Family.{Family}
use Rattle.fluent_syntax_grammar.specs.Nesting.{TooDeep}
use Rattle.fluent_syntax_grammar.specs.Patterns.{pattern}
use Rattle.fluent_syntax_parser.specs.Outcomes.{Fails, no_memory, refused, too_deep}
use Rattle.fluent_syntax_parser.specs.declared.fault.ReadFault.{ReadFault}
use Rattle.fluent_syntax_grammar.specs.Tokens.{blank_block, inline_blank, token}
use Rattle.fluent_syntax_parser.specs.Fields.{FieldTrees, fields}

module _ (edition : Edition) (t : List ℕ) (R : Family)
    (last : Option (PatternTree Span) → List (AttributeTree Span) → Construct (EntryTree Span)) where
  -- an entry after its name
  abbrev pub EntryAfterName : Construct (EntryTree Span)
  EntryAfterName = do
    inline_blank t
    token t equals_sign
    value ← pattern edition t R
    blank_block t
    rest ← attributes_of edition t R
    last value rest

  pub fields_go_on : (i j : ℕ) (f : FieldTrees Span) (o : Outcome (EntryTree Span)) → fields edition t R i
      (Read f j) →
      last f.0 f.1 j o → EntryAfterName i o
  fields_go_on i j f o (goes_on blank (goes_on equals (goes_on value (goes_on block (goes_on rest given))))) end =
      goes_on blank (goes_on equals (goes_on value (goes_on block (goes_on rest end))))

  pub refused_fields_refuse_entry : (i from to : ℕ) (k : Kind) → fields edition t R i (Refused k from to) →
      EntryAfterName i (Refused k from to)
  refused_fields_refuse_entry i from to k (stops x) = stops x
  refused_fields_refuse_entry i from to k (goes_on blank (stops x)) = goes_on blank (stops x)
  refused_fields_refuse_entry i from to k (goes_on blank (goes_on equals (stops x))) =
      goes_on blank (goes_on equals (stops x))
  refused_fields_refuse_entry i from to k (goes_on blank (goes_on equals (goes_on value (stops x)))) =
      goes_on blank (goes_on equals (goes_on value (stops x)))
  refused_fields_refuse_entry i from to k (goes_on blank (goes_on equals (goes_on value (goes_on block (stops x))))) =
      goes_on blank (goes_on equals (goes_on value (goes_on block (stops x))))
  refused_fields_refuse_entry i from to k
      (goes_on blank (goes_on equals (goes_on value (goes_on block (goes_on rest x))))) =
      elim x [ ]

  -- where what comes after the name nests too deeply
  too_deep_fields_make_entry_too_deep : (i : ℕ) → TooDeep (fields edition t R) i → TooDeep EntryAfterName i
  too_deep_fields_make_entry_too_deep i h o (stops x) = h _ (stops x)
  too_deep_fields_make_entry_too_deep i h o (goes_on blank (stops x)) = h _ (goes_on blank (stops x))
  too_deep_fields_make_entry_too_deep i h o (goes_on blank (goes_on equals (stops x))) =
      h _ (goes_on blank (goes_on equals (stops x)))
  too_deep_fields_make_entry_too_deep i h o (goes_on blank (goes_on equals (goes_on value (stops x)))) =
      h _ (goes_on blank (goes_on equals (goes_on value (stops x))))
  too_deep_fields_make_entry_too_deep i h o (goes_on blank (goes_on equals (goes_on value (goes_on block (stops x))))) =
      h _ (goes_on blank (goes_on equals (goes_on value (goes_on block (stops x)))))
  too_deep_fields_make_entry_too_deep i h o
      (goes_on blank (goes_on equals (goes_on value (goes_on block (goes_on rest x))))) =
      h _ (goes_on blank (goes_on equals (goes_on value (goes_on block (goes_on rest given)))))

  pub entry_after_name_fails_where_fields_fail : {i : ℕ} {f : ReadFault} → Fails t (fields edition t R) i f →
      Fails t EntryAfterName i f
  entry_after_name_fails_where_fields_fail (refused h) =
      refused (λ k from to s. refused_fields_refuse_entry _ from to k (h k from to s))
  entry_after_name_fails_where_fields_fail (too_deep h) = too_deep (too_deep_fields_make_entry_too_deep _ h)
  entry_after_name_fails_where_fields_fail no_memory = no_memory

-- ---- the last part of a message

module _ (t : List ℕ) (start j : ℕ) (id : Span) where
  pub message_without_fields_is_refused : (v : Option (PatternTree Span)) (rest : List (AttributeTree Span)) →
      is_some v ≡ false →
      rest ≡ [] → message_with t start id v rest j (Refused (ExpectedMessageField (bytes_at t id)) start j)
  message_without_fields_is_refused None rest none empty = rw empty failed_from
  message_without_fields_is_refused (Some v) rest none empty = cc

  abbrev ReadsMessageOf : Option (PatternTree Span) → List (AttributeTree Span) → Type 0
  ReadsMessageOf v rest =
      message_with t start id v rest j
      (Read (message (record { id = id; value = v; attributes = rest; comment = None })) j)

  pub message_form_of_value : (v : Option (PatternTree Span)) (rest : List (AttributeTree Span)) → is_some v ≡ true →
      ReadsMessageOf v rest
  message_form_of_value None rest some = cc
  message_form_of_value (Some v) rest some = given

  pub message_form_of_attributes : (v : Option (PatternTree Span)) (rest : List (AttributeTree Span)) → (rest ≡ [] → ⊥)
      → ReadsMessageOf v rest
  message_form_of_attributes v [] some = absurd (some refl)
  message_form_of_attributes None (a ∷ rest) some = given
  message_form_of_attributes (Some v) (a ∷ rest) some = given

-- ---- whether there is a value, and whether there are attributes

pub equals_are_both_some : {A B C : Type 0} (f : A → C) (g : B → C) (o : Option A) (p : Option B) →
    option_map f o ≡ option_map g p → is_some p ≡ is_some o
equals_are_both_some f g None None e = refl
equals_are_both_some f g None (Some y) e = cc
equals_are_both_some f g (Some x) None e = cc
equals_are_both_some f g (Some x) (Some y) e = refl

pub list_with_image_of_empty_is_empty : {A B C : Type 0} (f : A → C) (g : B → C) (xs : List A) (ys : List B) →
    map f xs ≡ map g ys → xs ≡ [] → ys ≡ []
list_with_image_of_empty_is_empty f g [] [] e h = refl
list_with_image_of_empty_is_empty f g [] (y ∷ ys) e h = cc
list_with_image_of_empty_is_empty f g (x ∷ xs) ys e h = cc

abbrev some_item_or : {B : Type 0} → B → Option B → B
some_item_or b None = b
some_item_or b (Some c) = c

module _ {A B C : Type 0} (g : A → C) (c : Construct (Option A × List B)) {i j : ℕ} where
  pub some_value_is_read_as_some : {G : Type 0} {b : C} (x : Option A × List B) → c i (Read x j) →
      Some b ≡ option_map g x.0 → ((a : A) → c i (Read (Some a, x.1) j) → b ≡ g a → G) → G
  some_value_is_read_as_some (None, rest) h e k = cc
  some_value_is_read_as_some {b = b} (Some a, rest) h e k = k a h (ap (some_item_or b) e)

  pub no_value_is_read_as_none : (x : Option A × List B) → c i (Read x j) → None ≡ option_map g x.0 →
      c i (Read (None, x.1) j)
  no_value_is_read_as_none (None, rest) h e = h
  no_value_is_read_as_none (Some a, rest) h e = cc

pub zero_count_is_empty : {X : Type 0} (xs : List X) (n : ℕ) → length xs ≡ n → true ≡ (n == 0) → xs ≡ []
zero_count_is_empty [] n e h = refl
zero_count_is_empty (x ∷ xs) n e h = grind (arith, nat_tests)

pub nonzero_count_is_not_empty : {X : Type 0} (xs : List X) (n : ℕ) → length xs ≡ n → false ≡ (n == 0) → xs ≡ [] → ⊥
nonzero_count_is_not_empty [] n e h f = grind (arith, nat_tests)
nonzero_count_is_not_empty (x ∷ xs) n e h f = cc
