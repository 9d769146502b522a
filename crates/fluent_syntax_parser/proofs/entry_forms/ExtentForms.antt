-- Where the parts of an entry are, the entry is read.
use Rattle.std.proofs.Common.{◌≡◌, ℕ, true, false, List, [], ◌∷◌, ◌++◌, append_assoc, Option, Some, None, refl}
use Rattle.std.proofs.Common.{sym, subst, append-nil}
use Rattle.std.specs.Prelude.{Ok, option_map, is_some, slice_get}
use Rattle.fluent_syntax_tree.specs.Entry.{AttributeTree, EntryTree, Level, comment}
use Rattle.fluent_syntax_tree.specs.Kind.{Kind}
use Rattle.fluent_syntax_tree.specs.Tree.{PatternTree}
use Rattle.fluent_syntax_tree.specs.declared.edition.Edition.{Edition}
use Rattle.fluent_syntax_tree.specs.declared.spans.Span.{Span}
use Rattle.fluent_syntax_grammar.specs.Bytes.{hash}
use Rattle.fluent_syntax_grammar.specs.Comments.{comment_entry}
use Rattle.fluent_syntax_grammar.specs.Construct.{Read, Refused, goes_on, given, passed, chosen}
use Rattle.fluent_syntax_grammar.specs.Entries.{attribute_of, attributes_of, no_more, one_more}
use Rattle.fluent_syntax_grammar.specs.Family.{Family}
use Rattle.fluent_syntax_grammar.specs.Grammar.{family, within}
use Rattle.fluent_syntax_grammar.specs.Places.{has_byte}
use Rattle.fluent_syntax_grammar.specs.Tiling.{entry_at, entry_in}
use Rattle.fluent_syntax_grammar.proofs.HoareTriple.{yields_reads_its_value_in_place}
use Rattle.fluent_syntax_grammar.proofs.FunctionalEntries.{entry_is_functional}
use Rattle.fluent_syntax_grammar.proofs.Included.{IsIncluded, IsIncludedFamily, pattern_is_included, inclusions}
use Rattle.fluent_syntax_grammar.proofs.IncludedEntries.{entry_is_included}
use Rattle.fluent_syntax_grammar.proofs.Nesting.{within_family}
use Rattle.fluent_syntax_parser.proofs.entry_forms.EntryForms.{entry_of_hash_is_comment}
use Rattle.fluent_syntax_parser.specs.PartRanges.{HasAttributeParts, HaveAttributeParts, no_attribute_parts}
use Rattle.fluent_syntax_parser.specs.PartRanges.{more_attribute_parts, HaveFieldParts, HasEntryParts}
use Rattle.fluent_syntax_parser.specs.PartRanges.{message_has_parts, term_has_parts, EntryWithParts, FindsEntry}
use Rattle.fluent_syntax_parser.specs.PartRanges.{HasRanges}
use Rattle.fluent_syntax_parser.specs.Fields.{FieldTrees, fields}
use Rattle.fluent_syntax_parser.specs.declared.ranges.AttributeRanges.{AttributeRanges}
use Rattle.fluent_syntax_parser.specs.declared.ranges.EntryRanges.{EntryRanges}

-- ---- they are read

module _ (edition : Edition) (t : List ℕ) (R : Family) where
  pub parts_of_attributes_read_as_attributes : {i end : ℕ} {xs : List AttributeRanges} {rest : List
      (AttributeTree Span)} → HaveAttributeParts edition t R i xs rest end → attributes_of edition t R i (Read rest end)
  parts_of_attributes_read_as_attributes (no_attribute_parts x) = no_more x
  parts_of_attributes_read_as_attributes (more_attribute_parts {x = x} {a = a} begins s more) =
      one_more (subst (λ i. attribute_of edition t R i (Read a x.span.end)) begins s.whole)
      (parts_of_attributes_read_as_attributes more)

  -- what comes after a name, from the place to the end
  module _ (i end : ℕ) (xs : List AttributeRanges) where
    pub parts_of_fields_read_as_fields : (o : Option Span) (f : FieldTrees Span) →
        HaveFieldParts edition t R i o xs f end → fields edition t R i (Read f end)
    parts_of_fields_read_as_fields o f s =
        goes_on (passed s.beyond)
        (goes_on s.sign
        (goes_on s.value
        (goes_on (passed s.blank)
        (goes_on (parts_of_attributes_read_as_attributes s.attributes)
        given))))

    pub value_is_there_where_its_range_is : (o : Option Span) (f : FieldTrees Span) →
        HaveFieldParts edition t R i o xs f end → is_some f.0 ≡ is_some o
    value_is_there_where_its_range_is None (None, rest) s = refl
    value_is_there_where_its_range_is None (Some v, rest) s = let h = s.there in cc
    value_is_there_where_its_range_is (Some p) (None, rest) s = let h = s.there in cc
    value_is_there_where_its_range_is (Some p) (Some v, rest) s = refl

    pub fields_with_value_range_have_value : {G : Type 0} (o : Option Span) (f : FieldTrees Span) →
        HaveFieldParts edition t R i o xs f end →
        is_some o ≡ true → ((v : PatternTree Span) → HaveFieldParts edition t R i o xs (Some v, f.1) end → G) → G
    fields_with_value_range_have_value None f s e k = cc
    fields_with_value_range_have_value (Some p) (None, rest) s e k = let h = s.there in cc
    fields_with_value_range_have_value (Some p) (Some v, rest) s e k = k v s

    pub fields_without_value_range_have_none : (o : Option Span) (f : FieldTrees Span) →
        HaveFieldParts edition t R i o xs f end → is_some o ≡ false → HaveFieldParts edition t R i o xs (None, f.1) end
    fields_without_value_range_have_none None (None, rest) s e = s
    fields_without_value_range_have_none None (Some v, rest) s e = let h = s.there in cc
    fields_without_value_range_have_none (Some p) f s e = cc

  pub no_attribute_ranges_mean_no_trees : {i end : ℕ} {xs : List AttributeRanges} {rest : List (AttributeTree Span)} →
      HaveAttributeParts edition t R i xs rest end → xs ≡ [] → rest ≡ []
  no_attribute_ranges_mean_no_trees (no_attribute_parts x) e = refl
  no_attribute_ranges_mean_no_trees (more_attribute_parts begins s more) e = cc

  pub no_attribute_trees_mean_no_ranges : {i end : ℕ} {xs : List AttributeRanges} {rest : List (AttributeTree Span)} →
      HaveAttributeParts edition t R i xs rest end → rest ≡ [] → xs ≡ []
  no_attribute_trees_mean_no_ranges (no_attribute_parts x) e = refl
  no_attribute_trees_mean_no_ranges (more_attribute_parts begins s more) e = cc

  -- ---- a list that a loop gathers

  -- What there is from the one place to the other is what was gathered: before what follows it, it is there with that.
  pub record GathersRanges (i : ℕ) (xs : List AttributeRanges) (j : ℕ) : Type 0 where
    pub items : List (AttributeTree Span)
    pub parts_hold : (more : List AttributeRanges) (rest : List (AttributeTree Span)) (end : ℕ) →
        HaveAttributeParts edition t R j more rest end
        → HaveAttributeParts edition t R i (xs ++ more) (items ++ rest) end

  pub no_ranges_are_gathered_at_start : (i : ℕ) → GathersRanges i [] i
  no_ranges_are_gathered_at_start i = record { items = []; parts_hold = λ more rest end h. h }

  pub ranges_with_one_more_are_gathered : (i : ℕ) (xs ys : List AttributeRanges) (j : ℕ) (x : AttributeRanges) →
      ys ≡ xs ++ x ∷ [] →
      GathersRanges i xs j → (a : AttributeTree Span) → HasAttributeParts edition t R x a → x.span.start ≡ j →
      GathersRanges i ys x.span.end
  ranges_with_one_more_are_gathered i xs ys j x all g a s begins = record {
    items = g.items ++ a ∷ [];
    parts_hold = λ more rest end h.
        rw (all, append_assoc xs (x ∷ []) more, append_assoc g.items (a ∷ []) rest)
        (g.parts_hold (x ∷ more) (a ∷ rest) end (more_attribute_parts begins s h));
  }

  pub gathered_ranges_are_all_at_refusal : (i : ℕ) (xs : List AttributeRanges) (j : ℕ) →
      (g : GathersRanges i xs j) → {from to : ℕ} → {k : Kind} → attribute_of edition t R j (Refused k from to) →
      HaveAttributeParts edition t R i xs g.items j
  gathered_ranges_are_all_at_refusal i xs j g none =
      rw (← append-nil xs, ← append-nil g.items)
      (g.parts_hold [] [] j (no_attribute_parts none))

-- ---- within a family that is included in another

module _ (edition : Edition) (t : List ℕ) (R S : Family) (h : IsIncludedFamily R S) where
  pub attribute_is_included : IsIncluded (attribute_of edition t R) (attribute_of edition t S)
  attribute_is_included = search (inclusions, pattern_is_included) depth 30

  parts_of_attribute_are_included : {x : AttributeRanges} {a : AttributeTree Span} → HasAttributeParts edition t R x a →
      HasAttributeParts edition t S x a
  parts_of_attribute_are_included s = record {
    whole = attribute_is_included.part _ _ s.whole;
    dot = s.dot;
    before = s.before;
    point = s.point;
    name = s.name;
    named = s.named;
    equals = s.equals;
    beyond = s.beyond;
    sign = s.sign;
    value = (pattern_is_included edition t R S h).part _ _ s.value;
    ends = s.ends;
  }

  parts_of_attributes_are_included : {i end : ℕ} {xs : List AttributeRanges} {rest : List (AttributeTree Span)} →
      HaveAttributeParts edition t R i xs rest end → HaveAttributeParts edition t S i xs rest end
  parts_of_attributes_are_included (no_attribute_parts x) = no_attribute_parts (attribute_is_included.part _ _ x)
  parts_of_attributes_are_included (more_attribute_parts begins s more) =
      more_attribute_parts begins (parts_of_attribute_are_included s) (parts_of_attributes_are_included more)

  parts_of_fields_are_included : {i end : ℕ} {o : Option Span} {xs : List AttributeRanges} {f : FieldTrees Span} →
      HaveFieldParts edition t R i o xs f end → HaveFieldParts edition t S i o xs f end
  parts_of_fields_are_included s = record {
    equals = s.equals;
    beyond = s.beyond;
    place = s.place;
    sign = s.sign;
    value = (pattern_is_included edition t R S h).part _ _ s.value;
    there = s.there;
    line = s.line;
    blank = s.blank;
    attributes = parts_of_attributes_are_included s.attributes;
  }

  parts_of_entry_are_included : {i end : ℕ} {x : EntryRanges} {e : EntryTree Span} →
      HasEntryParts edition t R i x e end → HasEntryParts edition t S i x e end
  parts_of_entry_are_included (message_has_parts begins name s) =
      message_has_parts begins name (parts_of_fields_are_included s)
  parts_of_entry_are_included (term_has_parts mark name s) = term_has_parts mark name (parts_of_fields_are_included s)

  pub found_parts_of_entry_are_included : (i : ℕ) (x : EntryRanges) → EntryWithParts edition t R i x →
      EntryWithParts edition t S i x
  found_parts_of_entry_are_included i x s = record {
    tree = s.tree;
    end = s.end;
    read = (entry_is_included edition t R S h).part _ _ s.read;
    parts = parts_of_entry_are_included s.parts;
  }

-- ---- where no message and no term is read

module _ (t : List ℕ) (i j : ℕ) (e : EntryTree Span) where
  abbrev IsComment : Type 0
  IsComment = (level : Level) × (content : List Span) × (e ≡ comment level content)

  read_comment_is_comment : comment_entry t i (Read e j) → IsComment
  read_comment_is_comment (chosen (goes_on x (goes_on {j = m} y z))) =
      (_, _, sym (yields_reads_its_value_in_place _ e m j z).0)

  pub hash_is_comment : (edition : Edition) → has_byte t hash i ≡ true → entry_at edition t i (Read e j) → IsComment
  hash_is_comment edition there (chosen x) =
      read_comment_is_comment
      (entry_of_hash_is_comment edition t (family edition t) i (Read e j) (slice_get t i) there x)

  pub none_is_read : (edition : Edition) (n from to : ℕ) (k : Kind) →
      entry_in edition t (within edition t n) i (Refused k from to) → entry_at edition t i (Read e j) → IsComment
  none_is_read edition n from to k x read =
      let same =
      (entry_is_functional edition t).same i _ _
      ((entry_is_included edition t (within edition t n) (family edition t) (within_family edition t n)).part i _ x)
      read
      in cc

module _ (edition : Edition) (t : List ℕ) (n i : ℕ) where
  pub found_ranges_are_those_of_entry : (found : Option EntryRanges) →
      FindsEntry edition t (within edition t n) i (Ok found) → HasRanges edition t i found
  found_ranges_are_those_of_entry None there = λ e end h. hash_is_comment t i end e edition there h
  found_ranges_are_those_of_entry (Some x) s =
      found_parts_of_entry_are_included edition t (within edition t n) (family edition t)
      (within_family edition t n) i x s

-- ---- a place that there is where there is a value

pub equal_options_same_place : {A B C : Type 0} (f : A → C) (g : B → C) (place : Span) (o : Option A) (p : Option B) →
    option_map f o ≡ option_map g p → option_map (λ v. place) o ≡ option_map (λ v. place) p
equal_options_same_place f g place None None e = refl
equal_options_same_place f g place None (Some y) e = cc
equal_options_same_place f g place (Some x) None e = cc
equal_options_same_place f g place (Some x) (Some y) e = refl
