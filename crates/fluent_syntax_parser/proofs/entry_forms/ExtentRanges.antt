-- The ranges of an entry's parts are ordered, and begin and end at places of any kind that words begin and end at.
use Rattle.std.proofs.Common.{◌≡◌, ℕ, true, List, Option, Some, None, refl, sym, subst, arith}
use Rattle.std.specs.Prelude.{IfSome, option_map, slice_get}
use Rattle.std.specs.Str.{IsCharBoundary, IsUtf8}
use Rattle.fluent_syntax_tree.specs.Entry.{AttributeTree, EntryTree}
use Rattle.fluent_syntax_tree.specs.Every.{list_every, option_every}
use Rattle.fluent_syntax_tree.specs.Tree.{PatternTree}
use Rattle.fluent_syntax_tree.specs.Spans.{IsTextRange}
use Rattle.fluent_syntax_tree.specs.declared.edition.Edition.{Edition}
use Rattle.fluent_syntax_tree.specs.declared.spans.Span.{Span}
use Rattle.fluent_syntax_grammar.specs.Bytes.{equals_sign, is_letter, is_name_byte}
use Rattle.fluent_syntax_grammar.specs.Construct.{Construct, Read, at_place, chosen, first, given, goes_on, passed}
use Rattle.fluent_syntax_grammar.specs.Construct.{second}
use Rattle.fluent_syntax_grammar.specs.Grammar.{family, pattern}
use Rattle.fluent_syntax_grammar.specs.Places.{InlineBlank, has}
use Rattle.fluent_syntax_grammar.specs.Tokens.{identifier, token}
use Rattle.fluent_syntax_grammar.proofs.Boundaries.{char_boundaries_are_boundaries}
use Rattle.fluent_syntax_grammar.proofs.Cuts.{AreBoundaries, byte_of_ascii_set_is_ascii, name_set_is_ascii}
use Rattle.fluent_syntax_grammar.proofs.Sound.{Ended, IsSpan, Sound, blank_block_is_sound, inline_blank_is_sound}
use Rattle.fluent_syntax_grammar.proofs.SoundEntries.{attribute_is_sound, pattern_is_sound}
use Rattle.fluent_syntax_grammar.proofs.SoundWords.{identifier_is_sound, token_is_sound}
use Rattle.fluent_syntax_grammar.proofs.Facts.{tests_imply}
use Rattle.fluent_syntax_grammar.proofs.Tests.{letter_is_name_byte}
use Rattle.fluent_syntax_parser.specs.PartRanges.{HasAttributeParts, HaveAttributeParts, HasEntryParts, HaveFieldParts}
use Rattle.fluent_syntax_parser.specs.PartRanges.{HasRanges, ReadAt, each_attribute_range, message_has_parts}
use Rattle.fluent_syntax_parser.specs.PartRanges.{no_attribute_parts, more_attribute_parts, each_range, term_has_parts}
use Rattle.fluent_syntax_parser.specs.Fields.{FieldTrees}
use Rattle.fluent_syntax_parser.specs.declared.ranges.AttributeRanges.{AttributeRanges}
use Rattle.fluent_syntax_parser.specs.declared.ranges.EntryRanges.{EntryRanges}

identifier_begins_with_letter : (t : List ℕ) (i j : ℕ) (a : Span) → identifier t i (Read a j) → has t is_letter i ≡ true
identifier_begins_with_letter t i j a (goes_on at_place (goes_on (chosen given) (first e x))) = e
identifier_begins_with_letter t i j a (goes_on at_place (goes_on (chosen given) (second e x))) = elim x [ ]

place_in_option_is_good : {A : Type 0} (good : Span → Type 0) (place : Span) (o : Option Span) (p : Option A) →
    o ≡ option_map (λ v. place) p → good place → option_every good o
place_in_option_is_good good place None p e g = tt
place_in_option_is_good good place (Some s) None e g = cc
place_in_option_is_good good place (Some s) (Some v) e g = let same : s ≡ place = cc in subst good (sym same) g

module _ (edition : Edition) (t : List ℕ) (P : ℕ → Type 0) (cuts : AreBoundaries t P) where
  read_by_sound_construct_has_ended : {A : Type 0} {Good : A → Type 0} {c : Construct A} {i j : ℕ} {a : A} →
      Sound t P i c Good → P i → c i (Read a j) → Ended P i Good a j
  read_by_sound_construct_has_ended {i = i} {j = j} {a = a} s p x =
      s.holds.on_read i j a (record { late = omega arith; place = p }) x

  range_of_name_is_span : (name : Span) → ReadAt (identifier t) name name → IsSpan P name
  range_of_name_is_span name read =
      let there = tests_imply is_letter is_name_byte (slice_get t name.start) letter_is_name_byte
      (identifier_begins_with_letter t _ _ _ read) in
      let begins =
      cuts.before name.start (byte_of_ascii_set_is_ascii t is_name_byte name.start name_set_is_ascii there) in
      (read_by_sound_construct_has_ended (identifier_is_sound t P cuts) begins read).good

  range_of_value_is_span : (i equals : ℕ) (place : Span) (v : Option (PatternTree Span)) → P i →
      InlineBlank t i equals →
      token t equals_sign equals (Read tt place.start) → ReadAt (pattern edition t) v place → IsSpan P place
  range_of_value_is_span i equals place v p blank sign value =
      let a = read_by_sound_construct_has_ended (inline_blank_is_sound t P cuts) p (passed blank) in
      let b = read_by_sound_construct_has_ended (token_is_sound t P cuts 61 refl) a.place sign in
      let c = read_by_sound_construct_has_ended (pattern_is_sound edition t P cuts) b.place value in
      (c.late, b.place, c.place)

  ranges_of_attribute_are_spans : (x : AttributeRanges) (a : AttributeTree Span) →
      HasAttributeParts edition t (family edition t) x a → P x.span.start → each_attribute_range (IsSpan P) x
  ranges_of_attribute_are_spans x a s p =
      let whole = read_by_sound_construct_has_ended (attribute_is_sound edition t P cuts) p s.whole in
      let name = range_of_name_is_span x.name s.name in
      ((whole.late, p, whole.place), name, range_of_value_is_span _ _ x.value _ name.2 s.beyond s.sign s.value)

  ranges_of_attributes_are_spans : {i end : ℕ} {xs : List AttributeRanges} {rest : List (AttributeTree Span)} →
      HaveAttributeParts edition t (family edition t) i xs rest end → P i
      → list_every (each_attribute_range (IsSpan P)) xs
  ranges_of_attributes_are_spans (no_attribute_parts x) p = tt
  ranges_of_attributes_are_spans (more_attribute_parts {x = x} {a = a} begins s more) p =
      let r = ranges_of_attribute_are_spans x a s (subst P (sym begins) p) in
      (r, ranges_of_attributes_are_spans more r.0.2)

  ranges_of_fields_are_spans : (x : EntryRanges) (f : FieldTrees Span) (end : ℕ) → ReadAt (identifier t) x.name x.name →
      HaveFieldParts edition t (family edition t) x.name.end x.value x.attributes.items f end → each_range (IsSpan P) x
  ranges_of_fields_are_spans x f end name s =
      let n = range_of_name_is_span x.name name in
      let v = range_of_value_is_span _ _ s.place _ n.2 s.beyond s.sign s.value in
      let line = read_by_sound_construct_has_ended (blank_block_is_sound t P cuts) v.2 (passed s.blank) in (
        n,
        place_in_option_is_good (IsSpan P) s.place x.value f.0 s.there v,
        ranges_of_attributes_are_spans s.attributes line.place,
      )

  ranges_of_entry_are_spans : (i end : ℕ) (x : EntryRanges) (e : EntryTree Span) →
      HasEntryParts edition t (family edition t) i x e end → each_range (IsSpan P) x
  ranges_of_entry_are_spans i end x e (message_has_parts {f = f} begins name s) =
      ranges_of_fields_are_spans x f end name s
  ranges_of_entry_are_spans i end x e (term_has_parts mark name s) = ranges_of_fields_are_spans x _ end name s

pub found_ranges_lie_in_text : (edition : Edition) (t : List ℕ) → IsUtf8 t → (i : ℕ) (found : Option EntryRanges) →
    HasRanges edition t i found → IfSome found (each_range (IsTextRange t))
found_ranges_lie_in_text edition t utf8 i None s = tt
found_ranges_lie_in_text edition t utf8 i (Some x) s =
    ranges_of_entry_are_spans edition t (IsCharBoundary t)
    (char_boundaries_are_boundaries t utf8) i s.end x s.tree s.parts
