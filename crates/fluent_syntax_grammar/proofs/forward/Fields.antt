-- Attributes, messages and terms, read forwards.
use Rattle.std.proofs.Common.{◌≡◌, ℕ, ◌+◌, List, [], ◌∷◌, ◌++◌, map, Option, Some, None, true, refl, sym, subst}
use Rattle.std.specs.Prelude.{option_map}
use Rattle.std.specs.List.{list_all}
use Rattle.fluent_syntax_tree.specs.Tree.{PatternTree, pattern_map}
use Rattle.fluent_syntax_tree.specs.Entry.{AttributeTree, attribute_map, entry_map, message, term}
use Rattle.fluent_syntax_tree.specs.Spans.{bytes_at}
use Rattle.fluent_syntax_tree.specs.declared.spans.Span.{Span}
use Rattle.fluent_syntax_tree.specs.declared.edition.Edition.{Edition}
use Rattle.fluent_syntax_grammar.specs.Bytes.{lf, is_space}
use Rattle.fluent_syntax_grammar.specs.Places.{BlankBlock, no_line}
use Rattle.fluent_syntax_grammar.specs.Construct.{Read, goes_on, given, chosen, passed}
use Rattle.fluent_syntax_grammar.specs.Grammar as grammar
use Rattle.fluent_syntax_grammar.specs.Patterns.{layout_at}
use Rattle.fluent_syntax_grammar.specs.Entries.{attribute, attribute_with, attributes, one_more, message_with}
use Rattle.fluent_syntax_grammar.specs.Entries.{message_entry, term_with, term_entry}
use Rattle.fluent_syntax_grammar.specs.Written.{Text}
use Rattle.fluent_syntax_grammar.specs.Spellings.{is_name}
use Rattle.fluent_syntax_grammar.specs.Rules.{option_obeys, pattern_obeys, attribute_obeys}
use Rattle.fluent_syntax_grammar.specs.Readable.{has_field}
use Rattle.fluent_syntax_grammar.specs.Canonical.{canonical_rules}
use Rattle.fluent_syntax_grammar.proofs.Facts.{and_gives_left, and_gives_right, equal_somes_have_equal_items}
use Rattle.fluent_syntax_grammar.proofs.SuffixAt.{SuffixAt, next_of_suffix, rest_past_front, suffix_has_no_after_eol}
use Rattle.fluent_syntax_grammar.proofs.SuffixAt.{suffix_byte_run}
use Rattle.fluent_syntax_grammar.proofs.forward.Reading.{Reads, reads_bind, yields_reads_its_view}
use Rattle.fluent_syntax_grammar.proofs.forward.Reading.{here_reads_as_part_at_place, passes_then}
use Rattle.fluent_syntax_grammar.proofs.forward.Reading.{skip_passes_over_relation, token_passes_its_byte}
use Rattle.fluent_syntax_grammar.proofs.forward.Reading.{passes_inline_blank}
use Rattle.fluent_syntax_grammar.proofs.forward.Words.{identifier_reads_back}
use Rattle.fluent_syntax_grammar.proofs.marks.WrittenBytes.{pattern_bytes}
use Rattle.fluent_syntax_grammar.proofs.marks.WrittenEntries.{more_attributes, value_bytes, message_bytes, term_bytes}
use Rattle.fluent_syntax_grammar.proofs.forward.Lines.{Ends, stop, indented, inline_blank_without_space_is_empty}
use Rattle.fluent_syntax_grammar.proofs.forward.Lines.{line_end_at_lf_is_one_byte, lines_stop_at_mark}
use Rattle.fluent_syntax_grammar.proofs.forward.Entries.{EntryStart, blank_block_is_empty_at_entry_start}
use Rattle.fluent_syntax_grammar.proofs.forward.Entries.{no_attributes_are_read_at_entry_start}
use Rattle.fluent_syntax_grammar.proofs.forward.Trees.{pattern_reads_back}

-- what is left after a pattern before these attributes: where there is none, the blank lines are passed
abbrev pub before : List (AttributeTree Text) → (tail rest : Text) → Text
before [] tail rest = rest
before (a ∷ more) tail rest = more_attributes (a ∷ more) tail

-- four spaces
abbrev pub deep : Text
deep = 32 ∷ 32 ∷ 32 ∷ 32 ∷ []

attributes_end_a_pattern : (more : List (AttributeTree Text)) (tail rest : Text) → Ends tail rest →
    Ends (more_attributes more tail) (before more tail rest)
attributes_end_a_pattern [] tail rest e = e
attributes_end_a_pattern (a ∷ more) tail rest e =
    stop (indented (32 ∷ 32 ∷ 32 ∷ []) 46 (a.id ++ (32 ∷ 61 ∷ pattern_bytes 1 a.value (lf ∷ more_attributes more tail)))
    refl refl)

module _ (edition : Edition) (t : List ℕ) where
  attribute_with_reads_back : (id : Span) (a : AttributeTree Text) (v : Option (PatternTree Span)) (i : ℕ) (bs : List ℕ)
      →
      bytes_at t id ≡ a.id → option_map (pattern_map (bytes_at t)) v ≡ Some a.value → SuffixAt t i bs →
      Reads t (attribute_with id v) (attribute_map (bytes_at t)) i a bs
  attribute_with_reads_back id a None i bs e f l = absurd cc
  attribute_with_reads_back id a (Some p) i bs e f l =
      yields_reads_its_view (same_attribute (equal_somes_have_equal_items f)) l
    where
      same_attribute : pattern_map (bytes_at t) p ≡ a.value →
          attribute_map (bytes_at t) (record { id = id; value = p }) ≡ a
      same_attribute f = rw (e, f) refl

  attribute_reads_back : (a : AttributeTree Text) (i : ℕ) (tail rest : List ℕ) →
      attribute_obeys (canonical_rules edition) a ≡ true → Ends tail rest →
      SuffixAt t i (32 ∷ 32 ∷ 32 ∷ 32 ∷ 46 ∷ (a.id ++ (32 ∷ 61 ∷ pattern_bytes 1 a.value (lf ∷ tail)))) →
      Reads t (attribute edition t) (attribute_map (bytes_at t)) i a rest
  attribute_reads_back a i tail rest h e l =
      passes_then (passes_inline_blank deep (46 ∷ (a.id ++ (32 ∷ 61 ∷ pattern_bytes 1 a.value (lf ∷ tail)))) refl refl
      l) (λ j m. passes_then (token_passes_its_byte 46 refl m) (λ k n.
      reads_bind
      (identifier_reads_back a.id (32 ∷ 61 ∷ pattern_bytes 1 a.value (lf ∷ tail))
      (and_gives_left (is_name a.id) _ h) refl n)
      (λ x y f o. passes_then (passes_inline_blank (32 ∷ []) (61 ∷ pattern_bytes 1 a.value (lf ∷ tail)) refl refl o)
      (λ z q. passes_then (token_passes_its_byte 61 refl q) (λ u r.
      reads_bind ((pattern_reads_back edition t a.value (and_gives_right (is_name a.id) _ h) 1).back u tail rest e r)
      (λ v w g s. attribute_with_reads_back x a v w rest f g s))))))

  -- the attributes after a pattern
  attributes_read_back : (more : List (AttributeTree Text)) (i : ℕ) (tail rest : List ℕ) →
      list_all (attribute_obeys (canonical_rules edition)) more ≡ true → Ends tail rest → EntryStart rest →
      SuffixAt t i (before more tail rest) →
      Reads t (attributes edition t) (map (attribute_map (bytes_at t))) i more rest
  attributes_read_back [] i tail rest h e s l =
      record {
        value = [];
        end = i;
        reads = no_attributes_are_read_at_entry_start edition t i rest s l;
        spells =
            refl;
        rest = l;
      }
  attributes_read_back (a ∷ more) i tail rest h e s l =
      let one =
      attribute_reads_back a i (more_attributes more tail) (before more tail rest)
      (and_gives_left (attribute_obeys (canonical_rules edition) a) _ h) (attributes_end_a_pattern more tail rest e)
      l in
      let others =
      attributes_read_back more one.end tail rest (and_gives_right (attribute_obeys (canonical_rules edition) a) _ h) e
      s
      one.rest in
      record {
        value = one.value ∷ others.value;
        end = others.end;
        reads = one_more one.reads others.reads;
        spells = same_list one.value others.value one.spells others.spells;
        rest = others.rest;
      }
    where
      same_list : (b : AttributeTree Span) (bs : List (AttributeTree Span)) → attribute_map (bytes_at t) b ≡ a →
          map (attribute_map (bytes_at t)) bs ≡ more → map (attribute_map (bytes_at t)) (b ∷ bs) ≡ a ∷ more
      same_list b bs f g = rw (f, g) refl

  -- there is no blank line
  no_block_is_before_attributes : (more : List (AttributeTree Text)) (i : ℕ) (tail rest : List ℕ) → EntryStart rest →
      SuffixAt t i (before more tail rest) → BlankBlock t i i
  no_block_is_before_attributes [] i tail rest s l = blank_block_is_empty_at_entry_start edition t i rest s l
  no_block_is_before_attributes (a ∷ more) i tail rest s l =
      let bs = 46 ∷ (a.id ++ (32 ∷ 61 ∷ pattern_bytes 1 a.value (lf ∷ more_attributes more tail))) in
      no_line (suffix_byte_run is_space deep bs refl refl l)
      (suffix_has_no_after_eol (rest_past_front deep l) refl refl)

  -- no value, before an attribute
  no_value_is_read_before_attributes : (a : AttributeTree Text) (more : List (AttributeTree Text)) (i : ℕ)
      (tail rest : List ℕ) → EntryStart rest → SuffixAt t i (lf ∷ more_attributes (a ∷ more) tail) →
      Reads t (grammar.pattern edition t) (option_map (pattern_map (bytes_at t))) i None
      (more_attributes (a ∷ more) tail)
  no_value_is_read_before_attributes a more i tail rest s l =
      let m = next_of_suffix l in
      record {
        value = None;
        end = i + 1;
        reads =
            goes_on (goes_on (passed (inline_blank_without_space_is_empty edition t refl l))
            (chosen (subst
            (λ o. layout_at t (grammar.family edition t) o i (Read (record { opening = None; lines = [] }) (i + 1)))
            (sym (line_end_at_lf_is_one_byte edition t l))
            (goes_on (passed (record { there = refl }))
            (goes_on (passed (no_block_is_before_attributes (a ∷ more) (i + 1) tail rest s m))
            (goes_on (lines_stop_at_mark edition t (i + 1) 46 (32 ∷ 32 ∷ 32 ∷ [])
            (a.id ++ (32 ∷ 61 ∷ pattern_bytes 1 a.value (lf ∷ more_attributes more tail))) refl refl m)
            given)))))) given;
        spells = refl;
        rest = m;
      }

  -- the value of a message, or none
  value_reads_back : (value : Option (PatternTree Text)) (more : List (AttributeTree Text)) (i : ℕ)
      (tail rest : List ℕ) →
      has_field value more ≡ true → option_obeys (pattern_obeys (canonical_rules edition)) value ≡ true →
      Ends tail rest → EntryStart rest → SuffixAt t i (value_bytes value (lf ∷ more_attributes more tail)) →
      Reads t (grammar.pattern edition t) (option_map (pattern_map (bytes_at t))) i value (before more tail rest)
  value_reads_back None [] i tail rest f h e s l = absurd cc
  value_reads_back None (a ∷ more) i tail rest f h e s l = no_value_is_read_before_attributes a more i tail rest s l
  value_reads_back (Some p) more i tail rest f h e s l =
      (pattern_reads_back edition t p h 0).back i (more_attributes more tail) (before more tail rest)
      (attributes_end_a_pattern more tail rest e) l

  message_with_reads_back :
      (start : ℕ) (id : Text) (value : Option (PatternTree Text)) (more : List (AttributeTree Text)) (x : Span)
      (v : Option (PatternTree Span)) (as' : List (AttributeTree Span)) (i : ℕ) (rest : List ℕ) →
      has_field value more ≡ true →
      bytes_at t x ≡ id → option_map (pattern_map (bytes_at t)) v ≡ value →
      map (attribute_map (bytes_at t)) as' ≡ more → SuffixAt t i rest →
      Reads t (message_with t start x v as') (entry_map (bytes_at t)) i
      (message (record { id = id; value = value; attributes = more; comment = None })) rest
  message_with_reads_back start id None [] x v as' i rest h e f g l = absurd cc
  message_with_reads_back start id None (a ∷ more) x (Some p) as' i rest h e f g l = absurd cc
  message_with_reads_back start id None (a ∷ more) x None [] i rest h e f g l = absurd cc
  message_with_reads_back start id None (a ∷ more) x None (b ∷ bs) i rest h e f g l =
      yields_reads_its_view (same_message e g) l
    where
      same_message : bytes_at t x ≡ id → map (attribute_map (bytes_at t)) (b ∷ bs) ≡ a ∷ more →
          entry_map (bytes_at t) (message (record { id = x; value = None; attributes = b ∷ bs; comment = None }))
          ≡ message (record { id = id; value = None; attributes = a ∷ more; comment = None })
      same_message e g = rw (e, g) refl
  message_with_reads_back start id (Some q) more x None as' i rest h e f g l = absurd cc
  message_with_reads_back start id (Some q) more x (Some p) as' i rest h e f g l = yields_reads_its_view
      (same_message e (equal_somes_have_equal_items f) g) l
    where
      same_message : bytes_at t x ≡ id → pattern_map (bytes_at t) p ≡ q → map (attribute_map (bytes_at t)) as' ≡ more →
          entry_map (bytes_at t) (message (record { id = x; value = Some p; attributes = as'; comment = None }))
          ≡ message (record { id = id; value = Some q; attributes = more; comment = None })
      same_message e f g = rw (e, f, g) refl

  -- a message without its comment
  pub message_reads_back :
      (id : Text) (value : Option (PatternTree Text)) (more : List (AttributeTree Text)) (i : ℕ) (tail rest : List ℕ) →
      is_name id ≡ true → has_field value more ≡ true →
      option_obeys (pattern_obeys (canonical_rules edition)) value ≡ true →
      list_all (attribute_obeys (canonical_rules edition)) more ≡ true →
      Ends tail rest → EntryStart rest → SuffixAt t i (message_bytes id value more tail) →
      Reads t (message_entry edition t) (entry_map (bytes_at t)) i
      (message (record { id = id; value = value; attributes = more; comment = None })) rest
  message_reads_back id value more i tail rest is f h a e s l =
      here_reads_as_part_at_place
      (reads_bind
      (identifier_reads_back id (32 ∷ 61 ∷ value_bytes value (lf ∷ more_attributes more tail)) is refl l)
      (λ x j g m. passes_then
      (passes_inline_blank (32 ∷ []) (61 ∷ value_bytes value (lf ∷ more_attributes more tail)) refl refl m)
      (λ k n. passes_then (token_passes_its_byte 61 refl n) (λ p o.
      reads_bind (value_reads_back value more p tail rest f h e s o)
      (λ v q c r. passes_then (skip_passes_over_relation (no_block_is_before_attributes more q tail rest s r) r) (λ y z.
      reads_bind (attributes_read_back more y tail rest a e s z)
      (λ bs w d u. message_with_reads_back i id value more x v bs w rest f g c d u)))))))

  term_with_reads_back :
      (start : ℕ) (id : Text) (value : PatternTree Text) (more : List (AttributeTree Text)) (x : Span)
      (v : Option (PatternTree Span)) (as' : List (AttributeTree Span)) (i : ℕ) (rest : List ℕ) →
      bytes_at t x ≡ id → option_map (pattern_map (bytes_at t)) v ≡ Some value →
      map (attribute_map (bytes_at t)) as' ≡ more → SuffixAt t i rest →
      Reads t (term_with t start x v as') (entry_map (bytes_at t)) i
      (term (record { id = id; value = value; attributes = more; comment = None })) rest
  term_with_reads_back start id value more x None as' i rest e f g l = absurd cc
  term_with_reads_back start id value more x (Some p) as' i rest e f g l =
      yields_reads_its_view (same_term e (equal_somes_have_equal_items f) g) l
    where
      same_term : bytes_at t x ≡ id → pattern_map (bytes_at t) p ≡ value → map (attribute_map (bytes_at t)) as' ≡ more →
          entry_map (bytes_at t) (term (record { id = x; value = p; attributes = as'; comment = None }))
          ≡ term (record { id = id; value = value; attributes = more; comment = None })
      same_term e f g = rw (e, f, g) refl

  -- a term without its comment
  pub term_reads_back :
      (id : Text) (value : PatternTree Text) (more : List (AttributeTree Text)) (i : ℕ) (tail rest : List ℕ) →
      is_name id ≡ true → pattern_obeys (canonical_rules edition) value ≡ true →
      list_all (attribute_obeys (canonical_rules edition)) more ≡ true →
      Ends tail rest → EntryStart rest → SuffixAt t i (term_bytes id value more tail) →
      Reads t (term_entry edition t) (entry_map (bytes_at t)) i
      (term (record { id = id; value = value; attributes = more; comment = None })) rest
  term_reads_back id value more i tail rest is h a e s l =
      here_reads_as_part_at_place (passes_then (token_passes_its_byte 45 refl l)
      (λ b c. reads_bind
      (identifier_reads_back id (32 ∷ 61 ∷ pattern_bytes 0 value (lf ∷ more_attributes more tail)) is refl c)
      (λ x j g m. passes_then
      (passes_inline_blank (32 ∷ []) (61 ∷ pattern_bytes 0 value (lf ∷ more_attributes more tail)) refl refl
      m) (λ k n. passes_then (token_passes_its_byte 61 refl n) (λ p o.
      reads_bind ((pattern_reads_back edition t value h 0).back p (more_attributes more tail) (before more tail rest)
      (attributes_end_a_pattern more tail rest e) o)
      (λ v q d r. passes_then (skip_passes_over_relation (no_block_is_before_attributes more q tail rest s r) r) (λ y z.
      reads_bind (attributes_read_back more y tail rest a e s z)
      (λ bs w f u. term_with_reads_back i id value more x v bs w rest g d f u))))))))
