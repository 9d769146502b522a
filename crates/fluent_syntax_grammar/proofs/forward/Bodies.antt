-- Bodies, read forwards: entries one after the other, tiled from the start of the text to its end.
use Rattle.std.proofs.Common.{◌≡◌, ℕ, ◌+◌, ◌<◌, List, [], ◌∷◌, ◌++◌, length, map, Option, Some, None, Bool, true, false}
use Rattle.std.proofs.Common.{refl, sym, ◌∙◌, subst, ap, arith}
use Rattle.std.specs.Prelude.{◌==◌, ◌&&◌}
use Rattle.std.specs.List.{list_all}
use Rattle.std.proofs.lemmas.Bool.Decides.{nat_tests}
use Rattle.fluent_syntax_tree.specs.Tree.{PatternTree}
use Rattle.fluent_syntax_tree.specs.Entry.{AttributeTree, EntryTree, entry_map, message, term, comment, junk, Level}
use Rattle.fluent_syntax_tree.specs.Entry.{regular, group, resource, BodyTree, MessageTree, TermTree}
use Rattle.fluent_syntax_tree.specs.Spans.{bytes_at}
use Rattle.fluent_syntax_tree.specs.declared.spans.Span.{Span}
use Rattle.fluent_syntax_tree.specs.declared.edition.Edition.{Edition}
use Rattle.fluent_syntax_grammar.specs.Grammar.{family}
use Rattle.fluent_syntax_grammar.specs.Bytes.{lf, is_letter, is_name_byte}
use Rattle.fluent_syntax_grammar.specs.Places.{line}
use Rattle.fluent_syntax_grammar.specs.Construct.{Read, chosen, first as first_of, second}
use Rattle.fluent_syntax_grammar.specs.Entries.{message_entry, term_entry}
use Rattle.fluent_syntax_grammar.specs.Comments.{comment_entry}
use Rattle.fluent_syntax_grammar.specs.Tiling.{Tile, entry, refused, dropped, is_entry_byte, Tiled, done, next}
use Rattle.fluent_syntax_grammar.specs.Tiling.{entry_of, entry_at, TileAt, reads, refuses}
use Rattle.fluent_syntax_grammar.specs.Body.{body, attached}
use Rattle.fluent_syntax_grammar.specs.Written.{Text, hashes_of, is_nonblank_line}
use Rattle.fluent_syntax_grammar.specs.Spellings.{is_name}
use Rattle.fluent_syntax_grammar.specs.Rules.{option_obeys, pattern_obeys, attribute_obeys, entry_obeys, body_obeys}
use Rattle.fluent_syntax_grammar.specs.Readable.{has_field, are_lines}
use Rattle.fluent_syntax_grammar.specs.Canonical.{canonical_rules, is_canonical}
use Rattle.fluent_syntax_grammar.specs.RoundTrip.{ReadsAs, tree_of}
use Rattle.fluent_syntax_grammar.proofs.Facts.{and_gives_left, and_gives_right, number_eq_self}
use Rattle.fluent_syntax_grammar.proofs.Tests.{parted_by_test}
use Rattle.fluent_syntax_grammar.proofs.Cuts.{block_goes_on}
use Rattle.fluent_syntax_grammar.proofs.SuffixAt.{SuffixAt, suffix_by_equality, whole_text_is_suffix, first_of_suffix}
use Rattle.fluent_syntax_grammar.proofs.SuffixAt.{next_of_suffix}
use Rattle.fluent_syntax_grammar.proofs.SuffixAt.{suffix_reaches_end_of_text}
use Rattle.fluent_syntax_grammar.proofs.forward.Reading.{Reads, including_construct_reads_alike}
use Rattle.fluent_syntax_grammar.proofs.forward.Lines.{Ends, stop, blank_line, inline_blank_without_space_is_empty}
use Rattle.fluent_syntax_grammar.proofs.forward.Lines.{line_end_at_lf_is_one_byte}
use Rattle.fluent_syntax_grammar.proofs.forward.Entries.{EntryStart, no_entry, begins, ends_at_entry}
use Rattle.fluent_syntax_grammar.proofs.forward.Entries.{blank_block_is_empty_at_entry_start, Tiles}
use Rattle.fluent_syntax_grammar.proofs.forward.Entries.{end_of_text_has_no_tiles}
use Rattle.fluent_syntax_grammar.proofs.marks.WrittenBytes.{pattern_bytes}
use Rattle.fluent_syntax_grammar.proofs.marks.WrittenEntries.{after_hashes, comment_bytes, more_attributes}
use Rattle.fluent_syntax_grammar.proofs.marks.WrittenEntries.{own_comment_bytes, value_bytes, message_bytes, term_bytes}
use Rattle.fluent_syntax_grammar.proofs.forward.Fields.{message_reads_back, term_reads_back}
use Rattle.fluent_syntax_grammar.proofs.forward.Comments.{comment_reads_back}
use Rattle.fluent_syntax_grammar.proofs.LineEnds.{hash_is_entry_byte, letter_is_entry_byte}

-- ---- what a body is written as

-- a line end before a free comment, or none
abbrev pub gap_bytes : Bool → Text → Text
gap_bytes true tail = lf ∷ tail
gap_bytes false tail = tail

-- The text is the entries one after the other. Before a free comment there is a line end or none.
pub data IsWritten : BodyTree Text → Text → Type 0 where
  nothing : IsWritten [] []
  a_message : (m : MessageTree Text) (es : BodyTree Text) (tail : Text) → IsWritten es tail →
      IsWritten (message m ∷ es) (own_comment_bytes m.comment (message_bytes m.id m.value m.attributes tail))
  a_term : (m : TermTree Text) (es : BodyTree Text) (tail : Text) → IsWritten es tail →
      IsWritten (term m ∷ es) (own_comment_bytes m.comment (term_bytes m.id m.value m.attributes tail))
  a_comment : (gap : Bool) (level : Level) (content : List Text) (es : BodyTree Text) (tail : Text) →
      IsWritten es tail →
      IsWritten (comment level content ∷ es) (gap_bytes gap (comment_bytes (hashes_of level) content (lf ∷ tail)))

-- ---- messages and terms, which a comment can be attached to

abbrev pub takes_comment : {X : Type 0} → EntryTree X → Bool
takes_comment (message m) = true
takes_comment (term m) = true
takes_comment (comment level content) = false
takes_comment (junk x) = false

abbrev pub with_comment : {X : Type 0} → List X → EntryTree X → EntryTree X
with_comment content (message m) = message (record m { comment = Some content })
with_comment content (term m) = term (record m { comment = Some content })
with_comment content (comment level c) = comment level c
with_comment content (junk x) = junk x

abbrev pub worn : {X : Type 0} → Option (List X) → EntryTree X → EntryTree X
worn None e = e
worn (Some content) e = with_comment content e

pub mapping_keeps_takes_comment : {X Y : Type 0} (f : X → Y) (e : EntryTree X) →
    takes_comment (entry_map f e) ≡ takes_comment e
mapping_keeps_takes_comment f (message m) = refl
mapping_keeps_takes_comment f (term m) = refl
mapping_keeps_takes_comment f (comment level c) = refl
mapping_keeps_takes_comment f (junk x) = refl

pub mapping_maps_comment_and_entry : {X Y : Type 0} (f : X → Y) (c : List X) (e : EntryTree X) →
    entry_map f (with_comment c e) ≡ with_comment (map f c) (entry_map f e)
mapping_maps_comment_and_entry f c (message m) = refl
mapping_maps_comment_and_entry f c (term m) = refl
mapping_maps_comment_and_entry f c (comment level d) = refl
mapping_maps_comment_and_entry f c (junk x) = refl

pub attached_is_with_comment : (c : List Span) (e : EntryTree Span) → takes_comment e ≡ true
    → attached c e ≡ Some (with_comment c e)
attached_is_with_comment c (message m) h = refl
attached_is_with_comment c (term m) h = refl
attached_is_with_comment c (comment level d) h = cc
attached_is_with_comment c (junk x) h = cc

-- ---- what tiles give

-- a message or a term gives itself
pub entry_alone_gives_itself : (s : Span) (e : EntryTree Span) (tiles : List Tile) → takes_comment e ≡ true →
    body (entry s e ∷ tiles) ≡ e ∷ body tiles
entry_alone_gives_itself s e [] h = refl
entry_alone_gives_itself s (message m) (y ∷ tiles) h = refl
entry_alone_gives_itself s (term m) (y ∷ tiles) h = refl
entry_alone_gives_itself s (comment level c) (y ∷ tiles) h = cc
entry_alone_gives_itself s (junk x) (y ∷ tiles) h = cc

-- a comment directly before it is attached to it
pub body_attaches_comment : (i j k : ℕ) (c : List Span) (e : EntryTree Span) (tiles : List Tile) →
    takes_comment e ≡ true →
    body (entry (record { start = i; end = j }) (comment regular c) ∷ entry (record { start = j; end = k }) e ∷ tiles)
    ≡ with_comment c e ∷ body tiles
body_attaches_comment i j k c e tiles h = rw (number_eq_self j, attached_is_with_comment c e h) refl

less_is_not_equal : (i j : ℕ) → i < j → (i == j) ≡ false
less_is_not_equal i j l = grind (arith, nat_tests)

-- a comment that the next tile does not follow directly gives itself
free_comment_stays : (edition : Edition) (t : List ℕ) (i j k : ℕ) (level : Level) (c : List Span) (tiles : List Tile) →
    j < k → Tiled t (TileAt edition t) k tiles →
    body (entry (record { start = i; end = j }) (comment level c) ∷ tiles) ≡ comment level c ∷ body tiles
free_comment_stays edition t i j k level c [] n (done b) = refl
free_comment_stays edition t i j k group c (y ∷ tiles) n (next b l a m) = refl
free_comment_stays edition t i j k resource c (y ∷ tiles) n (next b l a m) = refl
free_comment_stays edition t i j k regular c (entry s e ∷ tiles) n (next {start = start} b l (reads r) m) =
    let f = block_goes_on t k start b in rw (less_is_not_equal j start (omega arith)) refl
free_comment_stays edition t i j k regular c (refused x ∷ tiles) n (next b l (refuses r q) m) = refl
free_comment_stays edition t i j k regular c (dropped ∷ tiles) n (next b l a m) = elim a [ ]

module _ (edition : Edition) (t : List ℕ) where
  pub entry_begins_inside_text : (i b : ℕ) (bs : List ℕ) → SuffixAt t i (b ∷ bs) → i < length t
  entry_begins_inside_text i b bs l = let n = suffix_reaches_end_of_text l in omega arith

  -- a blank line before tiles
  pub tiles_hold_from_lf_before : (i : ℕ) (bs : List ℕ) (tiles : List Tile) → SuffixAt t i (lf ∷ bs) →
      Tiled t (TileAt edition t) (i + 1) tiles → Tiled t (TileAt edition t) i tiles
  tiles_hold_from_lf_before i bs tiles l (done b) =
      done (line (inline_blank_without_space_is_empty edition t refl l) (line_end_at_lf_is_one_byte edition t l) b)
  tiles_hold_from_lf_before i bs tiles l (next b m a n) =
      next (line (inline_blank_without_space_is_empty edition t refl l) (line_end_at_lf_is_one_byte edition t l) b) m a
      n

  -- blank lines before tiles
  tiles_hold_from_end_of_pattern : (tail rest : List ℕ) (es : BodyTree Text) (i : ℕ) → Ends tail rest →
      SuffixAt t i tail → ((j : ℕ) → SuffixAt t j rest → Tiles edition t j es) → Tiles edition t i es
  tiles_hold_from_end_of_pattern tail rest es i (stop s) l k = k i l
  tiles_hold_from_end_of_pattern tail rest es i (blank_line {tail = more} e) l k =
      let n = tiles_hold_from_end_of_pattern more rest es (i + 1) e (next_of_suffix l) k in
      record {
        tiles = n.tiles;
        tiled = tiles_hold_from_lf_before i more n.tiles l n.tiled;
        no_faults =
            n.no_faults;
        same = n.same;
      }

  pub comment_at_hash_reads_as_entry : (i b : ℕ) (bs : List ℕ) (e : EntryTree Span) (j : ℕ) → (b == 35) ≡ true →
      SuffixAt t i (b ∷ bs) → comment_entry t i (Read e j) → entry_at edition t i (Read e j)
  comment_at_hash_reads_as_entry i b bs e j is l r =
      chosen (subst (λ o. entry_of edition t (family edition t) o i (Read e j)) (sym (first_of_suffix l))
      (first_of is r))

  -- a message or a term
  entry_alone_is_tiled : (e : EntryTree Text) (es : BodyTree Text) (i b : ℕ) (bs rest : List ℕ) →
      takes_comment e ≡ true →
      is_entry_byte b ≡ true → SuffixAt t i (b ∷ bs) → Reads t (entry_at edition t) (entry_map (bytes_at t)) i e rest →
      ((j : ℕ) → SuffixAt t j rest → Tiles edition t j es) → Tiles edition t i (e ∷ es)
  entry_alone_is_tiled e es i b bs rest h is l r k =
      let n = k r.end r.rest in
      let takes : takes_comment r.value ≡ true =
      sym (mapping_keeps_takes_comment (bytes_at t) r.value) ∙ ap takes_comment r.spells ∙ h in
      let s : Span = record { start = i; end = r.end } in
      record {
        tiles = entry s r.value ∷ n.tiles;
        tiled = next (blank_block_is_empty_at_entry_start edition t i (b ∷ bs) (begins b bs is) l)
            (entry_begins_inside_text i b bs l)
            (reads r.reads) n.tiled;
        no_faults = n.no_faults;
        same =
            ap (map (entry_map (bytes_at t))) (entry_alone_gives_itself s r.value n.tiles takes)
            ∙ ap (λ y. y ∷ tree_of t n.tiles) r.spells ∙ ap (λ ys. e ∷ ys) n.same;
      }

  -- a message or a term with the comment that is attached to it
  entry_with_comment_is_tiled :
      (content : List Text) (e : EntryTree Text) (es : BodyTree Text) (i c : ℕ) (cs : List ℕ) (b : ℕ)
      (bs rest : List ℕ) → takes_comment e ≡ true → (c == 35) ≡ true → SuffixAt t i (c ∷ cs) → is_entry_byte b ≡ true →
      Reads t (comment_entry t) (entry_map (bytes_at t)) i (comment regular content) (b ∷ bs) →
      ((j : ℕ) → SuffixAt t j (b ∷ bs) → Reads t (entry_at edition t) (entry_map (bytes_at t)) j e rest) →
      ((j : ℕ) → SuffixAt t j rest → Tiles edition t j es) → Tiles edition t i (with_comment content e ∷ es)
  entry_with_comment_is_tiled content e es i c cs b bs rest h is l is' q r k = attached_tiles q.value q.spells q.reads
    where
      attached_tiles : (v : EntryTree Span) → entry_map (bytes_at t) v ≡ comment regular content →
          comment_entry t i (Read v q.end) → Tiles edition t i (with_comment content e ∷ es)
      attached_tiles (message m) f x = absurd cc
      attached_tiles (term m) f x = absurd cc
      attached_tiles (junk m) f x = absurd cc
      attached_tiles (comment group d) f x = absurd cc
      attached_tiles (comment resource d) f x = absurd cc
      attached_tiles (comment regular d) f x =
          let o = r q.end q.rest in
          let n = k o.end o.rest in
          let takes : takes_comment o.value ≡ true =
          sym (mapping_keeps_takes_comment (bytes_at t) o.value) ∙ ap takes_comment o.spells ∙ h in
          record {
            tiles =
                entry (record { start = i; end = q.end }) (comment regular d) ∷
                entry (record { start = q.end; end = o.end }) o.value ∷ n.tiles;
            tiled =
                next (blank_block_is_empty_at_entry_start edition t i (c ∷ cs) (begins c cs (hash_is_entry_byte c is))
                l)
                (entry_begins_inside_text i c cs l)
                (reads (comment_at_hash_reads_as_entry i c cs (comment regular d) q.end is l x))
                (next (blank_block_is_empty_at_entry_start edition t q.end (b ∷ bs) (begins b bs is') q.rest)
                (entry_begins_inside_text q.end b bs q.rest)
                (reads o.reads) n.tiled);
            no_faults = n.no_faults;
            same =
                ap (map (entry_map (bytes_at t))) (body_attaches_comment i q.end o.end d o.value n.tiles takes)
                ∙ ap (λ y. y ∷ tree_of t n.tiles)
                (mapping_maps_comment_and_entry (bytes_at t) d o.value ∙ spelled_with d o.value f o.spells)
                ∙ ap (λ ys. with_comment content e ∷ ys) n.same;
          }
        where
          same_content : (d : List Span) → entry_map (bytes_at t) (comment regular d) ≡ comment regular content →
              map (bytes_at t) d ≡ content
          same_content d f = cc

          spelled_with : (d : List Span) (v : EntryTree Span) →
              entry_map (bytes_at t) (comment regular d) ≡ comment regular content → entry_map (bytes_at t) v ≡ e →
              with_comment (map (bytes_at t) d) (entry_map (bytes_at t) v) ≡ with_comment content e
          spelled_with d v f g = rw (same_content d f, g) refl

  -- a free comment and the blank lines after it
  free_comment_is_tiled : (level : Level) (content : List Text) (es : BodyTree Text) (i c : ℕ) (cs tail rest : List ℕ) →
      (c == 35) ≡ true → is_entry_byte c ≡ true → SuffixAt t i (c ∷ cs) →
      Reads t (comment_entry t) (entry_map (bytes_at t)) i (comment level content) (lf ∷ tail) → Ends tail rest →
      ((j : ℕ) → SuffixAt t j rest → Tiles edition t j es) → Tiles edition t i (comment level content ∷ es)
  free_comment_is_tiled level content es i c cs tail rest is is' l q ends k = free_tiles q.value q.spells q.reads
    where
      same_content : (d : List Span) (v : Level) → entry_map (bytes_at t) (comment v d) ≡ comment level content →
          v ≡ level
      same_content d v f = cc

      free_tiles : (v : EntryTree Span) → entry_map (bytes_at t) v ≡ comment level content →
          comment_entry t i (Read v q.end) → Tiles edition t i (comment level content ∷ es)
      free_tiles (message m) f x = absurd cc
      free_tiles (term m) f x = absurd cc
      free_tiles (junk m) f x = absurd cc
      free_tiles (comment v d) f x =
          let n = tiles_hold_from_end_of_pattern tail rest es (q.end + 1) ends (next_of_suffix q.rest) k in
          record {
            tiles = entry (record { start = i; end = q.end }) (comment v d) ∷ n.tiles;
            tiled =
                next (blank_block_is_empty_at_entry_start edition t i (c ∷ cs) (begins c cs is') l)
                (entry_begins_inside_text i c cs l)
                (reads (comment_at_hash_reads_as_entry i c cs (comment v d) q.end is l x))
                (tiles_hold_from_lf_before q.end tail n.tiles q.rest n.tiled);
            no_faults = n.no_faults;
            same =
                ap (map (entry_map (bytes_at t)))
                (free_comment_stays edition t i q.end (q.end + 1) v d n.tiles (omega arith) n.tiled)
                ∙ ap (λ y. y ∷ tree_of t n.tiles) f ∙ ap (λ ys. comment level content ∷ ys) n.same;
          }

  -- ---- entries as they are written

  pub message_at_letter_reads_as_entry : (i b : ℕ) (bs : List ℕ) (e : EntryTree Text) (rest : List ℕ) →
      is_letter b ≡ true → SuffixAt t i (b ∷ bs) →
      Reads t (message_entry edition t) (entry_map (bytes_at t)) i e rest →
      Reads t (entry_at edition t) (entry_map (bytes_at t)) i e rest
  message_at_letter_reads_as_entry i b bs e rest is l r =
      including_construct_reads_alike (λ o x.
      chosen (subst (λ b. entry_of edition t (family edition t) b i o) (sym (first_of_suffix l))
      (second (parted_by_test is_letter b 35 is refl) (second (parted_by_test is_letter b 45 is refl) x)))) r

  pub term_at_hyphen_reads_as_entry : (i : ℕ) (bs : List ℕ) (e : EntryTree Text) (rest : List ℕ) →
      SuffixAt t i (45 ∷ bs) → Reads t (term_entry edition t) (entry_map (bytes_at t)) i e rest →
      Reads t (entry_at edition t) (entry_map (bytes_at t)) i e rest
  term_at_hyphen_reads_as_entry i bs e rest l r =
      including_construct_reads_alike (λ o x.
      chosen (subst (λ b. entry_of edition t (family edition t) b i o) (sym (first_of_suffix l))
      (second refl (first_of refl x)))) r

  -- The text from here on is tiled into these entries, after blank lines.
  pub record BodyReadsBack (es : BodyTree Text) (tail : List ℕ) : Type 0 where
    pub rest : List ℕ
    pub ends : Ends tail rest
    pub starts : EntryStart rest
    pub tiles : (j : ℕ) → SuffixAt t j rest → Tiles edition t j es

  body_reads_back_where_entries_begin : (es : BodyTree Text) (bs : List ℕ) → EntryStart bs →
      ((j : ℕ) → SuffixAt t j bs → Tiles edition t j es) →
      BodyReadsBack es bs
  body_reads_back_where_entries_begin es bs s k =
      record { rest = bs; ends = stop (ends_at_entry bs s); starts = s; tiles = k }

  -- the entry alone, or with its comment
  entry_with_own_comment_reads_back : (content : Option (List Text)) (e : EntryTree Text) (es : BodyTree Text) (b : ℕ)
      (bs rest : List ℕ) →
      option_obeys (canonical_rules edition).comment content ≡ true → takes_comment e ≡ true → is_entry_byte b ≡ true →
      (b == 35) ≡ false →
      ((j : ℕ) → SuffixAt t j (b ∷ bs) → Reads t (entry_at edition t) (entry_map (bytes_at t)) j e rest) →
      ((j : ℕ) → SuffixAt t j rest → Tiles edition t j es) →
      BodyReadsBack (worn content e ∷ es) (own_comment_bytes content (b ∷ bs))
  entry_with_own_comment_reads_back None e es b bs rest o h is n r k =
      body_reads_back_where_entries_begin (e ∷ es) (b ∷ bs) (begins b bs is)
      (λ j l. entry_alone_is_tiled e es j b bs rest h is l (r j l) k)
  entry_with_own_comment_reads_back (Some []) e es b bs rest o h is n r k = absurd cc
  entry_with_own_comment_reads_back (Some (x ∷ xs)) e es b bs rest o h is n r k =
      body_reads_back_where_entries_begin (with_comment (x ∷ xs) e ∷ es) (comment_bytes (35 ∷ []) (x ∷ xs) (b ∷ bs))
      (begins 35 (after_hashes (is_nonblank_line x) x (comment_bytes (35 ∷ []) xs (b ∷ bs))) refl)
      (λ j l. entry_with_comment_is_tiled (x ∷ xs) e es j 35 (after_hashes (is_nonblank_line x) x
      (comment_bytes (35 ∷ []) xs (b ∷ bs))) b bs
      rest h refl l is
      (comment_reads_back t regular (x ∷ xs) j (b ∷ bs) (and_gives_right (are_lines (x ∷ xs)) _ o)
      (and_gives_left (are_lines (x ∷ xs)) _ o) n l) r k)

  pub message_wears_its_comment : (m : MessageTree Text) (c : Option (List Text)) → m.comment ≡ c →
      worn c (message (record { id = m.id; value = m.value; attributes = m.attributes; comment = None })) ≡ message m
  message_wears_its_comment m None e =
      ap (λ c. message (record { id = m.id; value = m.value; attributes = m.attributes; comment = c })) (sym e)
  message_wears_its_comment m (Some x) e =
      ap (λ c. message (record { id = m.id; value = m.value; attributes = m.attributes; comment = c })) (sym e)

  pub term_wears_its_comment : (m : TermTree Text) (c : Option (List Text)) → m.comment ≡ c →
      worn c (term (record { id = m.id; value = m.value; attributes = m.attributes; comment = None })) ≡ term m
  term_wears_its_comment m None e =
      ap (λ c. term (record { id = m.id; value = m.value; attributes = m.attributes; comment = c })) (sym e)
  term_wears_its_comment m (Some x) e =
      ap (λ c. term (record { id = m.id; value = m.value; attributes = m.attributes; comment = c })) (sym e)

  body_with_message_reads_back :
      (id : Text) (value : Option (PatternTree Text)) (more : List (AttributeTree Text)) (content : Option (List Text))
      (es : BodyTree Text) (tail : Text) → has_field value more ≡ true →
      option_obeys (canonical_rules edition).comment content ≡ true → is_name id ≡ true →
      option_obeys (pattern_obeys (canonical_rules edition)) value ≡ true →
      list_all (attribute_obeys (canonical_rules edition)) more ≡ true →
      BodyReadsBack es tail →
      BodyReadsBack (worn content (message (record { id = id; value = value; attributes = more; comment = None })) ∷ es)
      (own_comment_bytes content (message_bytes id value more tail))
  body_with_message_reads_back [] value more content es tail f o is h a k = absurd cc
  body_with_message_reads_back (b ∷ bs) value more content es tail f o is h a k =
      let letter = and_gives_left (is_letter b) (list_all is_name_byte bs) is in
      let after = bs ++ (32 ∷ 61 ∷ value_bytes value (lf ∷ more_attributes more tail)) in
      entry_with_own_comment_reads_back content
      (message (record { id = b ∷ bs; value = value; attributes = more; comment = None }))
      es b after
      k.rest o refl (letter_is_entry_byte b letter) (parted_by_test is_letter b 35 letter refl)
      (λ j l. message_at_letter_reads_as_entry j b after
      (message (record { id = b ∷ bs; value = value; attributes = more; comment = None })) k.rest letter l
      (message_reads_back edition t (b ∷ bs) value more j tail k.rest is f h a k.ends k.starts l)) k.tiles

  body_with_term_reads_back :
      (id : Text) (value : PatternTree Text) (more : List (AttributeTree Text)) (content : Option (List Text))
      (es : BodyTree Text) (tail : Text) → option_obeys (canonical_rules edition).comment content ≡ true →
      is_name id ≡ true → pattern_obeys (canonical_rules edition) value ≡ true →
      list_all (attribute_obeys (canonical_rules edition)) more ≡ true →
      BodyReadsBack es tail →
      BodyReadsBack (worn content (term (record { id = id; value = value; attributes = more; comment = None })) ∷ es)
      (own_comment_bytes content (term_bytes id value more tail))
  body_with_term_reads_back id value more content es tail o is h a k =
      let after = id ++ (32 ∷ 61 ∷ pattern_bytes 0 value (lf ∷ more_attributes more tail)) in
      entry_with_own_comment_reads_back content
      (term (record { id = id; value = value; attributes = more; comment = None })) es 45 after
      k.rest o refl refl refl
      (λ j l. term_at_hyphen_reads_as_entry j after
      (term (record { id = id; value = value; attributes = more; comment = None })) k.rest l
      (term_reads_back edition t id value more j tail k.rest is h a k.ends k.starts l)) k.tiles

  free_comment_of_hash_reads_back : (level : Level) (content : List Text) (es : BodyTree Text) (tail : Text) (c : ℕ)
      (cs : List ℕ) → comment_bytes (hashes_of level) content (lf ∷ tail) ≡ c ∷ cs → (c == 35) ≡ true →
      (canonical_rules edition).comment content ≡ true → BodyReadsBack es tail →
      BodyReadsBack (comment level content ∷ es) (comment_bytes (hashes_of level) content (lf ∷ tail))
  free_comment_of_hash_reads_back level content es tail c cs e is o k =
      body_reads_back_where_entries_begin (comment level content ∷ es)
      (comment_bytes (hashes_of level) content (lf ∷ tail))
      (subst EntryStart (sym e) (begins c cs (hash_is_entry_byte c is)))
      (λ j l. free_comment_is_tiled level content es j c cs tail k.rest is (hash_is_entry_byte c is)
      (suffix_by_equality e l)
      (comment_reads_back t level content j (lf ∷ tail) (and_gives_right (are_lines content) _ o)
      (and_gives_left (are_lines content) _ o) refl l) k.ends k.tiles)

  body_with_free_comment_reads_back : (level : Level) (content : List Text) (es : BodyTree Text) (tail : Text) →
      (canonical_rules edition).comment content ≡ true → BodyReadsBack es tail →
      BodyReadsBack (comment level content ∷ es) (comment_bytes (hashes_of level) content (lf ∷ tail))
  body_with_free_comment_reads_back level [] es tail o k = absurd (right_absurd (are_lines []) o)
    where
      right_absurd : (b : Bool) → (b && false) ≡ true → ⊥
      right_absurd true e = cc
      right_absurd false e = cc
  body_with_free_comment_reads_back regular (x ∷ xs) es tail o k =
      free_comment_of_hash_reads_back regular (x ∷ xs) es tail 35 _ refl refl o k
  body_with_free_comment_reads_back group (x ∷ xs) es tail o k =
      free_comment_of_hash_reads_back group (x ∷ xs) es tail 35 _ refl refl o k
  body_with_free_comment_reads_back resource (x ∷ xs) es tail o k =
      free_comment_of_hash_reads_back resource (x ∷ xs) es tail 35 _ refl refl o k

  gap_reads_back : (gap : Bool) (es : BodyTree Text) (bs : List ℕ) → BodyReadsBack es bs →
      BodyReadsBack es (gap_bytes gap bs)
  gap_reads_back true es bs k = record { rest = k.rest; ends = blank_line k.ends; starts = k.starts; tiles = k.tiles }
  gap_reads_back false es bs k = k

  -- a written body is read back
  body_reads_back : (es : BodyTree Text) (tail : Text) → body_obeys (canonical_rules edition) es ≡ true →
      IsWritten es tail → BodyReadsBack es tail
  body_reads_back [] tail h nothing =
      record {
        rest = [];
        ends = stop (ends_at_entry [] no_entry);
        starts = no_entry;
        tiles = λ j l. end_of_text_has_no_tiles edition t j l;
      }
  body_reads_back (message m ∷ es) tail' h (a_message n fs tail w) =
      let x = and_gives_left (entry_obeys (canonical_rules edition) (message m)) _ h in
      let y = and_gives_right (has_field m.value m.attributes) _ x in
      let z = and_gives_right (option_obeys (canonical_rules edition).comment m.comment) _ y in
      let q = and_gives_right (is_name m.id) _ z in
      subst (λ e. BodyReadsBack (e ∷ es) (own_comment_bytes m.comment (message_bytes m.id m.value m.attributes tail)))
      (message_wears_its_comment m m.comment refl)
      (body_with_message_reads_back m.id m.value m.attributes m.comment es tail
      (and_gives_left (has_field m.value m.attributes) _ x)
      (and_gives_left (option_obeys (canonical_rules edition).comment m.comment) _ y)
      (and_gives_left (is_name m.id) _ z)
      (and_gives_left (option_obeys (pattern_obeys (canonical_rules edition)) m.value) _ q)
      (and_gives_right (option_obeys (pattern_obeys (canonical_rules edition)) m.value) _ q)
      (body_reads_back es tail (and_gives_right (entry_obeys (canonical_rules edition) (message m)) _ h) w))
  body_reads_back (term m ∷ es) tail' h (a_term n fs tail w) =
      let y = and_gives_left (entry_obeys (canonical_rules edition) (term m)) _ h in
      let z = and_gives_right (option_obeys (canonical_rules edition).comment m.comment) _ y in
      let q = and_gives_right (is_name m.id) _ z in
      subst (λ e. BodyReadsBack (e ∷ es) (own_comment_bytes m.comment (term_bytes m.id m.value m.attributes tail)))
      (term_wears_its_comment m m.comment refl)
      (body_with_term_reads_back m.id m.value m.attributes m.comment es tail
      (and_gives_left (option_obeys (canonical_rules edition).comment m.comment) _ y)
      (and_gives_left (is_name m.id) _ z)
      (and_gives_left (pattern_obeys (canonical_rules edition) m.value) _ q)
      (and_gives_right (pattern_obeys (canonical_rules edition) m.value) _ q)
      (body_reads_back es tail (and_gives_right (entry_obeys (canonical_rules edition) (term m)) _ h) w))
  body_reads_back (comment level content ∷ es) tail' h (a_comment gap l c fs tail w) =
      let x = and_gives_left (entry_obeys (canonical_rules edition) (comment level content)) _ h in
      gap_reads_back gap (comment level content ∷ es) (comment_bytes (hashes_of level) content (lf ∷ tail))
      (body_with_free_comment_reads_back level content es tail x
      (body_reads_back es tail (and_gives_right (entry_obeys (canonical_rules edition) (comment level content)) _ h) w))
  body_reads_back (junk x ∷ es) tail' h w = elim w [ ]

-- A text that a canonical body is written as reads as that body.
pub canonical_body_reads_back : (edition : Edition) (es : BodyTree Text) (t : Text) → is_canonical edition es ≡ true →
    IsWritten es t →
    ReadsAs edition t es
canonical_body_reads_back edition es t h w =
    let k = body_reads_back edition t es t h w in
    let n = tiles_hold_from_end_of_pattern edition t t k.rest es 0 k.ends (whole_text_is_suffix t) k.tiles in
    record { tiles = n.tiles; tiling = n.tiled; no_faults = n.no_faults; same = n.same }
