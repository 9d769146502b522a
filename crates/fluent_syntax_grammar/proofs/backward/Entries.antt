-- What was read is fine: attributes, messages, terms and comments; and the body of a tiling. So joined it is readable.
use Rattle.std.proofs.Common.{◌≡◌, ℕ, List, [], ◌∷◌, ◌++◌, map, option_map, Option, Some, None, Bool, true, false, refl}
use Rattle.std.proofs.Common.{ap}
use Rattle.std.specs.Prelude.{◌==◌, ◌||◌, ◌&&◌, not, is_some, slice_get, slice_range}
use Rattle.std.specs.List.{list_all}
use Rattle.fluent_syntax_tree.specs.Spans.{bytes_at}
use Rattle.fluent_syntax_tree.specs.declared.spans.Span.{Span}
use Rattle.fluent_syntax_tree.specs.declared.edition.Edition.TheVariants.{One}
use Rattle.fluent_syntax_tree.specs.Every.{option_every}
use Rattle.fluent_syntax_tree.specs.Tree.{PatternTree, pattern_map}
use Rattle.fluent_syntax_tree.specs.Entry.{AttributeTree, MessageTree, TermTree, EntryTree, message, term, comment}
use Rattle.fluent_syntax_tree.specs.Entry.{junk, attribute_map}
use Rattle.fluent_syntax_grammar.specs.Bytes.{lf, cr}
use Rattle.fluent_syntax_grammar.specs.Places.{holds, has, has_byte, has_eol, is_line_place}
use Rattle.fluent_syntax_grammar.specs.Construct.{Read, goes_on, given, at_place, passed}
use Rattle.fluent_syntax_grammar.specs.Tokens.{rest_of_line}
use Rattle.fluent_syntax_grammar.specs.Grammar.{pattern, family}
use Rattle.fluent_syntax_grammar.specs.Entries.{attribute_with, message_with, term_with, attribute, attributes, no_more}
use Rattle.fluent_syntax_grammar.specs.Entries.{one_more, message_entry, term_entry}
use Rattle.fluent_syntax_grammar.specs.Comments as comments
use Rattle.fluent_syntax_grammar.specs.Comments.{comment_text, comment_rest, comment_line}
use Rattle.fluent_syntax_grammar.specs.Comments.{comment_lines, other_level, no_comment_line, comment_entry}
use Rattle.fluent_syntax_grammar.specs.Tiling.{entry_of, entry_at}
use Rattle.fluent_syntax_grammar.specs.Written.{Text, has_lf}
use Rattle.fluent_syntax_grammar.specs.Rules.{option_obeys, pattern_obeys, attribute_obeys}
use Rattle.fluent_syntax_grammar.specs.Readable.{has_field, are_lines, readable_rules}
use Rattle.fluent_syntax_grammar.specs.Joined.{joined_pattern, joined_attribute}
use Rattle.fluent_syntax_grammar.specs.RoundTrip.{HasNoBareCr}
use Rattle.fluent_syntax_grammar.proofs.Facts.{and_gives_left, and_gives_right}
use Rattle.fluent_syntax_grammar.proofs.Tests.{true_and_true}
use Rattle.fluent_syntax_grammar.proofs.backward.Lines.{empty_range_is_empty, range_passes_where_each_place_passes}
use Rattle.fluent_syntax_grammar.proofs.backward.Words.{IsNameSpan}
use Rattle.fluent_syntax_grammar.proofs.backward.Rules.{Ensures, bind_ensures, bind_ensures_by_second, yields_ensures}
use Rattle.fluent_syntax_grammar.proofs.backward.Rules.{fails_ensures_anything, peek_ensures_by_its_part}
use Rattle.fluent_syntax_grammar.proofs.backward.Rules.{ensures_branch_on, ObeysJoined}
use Rattle.fluent_syntax_grammar.proofs.backward.Rules.{IsPattern, identifier_reads_name_span}
use Rattle.fluent_syntax_grammar.proofs.backward.Family as family_back
use Rattle.fluent_syntax_grammar.proofs.backward.Family.{family_obeys_joined}
use Rattle.fluent_syntax_grammar.proofs.Tests.{false_or_left, not_of_false_is_true, not_true_is_false}

-- ---- comments

no_lf_byte_has_no_lf : (v : Text) → list_all (λ b. not (b == lf)) v ≡ true → has_lf v ≡ false
no_lf_byte_has_no_lf [] e = refl
no_lf_byte_has_no_lf (b ∷ v) e = step (b == lf) (list_all (λ b. not (b == lf)) v) (has_lf v) e (no_lf_byte_has_no_lf v)
  where
    step : (x y z : Bool) → (not x && y) ≡ true → (y ≡ true → z ≡ false) → (x || z) ≡ false
    step false y z e f = f e
    step true y z e f = cc

module _ (t : List ℕ) where
  abbrev pub IsLines : List Span → Type 0
  IsLines content = are_lines (map (bytes_at t) content) ≡ true

  byte_but_lf_passes_line_test : (o : Option ℕ) → is_some o ≡ true → holds (λ b. b == lf) o ≡ false →
      holds (λ b. not (b == lf)) o ≡ true
  byte_but_lf_passes_line_test None e f = cc
  byte_but_lf_passes_line_test (Some b) e f = not_of_false_is_true (b == lf) f

  -- a place within a line holds no LF
  line_place_has_no_lf : (k : ℕ) → is_line_place t k ≡ true → has t (λ b. not (b == lf)) k ≡ true
  line_place_has_no_lf k e =
      byte_but_lf_passes_line_test (slice_get t k) (and_gives_left (is_some (slice_get t k)) (not (has_eol t k)) e)
      (false_or_left (has_byte t lf k)
      _ (not_true_is_false (has_eol t k) (and_gives_right (is_some (slice_get t k)) (not (has_eol t k)) e)))

  read_rest_of_line_is_one_line : (i j : ℕ) (s : Span) → rest_of_line t i (Read s j) → IsLines (s ∷ [])
  read_rest_of_line_is_one_line i j s (goes_on at_place (goes_on (passed w) (goes_on at_place given))) =
      true_and_true (not_of_false_is_true (has_lf (slice_range t i j))
      (no_lf_byte_has_no_lf (slice_range t i j)
      (range_passes_where_each_place_passes t (λ b. not (b == lf)) i j w.forward
      (λ k x y. line_place_has_no_lf k (w.each k x y))))) refl

  empty_comment_text_is_one_line : (i j : ℕ) (s : Span) → comment_text t true i (Read s j) → IsLines (s ∷ [])
  empty_comment_text_is_one_line i j s (goes_on at_place (goes_on at_place given)) =
      true_and_true (not_of_false_is_true (has_lf (slice_range t j j)) (ap has_lf (empty_range_is_empty t j))) refl

  comment_text_reads_one_line : (eol : Bool) → Ensures (comment_text t eol) (λ s. IsLines (s ∷ []))
  comment_text_reads_one_line true = record { on_read = empty_comment_text_is_one_line }
  comment_text_reads_one_line false = bind_ensures_by_second (λ u. record { on_read = read_rest_of_line_is_one_line })

  comment_rest_reads_lines : (o : Option ℕ) → Ensures (comment_rest t o) IsLines
  comment_rest_reads_lines None = yields_ensures refl
  comment_rest_reads_lines (Some b) = bind_ensures (peek_ensures_by_its_part comment_text_reads_one_line)
      (λ s g. bind_ensures_by_second (λ u. yields_ensures g))

  comment_line_reads_lines : (level : ℕ) → Ensures (comment_line t level) IsLines
  comment_line_reads_lines level = bind_ensures_by_second (λ u. peek_ensures_by_its_part comment_rest_reads_lines)

  appended_lines_are_lines : (xs ys : List Span) → IsLines xs → IsLines ys → IsLines (xs ++ ys)
  appended_lines_are_lines [] ys e f = f
  appended_lines_are_lines (x ∷ xs) ys e f =
      true_and_true (and_gives_left (not (has_lf (bytes_at t x))) _ e)
      (appended_lines_are_lines xs ys (and_gives_right (not (has_lf (bytes_at t x))) _ e) f)

  read_comment_lines_are_lines : (level i j : ℕ) (content : List Span) → comment_lines t level i (Read content j) →
      IsLines content
  read_comment_lines_are_lines level i j content (other_level e) = refl
  read_comment_lines_are_lines level i j content (no_comment_line e x) = refl
  read_comment_lines_are_lines level i j content (comments.one_more {j = m} {content = c} {rest = rest} e x y) =
      appended_lines_are_lines c rest ((comment_line_reads_lines level).on_read i m c x)
      (read_comment_lines_are_lines level m j rest y)

-- ---- messages and terms

module _ (t : List ℕ) (Joins : Type 0) where
  abbrev pub IsAttributes : List (AttributeTree Span) → Type 0
  IsAttributes rest =
      ObeysJoined Joins (list_all (attribute_obeys (readable_rules One))) (map joined_attribute)
      (map (attribute_map (bytes_at t)) rest)

  abbrev pub IsValue : Option (PatternTree Span) → Type 0
  IsValue o =
      ObeysJoined Joins (option_obeys (pattern_obeys (readable_rules One))) (option_map joined_pattern)
      (option_map (pattern_map (bytes_at t)) o)

  abbrev pub IsComment : Option (List Span) → Type 0
  IsComment o = option_obeys are_lines (option_map (map (bytes_at t)) o) ≡ true

  pub record IsMessage (m : MessageTree Span) : Type 0 where
    pub name : IsNameSpan t m.id
    pub field :
        has_field (option_map joined_pattern (option_map (pattern_map (bytes_at t)) m.value))
        (map joined_attribute (map (attribute_map (bytes_at t)) m.attributes)) ≡ true
    pub value : IsValue m.value
    pub attributes : IsAttributes m.attributes
    pub comment : IsComment m.comment

  pub record IsTerm (m : TermTree Span) : Type 0 where
    pub name : IsNameSpan t m.id
    pub value : IsPattern t Joins m.value
    pub attributes : IsAttributes m.attributes
    pub comment : IsComment m.comment

  abbrev pub IsNotJunk : EntryTree Span → Type 0
  IsNotJunk (message m) = IsMessage m
  IsNotJunk (term m) = IsTerm m
  IsNotJunk (comment level content) = IsLines t content
  IsNotJunk (junk s) = ⊥

  read_pattern_is_value : (o : Option (PatternTree Span)) → option_every (IsPattern t Joins) o → IsValue o
  read_pattern_is_value None g = record { obeys = refl; same = λ none. refl }
  read_pattern_is_value (Some p) g = record { obeys = g.obeys; same = λ none. ap Some (g.same none) }

  attribute_obeys_joined : (id : Span) (p : PatternTree Span) → IsNameSpan t id → IsPattern t Joins p →
      ObeysJoined Joins (attribute_obeys (readable_rules One)) joined_attribute
      (attribute_map (bytes_at t) (record { id = id; value = p }))
  attribute_obeys_joined id p n g =
      record {
        obeys = true_and_true n g.obeys;
        same = λ none. ap (λ p. record { id = bytes_at t id; value = p }) (g.same
            none);
      }

  empty_list_is_attributes : IsAttributes []
  empty_list_is_attributes = record { obeys = refl; same = λ none. refl }

  list_with_one_more_is_attributes : (a : AttributeTree Span) (rest : List (AttributeTree Span)) →
      ObeysJoined Joins (attribute_obeys (readable_rules One)) joined_attribute (attribute_map (bytes_at t) a) →
      IsAttributes rest → IsAttributes (a ∷ rest)
  list_with_one_more_is_attributes a rest f g =
      record {
        obeys = true_and_true f.obeys g.obeys;
        same =
            λ none. equal_parts_make_equal_lists (f.same none) (g.same none);
      }
    where
      equal_parts_make_equal_lists : {X : Type 0} {a b : X} {xs ys : List X} → a ≡ b → xs ≡ ys → a ∷ xs ≡ b ∷ ys
      equal_parts_make_equal_lists e f = cc (e, f)

module _ (t : List ℕ) (bare : HasNoBareCr t) (Joins : Type 0) (crs : (i : ℕ) → has_byte t cr i ≡ true → Joins) where
  pattern_of_text_ensures_is_pattern : Ensures (pattern One t) (option_every (IsPattern t Joins))
  pattern_of_text_ensures_is_pattern =
      family_back.pattern_of_family_ensures_is_pattern t bare Joins crs (family One t)
      (family_obeys_joined t bare Joins crs)

  abbrev IsAttribute : AttributeTree Span → Type 0
  IsAttribute a =
      ObeysJoined Joins (attribute_obeys (readable_rules One)) joined_attribute (attribute_map (bytes_at t) a)

  attribute_with_reads_attribute : (id : Span) (o : Option (PatternTree Span)) → IsNameSpan t id →
      option_every (IsPattern t Joins) o → Ensures (attribute_with id o) IsAttribute
  attribute_with_reads_attribute id None n g = fails_ensures_anything
  attribute_with_reads_attribute id (Some p) n g = yields_ensures (attribute_obeys_joined t Joins id p n g)

  attribute_reads_good_attribute : Ensures (attribute One t) IsAttribute
  attribute_reads_good_attribute =
      bind_ensures_by_second (λ u.
      bind_ensures_by_second (λ u.
      bind_ensures (identifier_reads_name_span t Joins)
      (λ id n. bind_ensures_by_second
      (λ u. bind_ensures_by_second
      (λ u. bind_ensures pattern_of_text_ensures_is_pattern (λ o g. attribute_with_reads_attribute id o n g))))))

  read_attributes_are_attributes : (i j : ℕ) (rest : List (AttributeTree Span)) → attributes One t i (Read rest j) →
      IsAttributes t Joins rest
  read_attributes_are_attributes i j rest (no_more x) = empty_list_is_attributes t Joins
  read_attributes_are_attributes i j rest (one_more {j = m} {a = a} {rest = more} x y) =
      list_with_one_more_is_attributes t Joins a more (attribute_reads_good_attribute.on_read i m a x)
      (read_attributes_are_attributes m j more y)

  attributes_read_good_attributes : Ensures (attributes One t) (IsAttributes t Joins)
  attributes_read_good_attributes = record { on_read = read_attributes_are_attributes }

  message_with_reads_no_junk : (start : ℕ) (id : Span) (o : Option (PatternTree Span))
      (rest : List (AttributeTree Span)) →
      IsNameSpan t id → option_every (IsPattern t Joins) o → IsAttributes t Joins rest →
      Ensures (message_with t start id o rest) (IsNotJunk t Joins)
  message_with_reads_no_junk start id None [] n g k = record { on_read = λ i j a x. elim x [ ] }
  message_with_reads_no_junk start id None (a ∷ rest) n g k =
      yields_ensures
      (record { name = n; field = refl; value = read_pattern_is_value t Joins None g; attributes = k; comment = refl })
  message_with_reads_no_junk start id (Some p) rest n g k =
      yields_ensures
      (record {
        name = n;
        field = refl;
        value = read_pattern_is_value t Joins (Some p) g;
        attributes = k;
        comment =
            refl;
      })

  term_with_reads_no_junk : (start : ℕ) (id : Span) (o : Option (PatternTree Span)) (rest : List (AttributeTree Span)) →
      IsNameSpan t id → option_every (IsPattern t Joins) o → IsAttributes t Joins rest →
      Ensures (term_with t start id o rest) (IsNotJunk t Joins)
  term_with_reads_no_junk start id None rest n g k = record { on_read = λ i j a x. elim x [ ] }
  term_with_reads_no_junk start id (Some p) rest n g k =
      yields_ensures (record { name = n; value = g; attributes = k; comment = refl })

  message_reads_no_junk : Ensures (message_entry One t) (IsNotJunk t Joins)
  message_reads_no_junk =
      bind_ensures_by_second (λ start.
      bind_ensures (identifier_reads_name_span t Joins)
      (λ id n. bind_ensures_by_second
      (λ u. bind_ensures_by_second
      (λ u. bind_ensures pattern_of_text_ensures_is_pattern (λ o g. bind_ensures_by_second (λ u.
      bind_ensures attributes_read_good_attributes (λ rest k. message_with_reads_no_junk start id o rest n g k)))))))

  term_reads_no_junk : Ensures (term_entry One t) (IsNotJunk t Joins)
  term_reads_no_junk =
      bind_ensures_by_second (λ start.
      bind_ensures_by_second (λ u.
      bind_ensures (identifier_reads_name_span t Joins)
      (λ id n. bind_ensures_by_second
      (λ u. bind_ensures_by_second
      (λ u. bind_ensures pattern_of_text_ensures_is_pattern (λ o g. bind_ensures_by_second (λ u.
      bind_ensures attributes_read_good_attributes (λ rest k. term_with_reads_no_junk start id o rest n g k))))))))

  comment_reads_no_junk : Ensures (comment_entry t) (IsNotJunk t Joins)
  comment_reads_no_junk =
      peek_ensures_by_its_part
      (λ level. bind_ensures (comment_line_reads_lines t level)
      (λ c g. bind_ensures {Mid = IsLines t} (record { on_read = read_comment_lines_are_lines t level })
      (λ rest k. yields_ensures (appended_lines_are_lines t c rest g k))))

  entry_of_byte_reads_no_junk : (o : Option ℕ) → Ensures (entry_of One t (family One t) o) (IsNotJunk t Joins)
  entry_of_byte_reads_no_junk None = message_reads_no_junk
  entry_of_byte_reads_no_junk (Some b) =
      ensures_branch_on (λ e. comment_reads_no_junk)
      (λ e. ensures_branch_on (λ e. term_reads_no_junk) (λ e. message_reads_no_junk))

  pub entry_reads_no_junk : Ensures (entry_at One t) (IsNotJunk t Joins)
  entry_reads_no_junk = peek_ensures_by_its_part entry_of_byte_reads_no_junk
