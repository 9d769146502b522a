-- Argument lists, read forwards: a list is read if its arguments are.
use Rattle.std.proofs.Common.{◌≡◌, ℕ, List, [], ◌∷◌, ◌++◌, Option, Some, None, Bool, true, false, refl, sym, ◌∙◌, subst}
use Rattle.std.proofs.Common.{ap, inl, inr}
use Rattle.std.specs.Prelude.{◌==◌, ◌||◌, ◌&&◌, ◌⊎◌, if◌then◌else◌}
use Rattle.std.specs.List.{list_all}
use Rattle.fluent_syntax_tree.specs.Tree.{InlineTree, inline_map, string_literal, number_literal, function_reference}
use Rattle.fluent_syntax_tree.specs.Tree.{message_reference, term_reference, variable_reference, inline_placeable}
use Rattle.fluent_syntax_tree.specs.Tree.{ArgumentsTree, arguments, arguments_map, maybe_map, some_arguments}
use Rattle.fluent_syntax_tree.specs.Tree.{InlineTrees, no_inlines, inlines, NamedTrees, no_named, nameds}
use Rattle.fluent_syntax_tree.specs.Tree.{named_argument}
use Rattle.fluent_syntax_tree.specs.Spans.{bytes_at}
use Rattle.fluent_syntax_tree.specs.declared.spans.Span.{Span}
use Rattle.fluent_syntax_tree.specs.declared.edition.Edition.{Edition}
use Rattle.fluent_syntax_grammar.specs.Bytes.{lf, cr, is_name_byte, is_letter, is_digit}
use Rattle.fluent_syntax_grammar.specs.Places.{holds, has_byte}
use Rattle.fluent_syntax_grammar.specs.Starts.{start, quote, digit, letter}
use Rattle.fluent_syntax_grammar.specs.Construct.{◌>>=◌, yields, peek, More, item}
use Rattle.fluent_syntax_grammar.specs.Tokens.{blank}
use Rattle.fluent_syntax_grammar.specs.Written.{Text}
use Rattle.fluent_syntax_grammar.specs.Spellings.{is_name, is_number, is_number_rest, is_unsigned}
use Rattle.fluent_syntax_grammar.specs.Rules.{inline_obeys}
use Rattle.fluent_syntax_grammar.specs.Readable.{is_argument_value}
use Rattle.fluent_syntax_grammar.specs.Canonical.{canonical_rules}
use Rattle.fluent_syntax_grammar.specs.Arguments.{Argument, positional, named, add_argument, argument_name, is_used}
use Rattle.fluent_syntax_grammar.specs.Arguments.{separator, positional_rest, named_rest, argument_rest, next_argument}
use Rattle.fluent_syntax_grammar.specs.Arguments.{argument_value}
use Rattle.fluent_syntax_grammar.specs.Grammar as grammar
use Rattle.fluent_syntax_grammar.specs.Grammar.{family, inline_expression, call_arguments}
use Rattle.fluent_syntax_grammar.proofs.Facts.{and_gives_left, same_by_test}
use Rattle.fluent_syntax_grammar.proofs.Tests.{or_has_true_side, parted_by_test}
use Rattle.fluent_syntax_grammar.proofs.Nesting.{argument_list_of_family_is_in_family}
use Rattle.fluent_syntax_grammar.proofs.SuffixAt.{SuffixAt, suffix_by_equality, first, first_of_suffix, test_of_suffix}
use Rattle.fluent_syntax_grammar.proofs.forward.Reading.{Reads, Passes, reads_bind, yields_reads_its_view, passes_then}
use Rattle.fluent_syntax_grammar.proofs.forward.Reading.{reads_peek, look_reads_what_follows, first_branch_reads}
use Rattle.fluent_syntax_grammar.proofs.forward.Reading.{second_branch_reads}
use Rattle.fluent_syntax_grammar.proofs.forward.Reading.{including_construct_reads_alike, present_byte_is_read}
use Rattle.fluent_syntax_grammar.proofs.forward.Reading.{optional_reads_that_byte_is_absent, token_passes_its_byte}
use Rattle.fluent_syntax_grammar.proofs.forward.Reading.{more_map, list_reads_its_end, list_reads_item_and_rest}
use Rattle.fluent_syntax_grammar.proofs.marks.WrittenBytes.{inline_bytes, arguments_bytes, positional_bytes}
use Rattle.fluent_syntax_grammar.proofs.marks.WrittenBytes.{named_bytes, is_none_of}
use Rattle.fluent_syntax_grammar.proofs.forward.Inline.{Follows, bytes_past, passes_blank, passes_blanks}
use Rattle.fluent_syntax_grammar.proofs.forward.Inline.{inline_start_is_that_of_bytes}
use Rattle.fluent_syntax_grammar.proofs.forward.Inline.{start_of-digit, name_starts_with_letter}
use Rattle.fluent_syntax_grammar.proofs.forward.Inline.{message_name_reads_back}

-- a byte that begins an inline expression
abbrev pub begins_inline : ℕ → Bool
begins_inline b = b == 34 || is_digit b || b == 45 || b == 36 || is_letter b || b == 123

-- The bytes begin with one that begins an inline expression.
pub record Begins (bs : List ℕ) : Type 0 where
  pub byte : ℕ
  pub rest : List ℕ
  pub are : bs ≡ byte ∷ rest
  pub start : begins_inline byte ≡ true

or_true_by_second_of_six : (x d y z w v : Bool) → d ≡ true → (x || d || y || z || w || v) ≡ true
or_true_by_second_of_six true true y z w v e = refl
or_true_by_second_of_six false true y z w v e = refl
or_true_by_second_of_six x false y z w v e = cc

or_true_by_fifth_of_six : (x d y z w v : Bool) → w ≡ true → (x || d || y || z || w || v) ≡ true
or_true_by_fifth_of_six x d y z w v e = rw e (or_true (x || d || y || z) v)
  where
    or_true : (a b : Bool) → (a || true || b) ≡ true
    or_true true b = refl
    or_true false b = refl

digit_begins_inline : (b : ℕ) → is_digit b ≡ true → begins_inline b ≡ true
digit_begins_inline b e = or_true_by_second_of_six (b == 34) (is_digit b) (b == 45) (b == 36) (is_letter b) (b == 123) e

letter_begins_inline : (b : ℕ) → is_letter b ≡ true → begins_inline b ≡ true
letter_begins_inline b e = or_true_by_fifth_of_six (b == 34) (is_digit b) (b == 45) (b == 36) (is_letter b) (b == 123) e

pub name_begins_inline : (v tail : List ℕ) → is_name v ≡ true → Begins (v ++ tail)
name_begins_inline [] tail e = absurd cc
name_begins_inline (b ∷ bs) tail e =
    record {
      byte = b;
      rest = bs ++ tail;
      are = refl;
      start = letter_begins_inline b (and_gives_left (is_letter b) (list_all is_name_byte bs) e);
    }

pub number_begins_inline : (v tail : List ℕ) → is_number v ≡ true → Begins (v ++ tail)
number_begins_inline [] tail e = absurd cc
number_begins_inline (b ∷ bs) tail e = elim (or_has_true_side (b == 45 && is_unsigned bs) (is_unsigned (b ∷ bs)) e) [
  | inl h ↦ record {
    byte = b;
    rest = bs ++ tail;
    are = refl;
    start = ap begins_inline (same_by_test b 45 (and_gives_left (b == 45) (is_unsigned bs) h));
  }
  | inr h ↦ record {
    byte = b;
    rest = bs ++ tail;
    are = refl;
    start = digit_begins_inline b (and_gives_left (is_digit b) (is_number_rest bs) h);
  }
]

module _ (edition : Edition) where
  -- what an inline expression begins with
  pub canonical_inline_begins_inline : (level : ℕ) (e : InlineTree Text) (tail : List ℕ) →
      inline_obeys (canonical_rules edition) e ≡ true → Begins (inline_bytes level e tail)
  canonical_inline_begins_inline level (string_literal v) tail h =
      record { byte = 34; rest = _; are = refl; start = refl }
  canonical_inline_begins_inline level (number_literal v) tail h = number_begins_inline v tail h
  canonical_inline_begins_inline level (function_reference id a) tail h =
      name_begins_inline id _ (and_gives_left (is_name id) _ h)
  canonical_inline_begins_inline level (message_reference id a) tail h =
      name_begins_inline id _ (and_gives_left (is_name id) _ h)
  canonical_inline_begins_inline level (term_reference id a c) tail h =
      record { byte = 45; rest = _; are = refl; start = refl }
  canonical_inline_begins_inline level (variable_reference id) tail h =
      record { byte = 36; rest = _; are = refl; start = refl }
  canonical_inline_begins_inline level (inline_placeable e) tail h =
      record { byte = 123; rest = _; are = refl; start = refl }

-- a byte that begins an inline expression is not this one
pub beginning_of_inline_is_no_other_byte : (c : ℕ) {bs : List ℕ} → Begins bs → begins_inline c ≡ false →
    holds (λ b. b == c) (first bs) ≡ false
beginning_of_inline_is_no_other_byte c b e = rw (b.are) (parted_by_test begins_inline b.byte c b.start e)

bytes_past_no_gap_are_the_rest : (e : InlineTree Text) (more : List ℕ) → bytes_past e [] more ≡ more
bytes_past_no_gap_are_the_rest e more = same (passes_blank e)
  where
    same : (b : Bool) → (if b then more else more) ≡ more
    same true = refl
    same false = refl

-- what an argument says
pub data Said : Type 0 where
  says_positional : InlineTree Text → Said
  says_named : Text → InlineTree Text → Said

abbrev pub said : List ℕ → Argument → Said
said t (positional e) = says_positional (inline_map (bytes_at t) e)
said t (named name e) = says_named (bytes_at t name) (inline_map (bytes_at t) e)

-- An inline expression is read back, whatever may follow it.
pub record InlineReadsBack (edition : Edition) (t : List ℕ) (level : ℕ) (e : InlineTree Text) : Type 0 where
  pub obeys : inline_obeys (canonical_rules edition) e ≡ true
  pub back : (i : ℕ) (gap more : List ℕ) → Follows gap more → SuffixAt t i (inline_bytes level e (gap ++ more)) →
      Reads t (inline_expression edition t) (inline_map (bytes_at t)) i e (bytes_past e gap more)

-- The rest of an argument list is read back, after named arguments of these names.
pub record ArgumentListReadsBack (edition : Edition) (t : List ℕ) (level : ℕ) (names : List Text)
    (ps : InlineTrees Text)
    (ns : NamedTrees Text) : Type 0 where
  -- what it begins with
  pub begins : (tail : List ℕ) → Begins (positional_bytes level true ps (named_bytes level (is_none_of ps) ns tail)) ⊎
      ((ps ≡ no_inlines) × (ns ≡ no_named))
  pub back : (i : ℕ) (tail : List ℕ) →
      SuffixAt t i (positional_bytes level true ps (named_bytes level (is_none_of ps) ns (41 ∷ tail))) →
      Reads t (grammar.more_arguments edition t names) (arguments_map (bytes_at t)) i (arguments ps ns) tail

module _ (edition : Edition) (t : List ℕ) where
  abbrev pub ReadsMore : List Text → ℕ → ArgumentsTree Text → List ℕ → Type 0
  ReadsMore names i a left = Reads t (grammar.more_arguments edition t names) (arguments_map (bytes_at t)) i a left

  -- what the next argument of a list says, and the names after it
  abbrev pub ReadsNext : List Text → ℕ → More Said (List Text) → List ℕ → Type 0
  ReadsNext names i x left = Reads t (next_argument t (family edition t) names) (more_map (said t) (λ ns. ns)) i x left

  -- the rest of a list, after these names
  arguments_read_back_after_equal_names : (level : ℕ) (names : List Text) (ps : InlineTrees Text) (ns : NamedTrees Text)
      (tail : List ℕ) → ArgumentListReadsBack edition t level names ps ns → (p : List Text) (j : ℕ) → p ≡ names →
      SuffixAt t j (positional_bytes level true ps (named_bytes level (is_none_of ps) ns (41 ∷ tail))) →
      ReadsMore p j (arguments ps ns) tail
  arguments_read_back_after_equal_names level names ps ns tail h p j e m =
      subst (λ p. ReadsMore p j (arguments ps ns) tail) (sym e) (h.back j tail m)

  -- the end of a list
  pub empty_argument_list_reads_back : (level : ℕ) (names : List Text) →
      ArgumentListReadsBack edition t level names no_inlines no_named
  empty_argument_list_reads_back level names = record {
    begins = λ tail. inr (refl, refl);
    back =
        λ i tail l. list_reads_its_end {f = said t} {g = λ ns. ns}
        (reads_peek (Some 41) (first_of_suffix l)
        (first_branch_reads refl (passes_then (token_passes_its_byte 41 refl l) (λ j m. yields_reads_its_view refl m))))
        refl;
  }

  -- between two arguments, or before the end of the list
  separator_before_arguments_is_passed :
      (level : ℕ) (names : List Text) (ps : InlineTrees Text) (ns : NamedTrees Text) (i : ℕ) (tail : List ℕ) →
      ArgumentListReadsBack edition t level names ps ns →
      SuffixAt t i (positional_bytes level false ps (named_bytes level false ns (41 ∷ tail))) →
      Passes t (separator t) i (positional_bytes level true ps (named_bytes level (is_none_of ps) ns (41 ∷ tail)))
  separator_before_arguments_is_passed level names no_inlines no_named i tail h l =
      passes_then (passes_blanks [] (41 ∷ tail) refl refl refl refl l)
      (λ j m. reads_bind (optional_reads_that_byte_is_absent 44 refl m)
      (λ b k e n. passes_blanks [] (41 ∷ tail) refl refl refl refl n))
  separator_before_arguments_is_passed level names no_inlines (nameds n ns) i tail h l =
      passes_then (passes_blanks [] _ refl refl refl refl l)
      (λ j m. reads_bind (present_byte_is_read 44 refl m) (λ b k e n. elim (h.begins (41 ∷ tail)) [
        | inl x ↦
            passes_blanks (32 ∷ []) _ refl (beginning_of_inline_is_no_other_byte 32 x refl)
            (beginning_of_inline_is_no_other_byte lf x refl)
            (beginning_of_inline_is_no_other_byte cr x refl) n
        | inr x ↦ absurd cc
      ]))
  separator_before_arguments_is_passed level names (inlines e es) ns i tail h l =
      passes_then (passes_blanks [] _ refl refl refl refl l)
      (λ j m. reads_bind (present_byte_is_read 44 refl m) (λ b k f n. elim (h.begins (41 ∷ tail)) [
        | inl x ↦
            passes_blanks (32 ∷ []) _ refl (beginning_of_inline_is_no_other_byte 32 x refl)
            (beginning_of_inline_is_no_other_byte lf x refl)
            (beginning_of_inline_is_no_other_byte cr x refl) n
        | inr x ↦ absurd cc
      ]))

  -- ---- positional arguments

  rest_of_arguments_follows_positional : (level : ℕ) (ps : InlineTrees Text) (ns : NamedTrees Text) (tail : List ℕ) →
      Follows [] (positional_bytes level false ps (named_bytes level false ns (41 ∷ tail)))
  rest_of_arguments_follows_positional level no_inlines no_named tail =
      record {
        spaces = refl;
        no_name = refl;
        no_digit = refl;
        no_point = refl;
        no_space = refl;
        no_lf = refl;
        no_cr = refl;
        no_list = refl;
        no_attribute = refl;
      }
  rest_of_arguments_follows_positional level no_inlines (nameds n ns) tail =
      record {
        spaces = refl;
        no_name = refl;
        no_digit = refl;
        no_point = refl;
        no_space = refl;
        no_lf = refl;
        no_cr = refl;
        no_list = refl;
        no_attribute = refl;
      }
  rest_of_arguments_follows_positional level (inlines e es) ns tail =
      record {
        spaces = refl;
        no_name = refl;
        no_digit = refl;
        no_point = refl;
        no_space = refl;
        no_lf = refl;
        no_cr = refl;
        no_list = refl;
        no_attribute = refl;
      }

  no_colon_follows_positional : (level : ℕ) (ps : InlineTrees Text) (ns : NamedTrees Text) (tail : List ℕ) →
      holds (λ b. b == 58) (first (positional_bytes level false ps (named_bytes level false ns (41 ∷ tail)))) ≡ false
  no_colon_follows_positional level no_inlines no_named tail = refl
  no_colon_follows_positional level no_inlines (nameds n ns) tail = refl
  no_colon_follows_positional level (inlines e es) ns tail = refl

  -- without a colon an argument is positional
  inline_reads_as_positional_argument :
      (names : List Text) (e : InlineTree Span) (o : Option Span) (colon : Bool) (i : ℕ) (a : More Said (List Text))
      (left : List ℕ) → colon ≡ false →
      Reads t (positional_rest t names e) (more_map (said t) (λ ns. ns)) i a left →
      Reads t (argument_rest t (family edition t) names e o colon) (more_map (said t) (λ ns. ns)) i a left
  inline_reads_as_positional_argument names e None colon i a left f r = r
  inline_reads_as_positional_argument names e (Some n) true i a left f r = absurd cc
  inline_reads_as_positional_argument names e (Some n) false i a left f r = r

  added_positional_spells_its_tree :
      (v : Argument) (a : ArgumentsTree Span) (e : InlineTree Text) (ps : InlineTrees Text)
      (ns : NamedTrees Text) → said t v ≡ says_positional e → arguments_map (bytes_at t) a ≡ arguments ps ns →
      arguments_map (bytes_at t) (add_argument v a) ≡ arguments (inlines e ps) ns
  added_positional_spells_its_tree (positional v) (arguments qs ms) e ps ns f g = cc
  added_positional_spells_its_tree (named name v) (arguments qs ms) e ps ns f g = absurd cc

  -- the rest of a list, at an argument's first byte
  argument_reads_at_its_first_byte : (names : List Text) (i : ℕ) (bs : List ℕ) (a : More Said (List Text))
      (left : List ℕ) → Begins bs → SuffixAt t i bs →
      Reads t (grammar.inline_expression edition t >>= λ e. peek (has_byte t 58) yields >>= λ colon.
      argument_rest t (family edition t) names e (argument_name e) colon) (more_map (said t) (λ ns. ns)) i a
      left →
      ReadsNext names i a left
  argument_reads_at_its_first_byte names i bs a left b l r =
      (reads_peek (Some b.byte) (first_of_suffix l ∙ ap first b.are)
      (second_branch_reads (parted_by_test begins_inline b.byte 41 b.start refl) r))

  pub positional_reads_back : (level : ℕ) (e : InlineTree Text) (es : InlineTrees Text) (ns : NamedTrees Text) →
      InlineReadsBack edition t level e → ArgumentListReadsBack edition t level [] es ns →
      ArgumentListReadsBack edition t level [] (inlines e es) ns
  positional_reads_back level e es ns h more = record {
    begins = λ tail. inl (canonical_inline_begins_inline edition level e _ h.obeys);
    back = λ i tail l.
        let rest = positional_bytes level false es (named_bytes level false ns (41 ∷ tail)) in
        list_reads_item_and_rest {c = says_positional e} {q = []}
        (argument_reads_at_its_first_byte [] i _ _ _ (canonical_inline_begins_inline edition level e rest h.obeys) l
        (reads_bind (h.back i [] rest (rest_of_arguments_follows_positional level es ns tail) l) (λ v j f m.
        let n = suffix_by_equality (bytes_past_no_gap_are_the_rest e rest) m in
        look_reads_what_follows (has_byte t 58 j) refl
        (inline_reads_as_positional_argument [] v (argument_name v) (has_byte t 58 j) j _ _
        (test_of_suffix (λ b. b == 58) n ∙ no_colon_follows_positional level es ns tail)
        (passes_then (separator_before_arguments_is_passed level [] es ns j tail more n)
        (λ k q. yields_reads_its_view (ap (λ e. item (says_positional e) []) f) q))))))
        (arguments_read_back_after_equal_names level [] es ns tail more)
        (λ v a f g. added_positional_spells_its_tree v a e es ns f g);
  }

  -- ---- named arguments

  -- the name of a named argument, read as a message reference
  pub record IsName (v : InlineTree Span) (name : Text) : Type 0 where
    pub id : Span
    pub is : argument_name v ≡ Some id
    pub spells : bytes_at t id ≡ name

  bare_message_reference_is_name : (v : InlineTree Span) (name : Text) →
      inline_map (bytes_at t) v ≡ message_reference name None → IsName v name
  bare_message_reference_is_name (string_literal v) name e = absurd cc
  bare_message_reference_is_name (number_literal v) name e = absurd cc
  bare_message_reference_is_name (function_reference id a) name e = absurd cc
  bare_message_reference_is_name (message_reference id None) name e = record { id = id; is = refl; spells = cc }
  bare_message_reference_is_name (message_reference id (Some a)) name e = absurd cc
  bare_message_reference_is_name (term_reference id a c) name e = absurd cc
  bare_message_reference_is_name (variable_reference id) name e = absurd cc
  bare_message_reference_is_name (inline_placeable x) name e = absurd cc

  -- before a colon a name is that of a named argument
  name_and_colon_read_as_named_argument :
      (names : List Text) (e : InlineTree Span) (id : Span) (o : Option Span) (colon : Bool) (i : ℕ)
      (a : More Said (List Text)) (left : List ℕ) → o ≡ Some id → colon ≡ true →
      Reads t (named_rest t (family edition t) names id) (more_map (said t) (λ ns. ns)) i a left →
      Reads t (argument_rest t (family edition t) names e o colon) (more_map (said t) (λ ns. ns)) i a left
  name_and_colon_read_as_named_argument names e id o colon i a left f g r = rw (f, g) r

  added_named_spells_its_tree :
      (v : Argument) (a : ArgumentsTree Span) (name : Text) (e : InlineTree Text)
      (ps : InlineTrees Text) (ns : NamedTrees Text) → said t v ≡ says_named name e →
      arguments_map (bytes_at t) a ≡ arguments ps ns →
      arguments_map (bytes_at t) (add_argument v a) ≡ arguments ps (nameds (named_argument name e) ns)
  added_named_spells_its_tree (positional v) (arguments qs ms) name e ps ns f g = absurd cc
  added_named_spells_its_tree (named id v) (arguments qs ms) name e ps ns f g = cc

  -- a value that may be one, by its start
  argument_value_reads_back : (level : ℕ) (e : InlineTree Text) (i : ℕ) (tail left : List ℕ) →
      inline_obeys (canonical_rules edition) e ≡ true → is_argument_value e ≡ true →
      SuffixAt t i (inline_bytes level e tail) →
      Reads t (grammar.inline_expression edition t) (inline_map (bytes_at t)) i e left →
      Reads t (peek (start t) (argument_value t (family edition t))) (inline_map (bytes_at t)) i e left
  argument_value_reads_back level (string_literal v) i tail left h a l r =
      reads_peek quote (inline_start_is_that_of_bytes quote refl l) r
  argument_value_reads_back level (number_literal []) i tail left h a l r = absurd cc
  argument_value_reads_back level (number_literal (b ∷ bs)) i tail left h a l r =
      reads_peek digit
      (inline_start_is_that_of_bytes digit (start_of-digit b _ (and_gives_left (is_digit b) (is_number_rest bs) a))
      l) r
  argument_value_reads_back level (function_reference id c) i tail left h a l r =
      reads_peek letter (name_starts_with_letter edition t i id _ (and_gives_left (is_name id) _ h) l) r
  argument_value_reads_back level (message_reference id c) i tail left h a l r =
      reads_peek letter (name_starts_with_letter edition t i id _ (and_gives_left (is_name id) _ h) l) r
  argument_value_reads_back level (term_reference id c d) i tail left h a l r = absurd cc
  argument_value_reads_back level (variable_reference id) i tail left h a l r = absurd cc
  argument_value_reads_back level (inline_placeable x) i tail left h a l r = absurd cc

  -- from the colon on
  named_argument_reads_back_from_colon : (level : ℕ) (names : List Text) (name : Text) (e : InlineTree Text)
      (ns : NamedTrees Text) →
      InlineReadsBack edition t level e → is_used name names ≡ false → is_argument_value e ≡ true →
      ArgumentListReadsBack edition t level (name ∷ names) no_inlines ns →
      (id : Span) (i : ℕ) (tail : List ℕ) → bytes_at t id ≡ name →
      SuffixAt t i (58 ∷ 32 ∷ inline_bytes level e (named_bytes level false ns (41 ∷ tail))) →
      Reads t (named_rest t (family edition t) names id) (more_map (said t) (λ ns. ns)) i
      (item (says_named name e) (name ∷ names)) (named_bytes level true ns (41 ∷ tail))
  named_argument_reads_back_from_colon level names name e ns h used value more id i tail f l =
      let rest = named_bytes level false ns (41 ∷ tail) in
      let b = canonical_inline_begins_inline edition level e rest h.obeys in
      second_branch_reads (rw f used)
      (passes_then (token_passes_its_byte 58 refl l)
      (λ j m. passes_then
      (passes_blanks (32 ∷ []) _ refl (beginning_of_inline_is_no_other_byte 32 b refl)
      (beginning_of_inline_is_no_other_byte lf b refl) (beginning_of_inline_is_no_other_byte cr b refl)
      m) (λ k n.
      reads_bind (argument_value_reads_back level e k rest (bytes_past e [] rest) h.obeys value n
      (h.back k [] rest (rest_of_arguments_follows_positional level no_inlines ns tail) n)) (λ v p g q.
      passes_then (separator_before_arguments_is_passed level (name ∷ names) no_inlines ns p tail more
      (suffix_by_equality (bytes_past_no_gap_are_the_rest e rest) q))
      (λ y z. yields_reads_its_view (same_item v f g) z)))))
    where
      same_item : (v : InlineTree Span) → bytes_at t id ≡ name → inline_map (bytes_at t) v ≡ e →
          item (says_named (bytes_at t id) (inline_map (bytes_at t) v)) (bytes_at t id ∷ names) ≡
          item (says_named name e) (name ∷ names)
      same_item v f g = cc

  pub named_reads_back : (level : ℕ) (names : List Text) (name : Text) (e : InlineTree Text) (ns : NamedTrees Text) →
      is_name name ≡ true → InlineReadsBack edition t level e → is_used name names ≡ false →
      is_argument_value e ≡ true →
      ArgumentListReadsBack edition t level (name ∷ names) no_inlines ns →
      ArgumentListReadsBack edition t level names no_inlines (nameds (named_argument name e) ns)
  named_reads_back level names name e ns is h used value more = record {
    begins = λ tail. inl (name_begins_inline name _ is);
    back = λ i tail l.
        let rest = 58 ∷ 32 ∷ inline_bytes level e (named_bytes level false ns (41 ∷ tail)) in
        let f : Follows [] rest =
        record {
          spaces = refl;
          no_name = refl;
          no_digit = refl;
          no_point = refl;
          no_space = refl;
          no_lf = refl;
          no_cr = refl;
          no_list = refl;
          no_attribute = refl;
        } in
        list_reads_item_and_rest {c = says_named name e} {q = name ∷ names}
        (argument_reads_at_its_first_byte names i _ _ _ (name_begins_inline name rest is) l
        (reads_bind (message_name_reads_back edition t i level name [] rest is f l) (λ v j g m.
        let n = bare_message_reference_is_name v name g in
        look_reads_what_follows (has_byte t 58 j) refl
        (name_and_colon_read_as_named_argument names v n.id (argument_name v) (has_byte t 58 j) j _ _ n.is
        (test_of_suffix (λ b. b == 58) m)
        (named_argument_reads_back_from_colon level names name e ns h used value more n.id j tail n.spells m)))))
        (arguments_read_back_after_equal_names level (name ∷ names) no_inlines ns tail more)
        (λ v a f g. added_named_spells_its_tree v a name e no_inlines ns f g);
  }

  -- ---- the whole list

  -- a list with its brackets
  pub call_reads_back : (level : ℕ) (ps : InlineTrees Text) (ns : NamedTrees Text) →
      ArgumentListReadsBack edition t level [] ps ns →
      (i : ℕ) (tail : List ℕ) → SuffixAt t i (arguments_bytes level (arguments ps ns) tail) →
      Reads t (call_arguments edition t) (maybe_map (bytes_at t)) i (some_arguments (arguments ps ns)) tail
  call_reads_back level ps ns h i tail l =
      passes_then (passes_blanks [] _ refl refl refl refl l)
      (λ j m. reads_bind (present_byte_is_read 40 refl m) (λ b k e n. first_branch_reads e
      (reads_bind (passes_then (inside k n) (λ p q.
      including_construct_reads_alike (λ o x. argument_list_of_family_is_in_family edition t p o x) (h.back p tail q)))
      (λ a w x s. yields_reads_its_view (ap some_arguments x) s))))
    where
      at_end : (ps : InlineTrees Text) (ns : NamedTrees Text) (k : ℕ) → (ps ≡ no_inlines) ×
          (ns ≡ no_named) →
          SuffixAt t k (positional_bytes level true ps (named_bytes level (is_none_of ps) ns (41 ∷ tail))) →
          Passes t (blank t) k (positional_bytes level true ps (named_bytes level (is_none_of ps) ns (41 ∷ tail)))
      at_end no_inlines no_named k x n = passes_blanks [] _ refl refl refl refl n
      at_end no_inlines (nameds y ys) k x n = absurd cc
      at_end (inlines y ys) ns k x n = absurd cc

      inside : (k : ℕ) →
          SuffixAt t k (positional_bytes level true ps (named_bytes level (is_none_of ps) ns (41 ∷ tail))) →
          Passes t (blank t) k (positional_bytes level true ps (named_bytes level (is_none_of ps) ns (41 ∷ tail)))
      inside k n = elim (h.begins (41 ∷ tail)) [
        | inl b ↦
            passes_blanks [] _ refl (beginning_of_inline_is_no_other_byte 32 b refl)
            (beginning_of_inline_is_no_other_byte lf b refl) (beginning_of_inline_is_no_other_byte cr b refl) n
        | inr x ↦ at_end ps ns k x n
      ]
