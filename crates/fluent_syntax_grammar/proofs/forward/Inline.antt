-- Inline expressions and argument lists, read forwards.
use Rattle.std.proofs.Common.{◌≡◌, ℕ, List, [], ◌∷◌, ◌++◌, Option, Some, None, Bool, true, false, refl, ap, arith, inl}
use Rattle.std.proofs.Common.{inr}
use Rattle.std.specs.Prelude.{◌==◌, ◌&&◌, ◌⊎◌, if◌then◌else◌}
use Rattle.std.specs.List.{list_all}
use Rattle.std.proofs.lemmas.Bool.Decides.{nat_tests}
use Rattle.std.proofs.lemmas.Bool.{false≢true}
use Rattle.fluent_syntax_tree.specs.Tree.{InlineTree, inline_map, string_literal, number_literal, function_reference}
use Rattle.fluent_syntax_tree.specs.Tree.{message_reference, term_reference, variable_reference, inline_placeable}
use Rattle.fluent_syntax_tree.specs.Tree.{MaybeArguments, maybe_map, no_arguments, some_arguments, option_texts}
use Rattle.fluent_syntax_tree.specs.Spans.{bytes_at}
use Rattle.fluent_syntax_tree.specs.declared.spans.Span.{Span}
use Rattle.fluent_syntax_tree.specs.declared.edition.Edition.{Edition}
use Rattle.fluent_syntax_grammar.specs.Bytes.{lf, cr, is_space, is_name_byte, is_letter, is_digit}
use Rattle.fluent_syntax_grammar.specs.Places.{holds}
use Rattle.fluent_syntax_grammar.specs.Starts.{Start, start, start_of, quote, digit, minus, dollar, letter}
use Rattle.fluent_syntax_grammar.specs.Construct.{◌>>=◌, yields}
use Rattle.fluent_syntax_grammar.specs.Tokens.{number, blank}
use Rattle.fluent_syntax_grammar.specs.Written.{Text}
use Rattle.fluent_syntax_grammar.specs.Spellings.{is_name, is_number, is_number_rest, is_unsigned, is_string}
use Rattle.fluent_syntax_grammar.specs.Arguments as rules
use Rattle.fluent_syntax_grammar.specs.Inline as rules'
use Rattle.fluent_syntax_grammar.specs.Grammar.{inline_expression, call_arguments}
use Rattle.fluent_syntax_grammar.proofs.Facts.{and_gives_left, and_gives_right, same_by_test}
use Rattle.fluent_syntax_grammar.proofs.Tests.{or_has_true_side, parted_by_test}
use Rattle.fluent_syntax_grammar.proofs.SuffixAt.{SuffixAt, first, first_of_suffix, next_of_suffix, rest_past_front}
use Rattle.fluent_syntax_grammar.proofs.SuffixAt.{prefix_of_spaces_and_lfs_is_blank}
use Rattle.fluent_syntax_grammar.proofs.SuffixAt.{is_space_or_lf}
use Rattle.fluent_syntax_grammar.proofs.forward.Reading.{Reads, Passes, reads_bind, yields_reads_its_view, passes_then}
use Rattle.fluent_syntax_grammar.proofs.forward.Reading.{skip_passes_over_relation, reads_peek, first_branch_reads}
use Rattle.fluent_syntax_grammar.proofs.forward.Reading.{second_branch_reads}
use Rattle.fluent_syntax_grammar.proofs.forward.Reading.{present_byte_is_read, optional_reads_that_byte_is_absent}
use Rattle.fluent_syntax_grammar.proofs.forward.Reading.{token_passes_its_byte}
use Rattle.fluent_syntax_grammar.proofs.forward.Words.{identifier_reads_back, number_reads_back_its_bytes}
use Rattle.fluent_syntax_grammar.proofs.forward.Strings.{string_literal_reads_back_its_bytes}
use Rattle.fluent_syntax_grammar.proofs.marks.WrittenBytes.{inline_bytes}

-- What may follow an inline expression: spaces and then a byte that goes on with none of its forms.
pub record Follows (gap more : List ℕ) : Type 0 where
  pub spaces : list_all is_space_or_lf gap ≡ true
  -- the next byte is in no name and is no point
  pub no_name : holds is_name_byte (first (gap ++ more)) ≡ false
  pub no_digit : holds is_digit (first (gap ++ more)) ≡ false
  pub no_point : holds (λ b. b == 46) (first (gap ++ more)) ≡ false
  -- the byte after the spaces begins no blank, no argument list and no attribute
  pub no_space : holds is_space (first more) ≡ false
  pub no_lf : holds (λ b. b == lf) (first more) ≡ false
  pub no_cr : holds (λ b. b == cr) (first more) ≡ false
  pub no_list : holds (λ b. b == 40) (first more) ≡ false
  pub no_attribute : holds (λ b. b == 46) (first more) ≡ false

-- whether reading the expression passes the blank after it too
abbrev pub passes_blank : {X : Type 0} → InlineTree X → Bool
passes_blank (string_literal v) = false
passes_blank (number_literal v) = false
passes_blank (function_reference id a) = false
passes_blank (message_reference id None) = true
passes_blank (message_reference id (Some a)) = false
passes_blank (term_reference id attribute no_arguments) = true
passes_blank (term_reference id attribute (some_arguments a)) = false
passes_blank (variable_reference id) = false
passes_blank (inline_placeable e) = false

-- what is left after it
abbrev pub bytes_past : {X : Type 0} → InlineTree X → (gap more : List ℕ) → List ℕ
bytes_past e gap more = if passes_blank e then more else gap ++ more

digit_is_no_letter : (b : ℕ) → is_digit b ≡ true → is_letter b ≡ false
digit_is_no_letter b e = grind (arith, nat_tests)

pub letter_is_no_digit : (b : ℕ) → is_letter b ≡ true → is_digit b ≡ false
letter_is_no_digit b e = grind (arith, nat_tests)

pub start_of-digit : (b : ℕ) (next : Bool) → is_digit b ≡ true → start_of (Some b) next ≡ digit
start_of-digit b next e = rw (parted_by_test is_digit b 34 e refl, e) refl

start_of-letter : (b : ℕ) (next : Bool) → is_letter b ≡ true → start_of (Some b) next ≡ letter
start_of-letter b next e =
    rw (
      parted_by_test is_letter b 34 e refl,
      letter_is_no_digit b e,
      parted_by_test is_letter b 45 e refl,
      parted_by_test is_letter b 36 e refl,
      e,
    ) refl

module _ {t : List ℕ} where
  -- a blank, before a byte that begins none
  pub passes_blanks : {i : ℕ} (gap more : List ℕ) → list_all is_space_or_lf gap ≡ true →
      holds is_space (first more) ≡ false → holds (λ b. b == lf) (first more) ≡ false →
      holds (λ b. b == cr) (first more) ≡ false →
      SuffixAt t i (gap ++ more) → Passes t (blank t) i more
  passes_blanks gap more a d e f l =
      skip_passes_over_relation (prefix_of_spaces_and_lfs_is_blank gap more a d e f l) (rest_past_front gap l)

  gap_before_rest_is_passed : {i : ℕ} (gap more : List ℕ) → Follows gap more → SuffixAt t i (gap ++ more) →
      Passes t (blank t) i more
  gap_before_rest_is_passed gap more f l = passes_blanks gap more f.spaces f.no_space f.no_lf f.no_cr l

  -- the start that a byte makes
  pub inline_start_is_that_of_bytes : {i b : ℕ} {bs : List ℕ} (s : Start) →
      start_of (Some b) (holds is_letter (first bs)) ≡ s →
      SuffixAt t i (b ∷ bs) → start t i ≡ s
  inline_start_is_that_of_bytes s e l = rw (first_of_suffix l, first_of_suffix (next_of_suffix l)) e

module _ (edition : Edition) (t : List ℕ) where
  abbrev pub ReadsInline : ℕ → InlineTree Text → List ℕ → Type 0
  ReadsInline i e left = Reads t (inline_expression edition t) (inline_map (bytes_at t)) i e left

  pub string_reads_back : (i level : ℕ) (v more : List ℕ) → is_string v ≡ true →
      SuffixAt t i (inline_bytes level (string_literal v) more) → ReadsInline i (string_literal v) more
  string_reads_back i level v more e l =
      reads_peek quote (inline_start_is_that_of_bytes quote refl l)
      (reads_bind (string_literal_reads_back_its_bytes v more e l)
      (λ s j f m. yields_reads_its_view (ap string_literal f) m))

  pub variable_reads_back : (i level : ℕ) (id gap more : List ℕ) → is_name id ≡ true → Follows gap more →
      SuffixAt t i (inline_bytes level (variable_reference id) (gap ++ more)) →
      ReadsInline i (variable_reference id) (gap ++ more)
  variable_reads_back i level id gap more e f l =
      reads_peek dollar (inline_start_is_that_of_bytes dollar refl l)
      (passes_then (token_passes_its_byte 36 refl l)
      (λ j m. reads_bind (identifier_reads_back id (gap ++ more) e f.no_name m)
      (λ s j g n. yields_reads_its_view (ap variable_reference g) n)))

  number_reads_as_number_literal : (i : ℕ) (v gap more : List ℕ) → is_number v ≡ true → Follows gap more →
      SuffixAt t i (v ++ (gap ++ more)) →
      Reads t (number t >>= λ v. yields (number_literal v)) (inline_map (bytes_at t)) i (number_literal v) (gap ++ more)
  number_reads_as_number_literal i v gap more e f l =
      reads_bind (number_reads_back_its_bytes v (gap ++ more) e f.no_digit f.no_point l)
      (λ s j g m. yields_reads_its_view (ap number_literal g) m)

  number_starts_with_digit_or_minus : (i : ℕ) (v more : List ℕ) → is_number v ≡ true → SuffixAt t i (v ++ more) →
      (start t i ≡ digit) ⊎ (start t i ≡ minus)
  number_starts_with_digit_or_minus i [] more e l = cc
  number_starts_with_digit_or_minus i (b ∷ []) more e l =
      elim (or_has_true_side (b == 45 && is_unsigned []) (is_unsigned (b ∷ [])) e) [
        | inl h ↦ absurd (false≢true (and_gives_right (b == 45) false h))
        | inr h ↦ inl (inline_start_is_that_of_bytes digit (start_of-digit b _ (and_gives_left (is_digit b) true h)) l)
      ]
  number_starts_with_digit_or_minus i (b ∷ c ∷ bs) more e l =
      elim (or_has_true_side (b == 45 && is_unsigned (c ∷ bs)) (is_unsigned (b ∷ c ∷ bs)) e) [
        | inl h ↦ inr
            (inline_start_is_that_of_bytes minus
            (rw (
              same_by_test b 45 (and_gives_left (b == 45) (is_unsigned (c ∷ bs)) h),
              digit_is_no_letter c
                  (and_gives_left (is_digit c) (is_number_rest bs)
                  (and_gives_right (b == 45) (is_unsigned (c ∷ bs)) h)),
            ) refl) l)
        | inr h ↦
            inl (inline_start_is_that_of_bytes digit
            (start_of-digit b _ (and_gives_left (is_digit b) (is_number_rest (c ∷ bs)) h)) l)
      ]

  pub number_reads_back : (i level : ℕ) (v gap more : List ℕ) → is_number v ≡ true → Follows gap more →
      SuffixAt t i (inline_bytes level (number_literal v) (gap ++ more)) →
      ReadsInline i (number_literal v) (gap ++ more)
  number_reads_back i level v gap more e f l = elim (number_starts_with_digit_or_minus i v (gap ++ more) e l) [
    | inl s ↦ reads_peek digit s (number_reads_as_number_literal i v gap more e f l)
    | inr s ↦ reads_peek minus s (number_reads_as_number_literal i v gap more e f l)
  ]

  -- ---- names and arguments

  abbrev pub ReadsCall : ℕ → MaybeArguments Text → List ℕ → Type 0
  ReadsCall i a left = Reads t (call_arguments edition t) (maybe_map (bytes_at t)) i a left

  -- no argument list
  pub no_arguments_are_read_without_list : (i : ℕ) (gap more : List ℕ) → Follows gap more → SuffixAt t i (gap ++ more) →
      ReadsCall i no_arguments more
  no_arguments_are_read_without_list i gap more f l =
      passes_then (gap_before_rest_is_passed gap more f l)
      (λ j m. reads_bind (optional_reads_that_byte_is_absent 40 f.no_list m)
      (λ b k e n. second_branch_reads e (yields_reads_its_view refl n)))

  -- no argument list, and no blank to pass
  no_argument_list_is_read_here : (i : ℕ) (more : List ℕ) → holds is_space (first more) ≡ false →
      holds (λ b. b == lf) (first more) ≡ false → holds (λ b. b == cr) (first more) ≡ false →
      holds (λ b. b == 40) (first more) ≡ false →
      SuffixAt t i more → ReadsCall i no_arguments more
  no_argument_list_is_read_here i more a d e f l =
      passes_then (passes_blanks [] more refl a d e l)
      (λ j m. reads_bind (optional_reads_that_byte_is_absent 40 f m)
      (λ b k h n. second_branch_reads h (yields_reads_its_view refl n)))

  pub name_starts_with_letter : (i : ℕ) (id more : List ℕ) → is_name id ≡ true → SuffixAt t i (id ++ more) →
      start t i ≡ letter
  name_starts_with_letter i [] more e l = cc
  name_starts_with_letter i (b ∷ bs) more e l =
      inline_start_is_that_of_bytes letter
      (start_of-letter b _ (and_gives_left (is_letter b) (list_all is_name_byte bs) e)) l

  -- ---- message references

  pub no_accessor_without_dot : (i : ℕ) (more : List ℕ) → holds (λ b. b == 46) (first more) ≡ false →
      SuffixAt t i more →
      Reads t (rules.accessor t) (option_texts (bytes_at t)) i None more
  no_accessor_without_dot i more e l =
      reads_bind (optional_reads_that_byte_is_absent 46 e l)
      (λ b j f m. second_branch_reads f (yields_reads_its_view refl m))

  pub accessor_is_read_after_point : (i : ℕ) (a more : List ℕ) → is_name a ≡ true →
      holds is_name_byte (first more) ≡ false →
      SuffixAt t i (46 ∷ (a ++ more)) → Reads t (rules.accessor t) (option_texts (bytes_at t)) i (Some a) more
  accessor_is_read_after_point i a more e f l =
      reads_bind (present_byte_is_read 46 refl l)
      (λ b j g m. first_branch_reads g
      (reads_bind (identifier_reads_back a more e f m) (λ s k h n. yields_reads_its_view (ap Some h) n)))

  -- a name without arguments is a message reference
  message_reference_reads_after_its_name :
      (id : Span) (name : List ℕ) (attribute : Option Text) (i : ℕ) (left : List ℕ) (v : MaybeArguments Span) →
      bytes_at t id ≡ name → maybe_map (bytes_at t) v ≡ no_arguments →
      Reads t (rules.accessor t) (option_texts (bytes_at t)) i attribute left →
      Reads t (rules'.named_reference t id v) (inline_map (bytes_at t)) i (message_reference name attribute) left
  message_reference_reads_after_its_name id name attribute i left no_arguments e f r =
      reads_bind r (λ a j g m. yields_reads_its_view (cc) m)
  message_reference_reads_after_its_name id name attribute i left (some_arguments a) e f r = absurd cc

  pub message_name_reads_back : (i level : ℕ) (id gap more : List ℕ) → is_name id ≡ true → Follows gap more →
      SuffixAt t i (id ++ (gap ++ more)) → ReadsInline i (message_reference id None) more
  message_name_reads_back i level id gap more e f l =
      reads_peek letter (name_starts_with_letter i id (gap ++ more) e l)
      (reads_bind (identifier_reads_back id (gap ++ more) e f.no_name l) (λ s j g m.
      reads_bind (no_arguments_are_read_without_list j gap more f m)
      (λ a k h n. message_reference_reads_after_its_name s id None k more a g h
      (no_accessor_without_dot k more f.no_attribute n))))

  pub message_attribute_reads_back : (i level : ℕ) (id a gap more : List ℕ) → is_name id ≡ true → is_name a ≡ true →
      Follows gap more → SuffixAt t i (id ++ (46 ∷ (a ++ (gap ++ more)))) →
      ReadsInline i (message_reference id (Some a)) (gap ++ more)
  message_attribute_reads_back i level id a gap more e e' f l =
      reads_peek letter (name_starts_with_letter i id _ e l)
      (reads_bind (identifier_reads_back id _ e refl l) (λ s j g m.
      reads_bind (no_argument_list_is_read_here j _ refl refl refl refl m)
      (λ v k h n. message_reference_reads_after_its_name s id (Some a) k (gap ++ more) v g h
      (accessor_is_read_after_point k a (gap ++ more) e' f.no_name n))))
