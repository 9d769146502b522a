-- The entry that a place has, by its first byte.
use Rattle.std.proofs.Common.{◌≡◌, ℕ, List, Option, Some, None, true, false, refl, arith}
use Rattle.std.specs.Prelude.{slice_get, ◌==◌, Result, Ok, Err}
use Rattle.std.proofs.lemmas.Bool.Decides.{nat_tests}
use Rattle.fluent_syntax_tree.specs.Entry.{EntryTree}
use Rattle.fluent_syntax_tree.specs.declared.edition.Edition.{Edition}
use Rattle.fluent_syntax_tree.specs.declared.spans.Span.{Span}
use Rattle.fluent_syntax_grammar.specs.Body.{attached}
use Rattle.fluent_syntax_grammar.specs.Bytes.{hash, hyphen, is_letter}
use Rattle.fluent_syntax_grammar.specs.Comments.{comment_entry}
use Rattle.fluent_syntax_grammar.specs.Construct.{Construct, Outcome, Read, goes_on, chosen, first, second}
use Rattle.fluent_syntax_grammar.specs.Entries.{message_of, term_of}
use Rattle.fluent_syntax_grammar.specs.Family.{Family}
use Rattle.fluent_syntax_grammar.specs.Grammar.{family}
use Rattle.fluent_syntax_grammar.specs.Places.{has, holds, has_byte}
use Rattle.fluent_syntax_grammar.specs.Tiling.{entry_at, entry_in, entry_of}
use Rattle.fluent_syntax_grammar.proofs.Facts.{absurd_test, tests_exclude}
use Rattle.fluent_syntax_grammar.proofs.HoareTriple.{yields_reads_its_value_in_place}
use Rattle.fluent_syntax_parser.specs.Made.{AddsParsed, made}
use Rattle.fluent_syntax_parser.specs.Outcomes.{Fails}
use Rattle.fluent_syntax_parser.specs.declared.fault.ReadFault.{ReadFault}
use Rattle.fluent_syntax_parser.proofs.readers.Fails.{equal_constructs_fail_alike}
use Rattle.fluent_syntax_parser.proofs.readers.Made.{made_was_read}

-- what was added of a construct, as of one with the same outcomes there
pub entry_that_adds_is_of_its_form : {A B X : Type 0} {t : List ℕ} (f : A → B) {c d : Construct A} (view : X → B)
    {i : ℕ} →
    ((o : Outcome A) → c i o → d i o) → ((e : ReadFault) → Fails t c i e → Fails t d i e) →
    (old new : List X) (r : Result ℕ ReadFault) → AddsParsed t f c view old new i r → AddsParsed t f d view old new i r
entry_that_adds_is_of_its_form f view read fails old new (Ok j) (x, all, h) =
    (x, all, made_was_read h (λ a there same. made (read _ there) same))
entry_that_adds_is_of_its_form f view read fails old new (Err e) (h, all) = (fails e h, all)

module _ (edition : Edition) (t : List ℕ) (R : Family) (i : ℕ) (o : Outcome (EntryTree Span)) where
  comment_of_hash_is_entry : (here : Option ℕ) → holds (λ b. b == hash) here ≡ true → comment_entry t i o →
      entry_of edition t R here i o
  comment_of_hash_is_entry None there h = cc
  comment_of_hash_is_entry (Some b) there h = first there h

  term_of_hyphen_is_entry : (here : Option ℕ) → holds (λ b. b == hash) here ≡ false →
      holds (λ b. b == hyphen) here ≡ true → term_of edition t R i o → entry_of edition t R here i o
  term_of_hyphen_is_entry None none there h = cc
  term_of_hyphen_is_entry (Some b) none there h = second none (first there h)

  message_of_other_byte_is_entry : (here : Option ℕ) → holds (λ b. b == hash) here ≡ false →
      holds (λ b. b == hyphen) here ≡ false → message_of edition t R i o → entry_of edition t R here i o
  message_of_other_byte_is_entry None none other h = h
  message_of_other_byte_is_entry (Some b) none other h = second none (second other h)

  pub comment_at_hash_is_entry : has_byte t hash i ≡ true → comment_entry t i o → entry_in edition t R i o
  comment_at_hash_is_entry there h = chosen (comment_of_hash_is_entry (slice_get t i) there h)

  pub term_at_hyphen_is_entry : has_byte t hash i ≡ false → has_byte t hyphen i ≡ true → term_of edition t R i o →
      entry_in edition t R i o
  term_at_hyphen_is_entry none there h = chosen (term_of_hyphen_is_entry (slice_get t i) none there h)

  pub entry_without_mark_is_message : has_byte t hash i ≡ false → has_byte t hyphen i ≡ false →
      message_of edition t R i o →
      entry_in edition t R i o
  entry_without_mark_is_message none other h = chosen (message_of_other_byte_is_entry (slice_get t i) none other h)

-- ---- and the other way round

module _ (edition : Edition) (t : List ℕ) (R : Family) (i : ℕ) (o : Outcome (EntryTree Span)) where
  pub entry_of_hash_is_comment : (here : Option ℕ) → holds (λ b. b == hash) here ≡ true →
      entry_of edition t R here i o → comment_entry t i o
  entry_of_hash_is_comment None there x = cc
  entry_of_hash_is_comment (Some b) there (first f x) = x
  entry_of_hash_is_comment (Some b) there (second f x) = absurd_test there f

  entry_of_hyphen_is_term : (here : Option ℕ) → holds (λ b. b == hash) here ≡ false →
      holds (λ b. b == hyphen) here ≡ true → entry_of edition t R here i o → term_of edition t R i o
  entry_of_hyphen_is_term None none there x = cc
  entry_of_hyphen_is_term (Some b) none there (first f x) = absurd_test f none
  entry_of_hyphen_is_term (Some b) none there (second f (first g x)) = x
  entry_of_hyphen_is_term (Some b) none there (second f (second g x)) = absurd_test there g

  entry_of_other_byte_is_message : (here : Option ℕ) → holds (λ b. b == hash) here ≡ false →
      holds (λ b. b == hyphen) here ≡ false → entry_of edition t R here i o → message_of edition t R i o
  entry_of_other_byte_is_message None none other x = x
  entry_of_other_byte_is_message (Some b) none other (first f x) = absurd_test f none
  entry_of_other_byte_is_message (Some b) none other (second f (first g x)) = absurd_test g other
  entry_of_other_byte_is_message (Some b) none other (second f (second g x)) = x

module _ (edition : Edition) (t : List ℕ) (R : Family) (i : ℕ) {f : ReadFault} where
  pub entry_at_hash_fails_as_comment : has_byte t hash i ≡ true → Fails t (comment_entry t) i f →
      Fails t (entry_in edition t R) i f
  entry_at_hash_fails_as_comment there h =
      equal_constructs_fail_alike (λ o x. comment_at_hash_is_entry edition t R i o there x) (λ o x. of_chosen o x) h
    where
      of_chosen : (o : Outcome (EntryTree Span)) → entry_in edition t R i o → comment_entry t i o
      of_chosen o (chosen x) = entry_of_hash_is_comment edition t R i o (slice_get t i) there x

  pub entry_fails_where_term_fails : has_byte t hash i ≡ false → has_byte t hyphen i ≡ true →
      Fails t (term_of edition t R) i f →
      Fails t (entry_in edition t R) i f
  entry_fails_where_term_fails none there h =
      equal_constructs_fail_alike (λ o x. term_at_hyphen_is_entry edition t R i o none there x) (λ o x. of_chosen o x) h
    where
      of_chosen : (o : Outcome (EntryTree Span)) → entry_in edition t R i o → term_of edition t R i o
      of_chosen o (chosen x) = entry_of_hyphen_is_term edition t R i o (slice_get t i) none there x

  pub entry_fails_where_message_fails : has_byte t hash i ≡ false → has_byte t hyphen i ≡ false →
      Fails t (message_of edition t R) i f →
      Fails t (entry_in edition t R) i f
  entry_fails_where_message_fails none other h =
      equal_constructs_fail_alike (λ o x. entry_without_mark_is_message edition t R i o none other x)
      (λ o x. of_chosen o x) h
    where
      of_chosen : (o : Outcome (EntryTree Span)) → entry_in edition t R i o → message_of edition t R i o
      of_chosen o (chosen x) = entry_of_other_byte_is_message edition t R i o (slice_get t i) none other x

-- ---- where no entry is attached

module _ (edition : Edition) (t : List ℕ) (content : List Span) (i j : ℕ) (e : EntryTree Span) where
  no_comment_attaches_to_comment : comment_entry t i (Read e j) → attached content e ≡ None
  no_comment_attaches_to_comment (chosen (goes_on x (goes_on {j = m} y z))) =
      rw (← (yields_reads_its_value_in_place _ e m j z).0) refl

  no_comment_attaches_to_entry_of_hash : (here : Option ℕ) → holds (λ b. b == hash) here ≡ true →
      entry_of edition t (family edition t) here i (Read e j) →
      attached content e ≡ None
  no_comment_attaches_to_entry_of_hash None there x = cc
  no_comment_attaches_to_entry_of_hash (Some b) there (first f x) = no_comment_attaches_to_comment x
  no_comment_attaches_to_entry_of_hash (Some b) there (second f x) = absurd_test there f

  pub no_comment_attaches_to_entry_at_hash : has_byte t hash i ≡ true → entry_at edition t i (Read e j) →
      attached content e ≡ None
  no_comment_attaches_to_entry_at_hash there (chosen x) = no_comment_attaches_to_entry_of_hash (slice_get t i) there x

-- ---- a letter is the mark of no other entry than a message

letter_is_no_hash : (b : ℕ) → is_letter b ≡ true → (b == hash) ≡ false
letter_is_no_hash b letter = grind (arith, nat_tests)

letter_is_no_hyphen : (b : ℕ) → is_letter b ≡ true → (b == hyphen) ≡ false
letter_is_no_hyphen b letter = grind (arith, nat_tests)

module _ (t : List ℕ) (i : ℕ) (letter : has t is_letter i ≡ true) where
  place_of_letter_has_no_hash : has_byte t hash i ≡ false
  place_of_letter_has_no_hash = tests_exclude is_letter (λ b. b == hash) (slice_get t i) letter_is_no_hash letter

  place_of_letter_has_no_hyphen : has_byte t hyphen i ≡ false
  place_of_letter_has_no_hyphen = tests_exclude is_letter (λ b. b == hyphen) (slice_get t i) letter_is_no_hyphen letter

  pub message_at_letter_is_entry : (edition : Edition) (R : Family) (o : Outcome (EntryTree Span)) →
      message_of edition t R i o → entry_in edition t R i o
  message_at_letter_is_entry edition R o h =
      entry_without_mark_is_message edition t R i o place_of_letter_has_no_hash place_of_letter_has_no_hyphen h
