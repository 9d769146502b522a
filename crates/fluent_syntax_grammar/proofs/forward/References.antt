-- Inline expressions of each form are read back, if what they hold is.
use Rattle.std.proofs.Common.{◌≡◌, ℕ, List, [], ◌∷◌, ◌++◌, Option, Some, None, true, false, refl, ◌∙◌, ap}
use Rattle.std.specs.Prelude.{◌==◌}
use Rattle.std.specs.List.{list_all}
use Rattle.fluent_syntax_tree.specs.Tree.{inline_map, string_literal, number_literal, function_reference}
use Rattle.fluent_syntax_tree.specs.Tree.{message_reference, term_reference, variable_reference, ArgumentsTree}
use Rattle.fluent_syntax_tree.specs.Tree.{arguments, MaybeArguments, maybe_map, no_arguments, some_arguments}
use Rattle.fluent_syntax_tree.specs.Tree.{InlineTrees, NamedTrees, option_texts}
use Rattle.fluent_syntax_tree.specs.Spans.{bytes_at}
use Rattle.fluent_syntax_tree.specs.declared.spans.Span.{Span}
use Rattle.fluent_syntax_tree.specs.declared.edition.Edition.{Edition}
use Rattle.fluent_syntax_grammar.specs.Bytes.{is_name_byte, is_letter}
use Rattle.fluent_syntax_grammar.specs.Places.{holds}
use Rattle.fluent_syntax_grammar.specs.Starts.{start, term, letter}
use Rattle.fluent_syntax_grammar.specs.Written.{Text}
use Rattle.fluent_syntax_grammar.specs.Spellings.{is_name}
use Rattle.fluent_syntax_grammar.specs.Rules.{inline_obeys, option_obeys}
use Rattle.fluent_syntax_grammar.specs.Canonical.{canonical_rules}
use Rattle.fluent_syntax_grammar.specs.Arguments.{accessor}
use Rattle.fluent_syntax_grammar.specs.Inline.{is_callee_byte, named_reference}
use Rattle.fluent_syntax_grammar.specs.Grammar.{inline_expression, call_arguments}
use Rattle.fluent_syntax_grammar.proofs.Facts.{and_gives_left, and_gives_right}
use Rattle.fluent_syntax_grammar.proofs.SuffixAt.{SuffixAt, first}
use Rattle.fluent_syntax_grammar.proofs.forward.Reading.{Reads, reads_bind, yields_reads_its_view, passes_then}
use Rattle.fluent_syntax_grammar.proofs.forward.Reading.{reads_peek}
use Rattle.fluent_syntax_grammar.proofs.forward.Reading.{first_branch_reads, token_passes_its_byte}
use Rattle.fluent_syntax_grammar.proofs.forward.Words.{identifier_reads_back}
use Rattle.fluent_syntax_grammar.proofs.marks.WrittenBytes.{attribute_bytes, maybe_bytes}
use Rattle.fluent_syntax_grammar.proofs.forward.Inline.{Follows, inline_start_is_that_of_bytes, name_starts_with_letter}
use Rattle.fluent_syntax_grammar.proofs.forward.Inline.{string_reads_back}
use Rattle.fluent_syntax_grammar.proofs.forward.Inline.{variable_reads_back, number_reads_back, message_name_reads_back}
use Rattle.fluent_syntax_grammar.proofs.forward.Inline.{message_attribute_reads_back}
use Rattle.fluent_syntax_grammar.proofs.forward.Inline.{no_arguments_are_read_without_list, no_accessor_without_dot}
use Rattle.fluent_syntax_grammar.proofs.forward.Inline.{accessor_is_read_after_point}
use Rattle.fluent_syntax_grammar.proofs.forward.Arguments.{InlineReadsBack, ArgumentListReadsBack, call_reads_back}

-- What may follow a reference's arguments follows the arguments, if there are none.
arguments_begin_no_name : (level : ℕ) (a : MaybeArguments Text) (gap more : List ℕ) → Follows gap more →
    holds is_name_byte (first (maybe_bytes level a (gap ++ more))) ≡ false
arguments_begin_no_name level no_arguments gap more f = f.no_name
arguments_begin_no_name level (some_arguments (arguments ps ns)) gap more f = refl

no_point_is_first : (level : ℕ) (a : MaybeArguments Text) (gap more : List ℕ) → Follows gap more →
    holds (λ b. b == 46) (first (maybe_bytes level a (gap ++ more))) ≡ false
no_point_is_first level no_arguments gap more f = f.no_point
no_point_is_first level (some_arguments (arguments ps ns)) gap more f = refl

-- what is left after arguments, or the blank after none
abbrev pub bytes_after_arguments : MaybeArguments Text → (gap more : List ℕ) → List ℕ
bytes_after_arguments no_arguments gap more = more
bytes_after_arguments (some_arguments a) gap more = gap ++ more

-- Arguments, or none, are read back.
pub record MaybeArgumentsReadBack (edition : Edition) (t : List ℕ) (level : ℕ) (a : MaybeArguments Text) : Type 0 where
  pub back : (i : ℕ) (gap more : List ℕ) → Follows gap more → SuffixAt t i (maybe_bytes level a (gap ++ more)) →
      Reads t (call_arguments edition t) (maybe_map (bytes_at t)) i a (bytes_after_arguments a gap more)

module _ (edition : Edition) (t : List ℕ) where
  pub string_literal_reads_back : (level : ℕ) (v : Text) → inline_obeys (canonical_rules edition) (string_literal v) ≡
      true →
      InlineReadsBack edition t level (string_literal v)
  string_literal_reads_back level v h =
      record { obeys = h; back = λ i gap more f l. string_reads_back edition t i level v (gap ++ more) h l }

  pub number_literal_reads_back : (level : ℕ) (v : Text) → inline_obeys (canonical_rules edition) (number_literal v) ≡
      true →
      InlineReadsBack edition t level (number_literal v)
  number_literal_reads_back level v h =
      record { obeys = h; back = λ i gap more f l. number_reads_back edition t i level v gap more h f l }

  pub variable_reference_reads_back : (level : ℕ) (id : Text) →
      inline_obeys (canonical_rules edition) (variable_reference id) ≡ true →
      InlineReadsBack edition t level (variable_reference id)
  variable_reference_reads_back level id h =
      record { obeys = h; back = λ i gap more f l. variable_reads_back edition t i level id gap more h f l }

  pub message_reference_reads_back : (level : ℕ) (id : Text) (attribute : Option Text) →
      inline_obeys (canonical_rules edition) (message_reference id attribute) ≡ true →
      InlineReadsBack edition t level (message_reference id attribute)
  message_reference_reads_back level id None h =
      record {
        obeys = h;
        back = λ i gap more f l. message_name_reads_back edition t i level id gap more (and_gives_left (is_name id) _ h)
            f l;
      }
  message_reference_reads_back level id (Some a) h =
      record {
        obeys = h;
        back =
            λ i gap more f l.
            message_attribute_reads_back edition t i level id a gap more (and_gives_left (is_name id) _ h)
            (and_gives_right (is_name id) (is_name a) h) f l;
      }

  -- ---- functions

  function_reference_reads_after_its_name :
      (id : Span) (name : Text) (x : ArgumentsTree Text) (i : ℕ) (left : List ℕ) (v : MaybeArguments Span) →
      bytes_at t id ≡ name → maybe_map (bytes_at t) v ≡ some_arguments x → list_all is_callee_byte name ≡ true →
      SuffixAt t i left →
      Reads t (named_reference t id v) (inline_map (bytes_at t)) i (function_reference name x) left
  function_reference_reads_after_its_name id name x i left no_arguments e f g l = absurd cc
  function_reference_reads_after_its_name id name x i left (some_arguments a) e f g l =
      first_branch_reads (ap (list_all is_callee_byte) e ∙ g) (yields_reads_its_view (cc) l)

  pub function_reference_reads_back : (level : ℕ) (id : Text) (ps : InlineTrees Text) (ns : NamedTrees Text) →
      inline_obeys (canonical_rules edition) (function_reference id (arguments ps ns)) ≡ true →
      ArgumentListReadsBack edition t level [] ps ns →
      InlineReadsBack edition t level (function_reference id (arguments ps ns))
  function_reference_reads_back level id ps ns h more = record {
    obeys = h;
    back = λ i gap rest f l.
        let is : is_name id ≡ true = and_gives_left (is_name id) _ h in
        reads_peek letter (name_starts_with_letter edition t i id _ is l)
        (reads_bind (identifier_reads_back id _ is refl l)
        (λ s j g m. reads_bind (call_reads_back edition t level ps ns more j (gap ++ rest) m) (λ a k x n.
        function_reference_reads_after_its_name s id (arguments ps ns) k (gap ++ rest) a g x
        (and_gives_left (list_all is_callee_byte id) _ (and_gives_right (is_name id) _ h)) n)));
  }

  -- ---- terms

  pub no_arguments_read_back : (level : ℕ) → MaybeArgumentsReadBack edition t level no_arguments
  no_arguments_read_back level =
      record { back = λ i gap more f l. no_arguments_are_read_without_list edition t i gap more f l }

  pub some_arguments_read_back : (level : ℕ) (ps : InlineTrees Text) (ns : NamedTrees Text) →
      ArgumentListReadsBack edition t level [] ps ns →
      MaybeArgumentsReadBack edition t level (some_arguments (arguments ps ns))
  some_arguments_read_back level ps ns h =
      record { back = λ i gap more f l. call_reads_back edition t level ps ns h i (gap ++ more) l }

  term_starts_with_hyphen_and_letter : (i : ℕ) (id more : List ℕ) → is_name id ≡ true →
      SuffixAt t i (45 ∷ (id ++ more)) → start t i ≡ term
  term_starts_with_hyphen_and_letter i [] more e l = absurd cc
  term_starts_with_hyphen_and_letter i (b ∷ bs) more e l =
      inline_start_is_that_of_bytes term (rw (and_gives_left (is_letter b) (list_all is_name_byte bs) e) refl) l

  -- the attribute of a term, if it has one, before its arguments
  accessor_reads_back : (level : ℕ) (attribute : Option Text) (a : MaybeArguments Text) (i : ℕ) (gap more : List ℕ) →
      option_obeys is_name attribute ≡ true → Follows gap more →
      SuffixAt t i (attribute_bytes attribute (maybe_bytes level a (gap ++ more))) →
      Reads t (accessor t) (option_texts (bytes_at t)) i attribute (maybe_bytes level a (gap ++ more))
  accessor_reads_back level None a i gap more e f l =
      no_accessor_without_dot edition t i _ (no_point_is_first level a gap more f) l
  accessor_reads_back level (Some x) a i gap more e f l =
      accessor_is_read_after_point edition t i x _ e (arguments_begin_no_name level a gap more f) l

  accessor_begins_no_name : (level : ℕ) (attribute : Option Text) (a : MaybeArguments Text) (gap more : List ℕ) →
      Follows gap more →
      holds is_name_byte (first (attribute_bytes attribute (maybe_bytes level a (gap ++ more)))) ≡ false
  accessor_begins_no_name level None a gap more f = arguments_begin_no_name level a gap more f
  accessor_begins_no_name level (Some x) a gap more f = refl

  term_reference_reads_back_there :
      (level : ℕ) (id : Text) (attribute : Option Text) (a : MaybeArguments Text) (i : ℕ) (gap more : List ℕ) →
      inline_obeys (canonical_rules edition) (term_reference id attribute a) ≡ true →
      MaybeArgumentsReadBack edition t level a →
      Follows gap more →
      SuffixAt t i (45 ∷ (id ++ attribute_bytes attribute (maybe_bytes level a (gap ++ more)))) →
      Reads t (inline_expression edition t) (inline_map (bytes_at t)) i (term_reference id attribute a)
      (bytes_after_arguments a gap more)
  term_reference_reads_back_there level id attribute a i gap more h b f l =
      let is : is_name id ≡ true = and_gives_left (is_name id) _ h in
      let accessor_is : option_obeys is_name attribute ≡ true =
      and_gives_left (option_obeys is_name attribute) _ (and_gives_right (is_name id) _ h) in
      reads_peek term (term_starts_with_hyphen_and_letter i id _ is l)
      (passes_then (token_passes_its_byte 45 refl l)
      (λ j m. reads_bind (identifier_reads_back id _ is (accessor_begins_no_name level attribute a gap more f) m)
      (λ s k g n.
      reads_bind (accessor_reads_back level attribute a k gap more accessor_is f n)
      (λ x p d o. reads_bind (b.back p gap more f o) (λ y q w r. yields_reads_its_view (cc) r)))))

  pub term_reference_reads_back : (level : ℕ) (id : Text) (attribute : Option Text) (a : MaybeArguments Text) →
      inline_obeys (canonical_rules edition) (term_reference id attribute a) ≡ true →
      MaybeArgumentsReadBack edition t level a →
      InlineReadsBack edition t level (term_reference id attribute a)
  term_reference_reads_back level id attribute no_arguments h b =
      record {
        obeys = h;
        back =
            λ i gap more f l. term_reference_reads_back_there level id attribute no_arguments i gap more h b f l;
      }
  term_reference_reads_back level id attribute (some_arguments x) h b =
      record {
        obeys = h;
        back =
            λ i gap more f l. term_reference_reads_back_there level id attribute (some_arguments x) i gap more h b f l;
      }
