-- Expressions and placeables are read back, if the inline expressions in them are. Selects are in a file of their
-- own.
use Rattle.std.proofs.Common.{◌≡◌, ℕ, List, [], ◌∷◌, ◌++◌, Some, None, Bool, true, false, refl, sym, ◌∙◌, ap}
use Rattle.std.specs.Prelude.{◌==◌, if◌then◌else◌}
use Rattle.std.specs.List.{list_all}
use Rattle.fluent_syntax_tree.specs.Tree.{ExpressionTree, inline, expression_map, InlineTree, inline_map}
use Rattle.fluent_syntax_tree.specs.Tree.{string_literal, number_literal, function_reference, message_reference}
use Rattle.fluent_syntax_tree.specs.Tree.{term_reference, variable_reference, inline_placeable}
use Rattle.fluent_syntax_tree.specs.Tree.{placeable as placeable_element}
use Rattle.fluent_syntax_tree.specs.Spans.{bytes_at}
use Rattle.fluent_syntax_tree.specs.declared.edition.Edition.{Edition}
use Rattle.fluent_syntax_grammar.specs.Bytes.{lf, cr, is_space, is_name_byte, is_digit}
use Rattle.fluent_syntax_grammar.specs.Tokens.{blank}
use Rattle.fluent_syntax_grammar.specs.Starts.{brace}
use Rattle.fluent_syntax_grammar.specs.Written.{Text}
use Rattle.fluent_syntax_grammar.specs.Expressions.{has_arrow, selector_fault, is_term_attribute}
use Rattle.fluent_syntax_grammar.specs.Rules.{inline_obeys}
use Rattle.fluent_syntax_grammar.specs.Canonical.{canonical_rules}
use Rattle.fluent_syntax_grammar.specs.Grammar.{inline_expression, expression, placeable}
use Rattle.fluent_syntax_grammar.proofs.Facts.{and_gives_left, and_gives_right, same_by_test}
use Rattle.fluent_syntax_grammar.proofs.Tests.{true_and_true}
use Rattle.fluent_syntax_grammar.proofs.Nesting.{expression_of_family_is_in_family}
use Rattle.fluent_syntax_grammar.proofs.SuffixAt.{SuffixAt, first_of_suffix, is_space_or_lf}
use Rattle.fluent_syntax_grammar.proofs.forward.Reading.{Reads, Passes, reads_bind, yields_reads_its_view, passes_then}
use Rattle.fluent_syntax_grammar.proofs.forward.Reading.{reads_peek, look_reads_what_follows, second_branch_reads}
use Rattle.fluent_syntax_grammar.proofs.forward.Reading.{including_construct_reads_alike}
use Rattle.fluent_syntax_grammar.proofs.forward.Reading.{token_passes_its_byte, passes_inline_blank}
use Rattle.fluent_syntax_grammar.proofs.marks.WrittenBytes.{expression_bytes, element_bytes, closing_indent}
use Rattle.fluent_syntax_grammar.proofs.forward.Inline.{Follows, bytes_past, passes_blank, passes_blanks}
use Rattle.fluent_syntax_grammar.proofs.forward.Inline.{inline_start_is_that_of_bytes}
use Rattle.fluent_syntax_grammar.proofs.forward.Arguments.{Begins, InlineReadsBack, canonical_inline_begins_inline}
use Rattle.fluent_syntax_grammar.proofs.forward.Arguments.{beginning_of_inline_is_no_other_byte}

-- what a tree of ranges is, its tree of texts is
pub map_keeps_fault : {X Y : Type 0} (f : X → Y) (e : InlineTree X) → selector_fault (inline_map f e) ≡ selector_fault e
map_keeps_fault f (string_literal v) = refl
map_keeps_fault f (number_literal v) = refl
map_keeps_fault f (function_reference id a) = refl
map_keeps_fault f (message_reference id None) = refl
map_keeps_fault f (message_reference id (Some a)) = refl
map_keeps_fault f (term_reference id None a) = refl
map_keeps_fault f (term_reference id (Some x) a) = refl
map_keeps_fault f (variable_reference id) = refl
map_keeps_fault f (inline_placeable e) = refl

inline_map_keeps_term_attribute : {X Y : Type 0} (f : X → Y) (e : InlineTree X) →
    is_term_attribute (inline_map f e) ≡ is_term_attribute e
inline_map_keeps_term_attribute f (string_literal v) = refl
inline_map_keeps_term_attribute f (number_literal v) = refl
inline_map_keeps_term_attribute f (function_reference id a) = refl
inline_map_keeps_term_attribute f (message_reference id a) = refl
inline_map_keeps_term_attribute f (term_reference id None a) = refl
inline_map_keeps_term_attribute f (term_reference id (Some x) a) = refl
inline_map_keeps_term_attribute f (variable_reference id) = refl
inline_map_keeps_term_attribute f (inline_placeable e) = refl

pub spaces_are_blank : (bs : List ℕ) → list_all is_space bs ≡ true → list_all is_space_or_lf bs ≡ true
spaces_are_blank [] e = refl
spaces_are_blank (b ∷ bs) e =
    true_and_true (ap is_space_or_lf (same_by_test b 32 (and_gives_left (is_space b) (list_all is_space bs) e)))
    (spaces_are_blank bs (and_gives_right (is_space b) (list_all is_space bs) e))

-- before the brace that closes a placeable
closing_brace_follows_spaces : (gap more : List ℕ) → list_all is_space gap ≡ true → Follows gap (125 ∷ more)
closing_brace_follows_spaces [] more e =
    record {
      spaces = refl;
      no_name = refl;
      no_digit = refl;
      no_point = refl;
      no_space = refl;
      no_lf = refl;
      no_cr = refl;
      no_list = refl;
      no_attribute = refl;
    }
closing_brace_follows_spaces (b ∷ bs) more e =
    let s : b ≡ 32 = same_by_test b 32 (and_gives_left (is_space b) (list_all is_space bs) e) in
    record {
      spaces = spaces_are_blank (b ∷ bs) e;
      no_name = ap is_name_byte s;
      no_digit = ap is_digit s;
      no_point = ap (λ b. b == 46) s;
      no_space = refl;
      no_lf = refl;
      no_cr = refl;
      no_list = refl;
      no_attribute = refl;
    }

-- An expression is read back, before the brace that closes its placeable.
pub record ExpressionReadsBack (edition : Edition) (t : List ℕ) (level : ℕ) (e : ExpressionTree Text) : Type 0 where
  pub begins : (tail : List ℕ) → Begins (expression_bytes level e tail)
  pub back : (i : ℕ) (gap more : List ℕ) → list_all is_space gap ≡ true →
      SuffixAt t i (expression_bytes level e (closing_indent level e ++ (gap ++ (125 ∷ more)))) →
      Reads t (expression edition t) (expression_map (bytes_at t)) i e (125 ∷ more)

module _ (edition : Edition) (t : List ℕ) where
  optional_gap_is_passed : (b : Bool) (gap more : List ℕ) (i : ℕ) → Follows gap more →
      SuffixAt t i (if b then more else gap ++ more) →
      Passes t (blank t) i more
  optional_gap_is_passed true gap more i f l = passes_blanks [] more refl f.no_space f.no_lf f.no_cr l
  optional_gap_is_passed false gap more i f l = passes_blanks gap more f.spaces f.no_space f.no_lf f.no_cr l

  -- the blank after an inline expression, which reading it may have passed
  pub gap_after_inline_is_passed : (e : InlineTree Text) (gap more : List ℕ) (i : ℕ) → Follows gap more →
      SuffixAt t i (bytes_past e gap more) →
      Passes t (blank t) i more
  gap_after_inline_is_passed e gap more i f l = optional_gap_is_passed (passes_blank e) gap more i f l

  no_arrow_is_at_closing_brace : (i : ℕ) (more : List ℕ) → SuffixAt t i (125 ∷ more) → has_arrow t i ≡ false
  no_arrow_is_at_closing_brace i more l = rw (first_of_suffix l) refl

  -- an inline expression that was read, before the brace
  inline_before_brace_reads_as_expression : (e : InlineTree Text) (gap more : List ℕ) (i : ℕ) →
      is_term_attribute e ≡ false → list_all is_space gap ≡ true →
      Reads t (inline_expression edition t) (inline_map (bytes_at t)) i e (bytes_past e gap (125 ∷ more)) →
      Reads t (expression edition t) (expression_map (bytes_at t)) i (inline e) (125 ∷ more)
  inline_before_brace_reads_as_expression e gap more i a g r =
      reads_bind r
      (λ v j f m.
      passes_then (gap_after_inline_is_passed e gap (125 ∷ more) j (closing_brace_follows_spaces gap more g) m) (λ k n.
      look_reads_what_follows false (no_arrow_is_at_closing_brace k more n)
      (second_branch_reads refl
      (second_branch_reads (sym (inline_map_keeps_term_attribute (bytes_at t) v) ∙ ap is_term_attribute f ∙ a)
      (yields_reads_its_view (ap inline f) n)))))

  pub inline_expression_reads_back : (level : ℕ) (e : InlineTree Text) → is_term_attribute e ≡ false →
      InlineReadsBack edition t level e →
      ExpressionReadsBack edition t level (inline e)
  inline_expression_reads_back level e a h = record {
    begins = λ tail. canonical_inline_begins_inline edition level e tail h.obeys;
    back = λ i gap more g l. inline_before_brace_reads_as_expression e gap more i a g
        (h.back i gap (125 ∷ more) (closing_brace_follows_spaces gap more g) l);
  }

  -- ---- placeables

  -- a placeable, with spaces after its opening and before its closing brace
  pub placeable_reads_back : (level : ℕ) (e : ExpressionTree Text) (before gap more : List ℕ) (i : ℕ) →
      list_all is_space before ≡ true → list_all is_space gap ≡ true → ExpressionReadsBack edition t level e →
      SuffixAt t i (123 ∷ (before ++ expression_bytes level e (closing_indent level e ++ (gap ++ (125 ∷ more))))) →
      Reads t (placeable edition t) (expression_map (bytes_at t)) i e more
  placeable_reads_back level e before gap more i a g h l =
      let b = h.begins (closing_indent level e ++ (gap ++ (125 ∷ more))) in
      passes_then (token_passes_its_byte 123 refl l)
      (λ j m. passes_then
      (passes_blanks before _ (spaces_are_blank before a) (beginning_of_inline_is_no_other_byte 32 b refl)
      (beginning_of_inline_is_no_other_byte lf b refl)
      (beginning_of_inline_is_no_other_byte cr b refl) m) (λ k n.
      reads_bind (including_construct_reads_alike (λ o x. expression_of_family_is_in_family edition t k o x)
      (h.back k gap more g n))
      (λ v p f o. passes_then (passes_inline_blank [] (125 ∷ more) refl refl o)
      (λ q r. passes_then (token_passes_its_byte 125 refl r) (λ y z. yields_reads_its_view f z)))))

  -- the same as an inline expression
  expression_in_braces_reads_as_placeable : (level : ℕ) (e : ExpressionTree Text) (before gap more : List ℕ) (i : ℕ) →
      list_all is_space before ≡ true → list_all is_space gap ≡ true → ExpressionReadsBack edition t level e →
      SuffixAt t i (123 ∷ (before ++ expression_bytes level e (closing_indent level e ++ (gap ++ (125 ∷ more))))) →
      Reads t (inline_expression edition t) (inline_map (bytes_at t)) i (inline_placeable e) more
  expression_in_braces_reads_as_placeable level e before gap more i a g h l =
      reads_peek brace (inline_start_is_that_of_bytes brace refl l)
      (reads_bind (placeable_reads_back level e before gap more i a g h l)
      (λ v j f m. yields_reads_its_view (ap inline_placeable f) m))

  pub inline_placeable_reads_back : (level : ℕ) (e : ExpressionTree Text) →
      inline_obeys (canonical_rules edition) (inline_placeable e) ≡ true → ExpressionReadsBack edition t level e →
      InlineReadsBack edition t level (inline_placeable e)
  inline_placeable_reads_back level e o h =
      record {
        obeys = o;
        back =
            λ i gap more f l. expression_in_braces_reads_as_placeable level e [] [] (gap ++ more) i refl refl h l;
      }

  -- ---- placeables that are elements

  -- a placeable as an element of a pattern is read back
  pub double_placeable_reads_back : (level : ℕ) (e : ExpressionTree Text) (i : ℕ) (tail : List ℕ) →
      ExpressionReadsBack edition t level e →
      SuffixAt t i (element_bytes level (placeable_element (inline (inline_placeable e))) tail) →
      Reads t (placeable edition t) (expression_map (bytes_at t)) i (inline (inline_placeable e)) tail
  double_placeable_reads_back level e i tail h l =
      passes_then (token_passes_its_byte 123 refl l)
      (λ j m. passes_then (passes_blanks [] _ refl refl refl refl m) (λ k n.
      reads_bind (including_construct_reads_alike (λ o x. expression_of_family_is_in_family edition t k o x)
      (inline_before_brace_reads_as_expression (inline_placeable e) [] tail k refl refl
      (expression_in_braces_reads_as_placeable level e (32 ∷ []) (32 ∷ []) (125 ∷ tail) k refl refl h n)))
      (λ v p f o. passes_then (passes_inline_blank [] (125 ∷ tail) refl refl o) (λ q r.
      passes_then (token_passes_its_byte 125 refl r) (λ y z. yields_reads_its_view f z)))))
