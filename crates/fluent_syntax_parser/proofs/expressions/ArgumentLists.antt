-- The next argument of a list, by what is there.
use Rattle.std.proofs.Common.{◌≡◌, ℕ, ◌+◌, ◌≤◌, ◌<◌, true, false, List, [], ◌∷◌, ◌++◌, length, map, Option, Some, None}
use Rattle.std.proofs.Common.{refl, sym, ap, ◌∙◌, subst, inl, inr}
use Rattle.std.specs.Prelude.{◌==◌, ◌⊎◌, slice_get}
use Rattle.std.proofs.lemmas.List.{map-append}
use Rattle.std.proofs.lemmas.Option.{slice_get-get_or, slice_get_past}
use Rattle.fluent_syntax_tree.specs.Kind.{ExpectedToken, PositionalArgumentFollowsNamed}
use Rattle.fluent_syntax_tree.specs.Spans.{bytes_at}
use Rattle.fluent_syntax_tree.specs.Tree.{ArgumentsTree, InlineTree, NamedTree, arguments, named_argument, no_inlines}
use Rattle.fluent_syntax_tree.specs.Tree.{no_named, inlines_of, nameds_of, arguments_map, inline_map, named_map}
use Rattle.fluent_syntax_tree.specs.View.{inline_view, named_view}
use Rattle.fluent_syntax_tree.proofs.Views.{view-NamedArgument}
use Rattle.fluent_syntax_tree.specs.declared.ast.InlineExpression.{InlineExpression}
use Rattle.fluent_syntax_tree.specs.declared.ast.NamedArgument.{NamedArgument}
use Rattle.fluent_syntax_tree.specs.declared.spans.Span.{Span}
use Rattle.fluent_syntax_grammar.specs.Arguments as rules
use Rattle.fluent_syntax_grammar.specs.Arguments.{Argument, add_argument, argument_name, argument_rest, argument_value}
use Rattle.fluent_syntax_grammar.specs.Arguments.{is_used, named_rest, next_argument, next_argument_at, more_arguments}
use Rattle.fluent_syntax_grammar.specs.Arguments.{positional_rest, separator}
use Rattle.fluent_syntax_grammar.specs.Bytes.{colon, right_parenthesis}
use Rattle.fluent_syntax_grammar.specs.Construct.{Outcome, Read, Refused, ◌>>=◌, yields, peek, goes_on, given, failed}
use Rattle.fluent_syntax_grammar.specs.Construct.{passed, chosen, first, second, More, no_item, item}
use Rattle.fluent_syntax_grammar.specs.Family.{Family}
use Rattle.fluent_syntax_grammar.specs.Inline.{inline_expression}
use Rattle.fluent_syntax_grammar.specs.Places.{Blank, has_byte}
use Rattle.fluent_syntax_grammar.specs.Starts.{start}
use Rattle.fluent_syntax_grammar.specs.Tokens.{token}
use Rattle.fluent_syntax_grammar.proofs.Facts.{byte_exists}
use Rattle.fluent_syntax_grammar.proofs.FunctionalRules.{IsFunctionalFamily, inline_is_functional}
use Rattle.fluent_syntax_grammar.proofs.FunctionalRules.{next_argument_is_functional}
use Rattle.fluent_syntax_parser.specs.Gathered.{names_in}
use Rattle.fluent_syntax_parser.proofs.expressions.GatheredArguments.{gathered_arguments_are_mapped, put_arguments}
use Rattle.fluent_syntax_parser.proofs.expressions.GatheredArguments.{named_is_put_last}
use Rattle.fluent_syntax_parser.proofs.expressions.GatheredArguments.{no_arguments_put_change_nothing}
use Rattle.fluent_syntax_parser.proofs.expressions.GatheredArguments.{positional_is_put_last}
use Rattle.fluent_syntax_parser.proofs.expressions.GatheredArguments.{arguments_put_before_none_are_whole}
use Rattle.fluent_syntax_parser.proofs.scanning.Names.{added_span_names_come_first}
use Rattle.fluent_syntax_parser.specs.Outcomes.{Fails}
use Rattle.fluent_syntax_parser.specs.declared.fault.ReadFault.{ReadFault}
use Rattle.fluent_syntax_parser.specs.Made.{IsMade, made}
use Rattle.fluent_syntax_parser.proofs.readers.ContinuesFrom.{ContinuesFrom, whole_list_read, many_continues_after_item}
use Rattle.fluent_syntax_parser.proofs.readers.Fails.{bind_fails_where_first_fails, bind_fails_second}
use Rattle.fluent_syntax_parser.proofs.readers.Fails.{branch_on_false_fails_where_second_fails}
use Rattle.fluent_syntax_parser.proofs.readers.Fails.{peek_fails_where_seen_part_fails}
use Rattle.fluent_syntax_parser.proofs.readers.Fails.{look_is_functional}

pub byte_is_token : (t : List ℕ) (b i : ℕ) → has_byte t b i ≡ true → token t b i (Read tt (i + 1))
byte_is_token t b i there =
    goes_on (chosen (first there (goes_on (passed (record { by = refl })) given))) (first refl given)

module _ (t : List ℕ) (R : Family) where
  -- the text's end
  pub argument_list_at_end_of_text_is_refused : (names : List (List ℕ)) (i : ℕ) → length t ≤ i →
      next_argument t R names i (Refused (ExpectedToken right_parenthesis) i (i + 1))
  argument_list_at_end_of_text_is_refused names i past =
      let none = slice_get_past t i past in
      chosen {o = Refused (ExpectedToken right_parenthesis) i (i + 1)} (rw none (failed refl))

  -- the list's `)`
  pub argument_list_ends_at_parenthesis : (names : List (List ℕ)) (i : ℕ) → has_byte t right_parenthesis i ≡ true →
      next_argument t R names i (Read no_item (i + 1))
  argument_list_ends_at_parenthesis names i there =
      let found = byte_exists (λ c. c == right_parenthesis) (slice_get t i) there in
      let close = byte_is_token t right_parenthesis i there in
      chosen {o = Read no_item (i + 1)} (rw found.1 (first found.2 (goes_on close given)))

  module _ (names : List (List ℕ)) (i : ℕ) (within : i < length t) (no_end : has_byte t right_parenthesis i ≡ false)
    where
      begins : (o : Outcome (More Argument (List (List ℕ)))) →
          (inline_expression t R >>= λ e.
          peek (has_byte t colon) yields >>= λ is_named. argument_rest t R names e (argument_name e) is_named) i o
          → next_argument t R names i o
      begins o h =
          let byte = slice_get-get_or t i 0 within in
          let test = rw byte at no_end in
          chosen {o = o} (rw byte (second test h))

      begins_fails : {f : ReadFault} →
          Fails t (inline_expression t R >>= λ e.
          peek (has_byte t colon) yields >>= λ is_named. argument_rest t R names e (argument_name e) is_named) i f
          → Fails t (next_argument t R names) i f
      begins_fails h =
          let byte = slice_get-get_or t i 0 within in
          let test = rw byte at no_end in
          peek_fails_where_seen_part_fails (next_argument_at t R names) _ (sym byte)
          (branch_on_false_fails_where_second_fails test h)

      pub argument_fails_with_its_inline : {f : ReadFault} → Fails t (inline_expression t R) i f →
          Fails t (next_argument t R names) i f
      argument_fails_with_its_inline h = begins_fails (bind_fails_where_first_fails h)

      module _ (e : InlineTree Span) (j : ℕ) (read : inline_expression t R i (Read e j)) where
        pub named : (name : Span) → argument_name e ≡ Some name → has_byte t colon j ≡ true →
            (o : Outcome (More Argument (List (List ℕ)))) → named_rest t R names name j o → next_argument t R names i o
        named name is mark o h = begins o (goes_on read (goes_on (chosen given) (rw (is, mark) h)))

        pub argument_fails_with_its_named_rest : IsFunctionalFamily R → (name : Span) → argument_name e ≡ Some name →
            has_byte t colon j ≡ true → {f : ReadFault} → Fails t (named_rest t R names name) j f →
            Fails t (next_argument t R names) i f
        argument_fails_with_its_named_rest g name is mark {f = f} h =
            begins_fails (bind_fails_second (inline_is_functional t R g) read
            (bind_fails_second (look_is_functional (has_byte t colon)) (chosen given) (rw (is, mark) h)))

        unmarked : (name : Option Span) (o : Outcome (More Argument (List (List ℕ)))) →
            positional_rest t names e j o → argument_rest t R names e name false j o
        unmarked None o h = h
        unmarked (Some name) o h = h

        pub positional : (argument_name e ≡ None) ⊎ (has_byte t colon j ≡ false) →
            (o : Outcome (More Argument (List (List ℕ)))) → positional_rest t names e j o → next_argument t R names i o
        positional (inl none) o h = begins o (goes_on read (goes_on (chosen given) (rw none h)))
        positional (inr none) o h =
            begins o (goes_on read (goes_on (chosen given) (rw none (unmarked (argument_name e) o h))))

  -- a positional argument after a named one
  pub positional_after_named_is_refused : (names : List (List ℕ)) (e : InlineTree Span) (j : ℕ) → (names ≡ [] → ⊥) →
      positional_rest t names e j (Refused PositionalArgumentFollowsNamed j (j + 1))
  positional_after_named_is_refused [] e j some = absurd (some refl)
  positional_after_named_is_refused (name ∷ names) e j some = failed refl

-- What was gathered represents what was read, with f of each text in its place.
pub record MadeArguments {S X : Type 0} (t : List ℕ) (R : Family) (f : Span → X) (v : S → X) (from : ℕ)
    (positional : List (InlineExpression S)) (named : List (NamedArgument S)) (names : List (List ℕ)) (j : ℕ) : Type 0
  where
    pub ps : List (InlineTree Span)
    pub ns : List (NamedTree Span)
    pub same_ps : map (inline_view v) positional ≡ map (inline_map f) ps
    pub same_ns : map (named_view v) named ≡ map (named_map f) ns
    pub beyond : ContinuesFrom t (next_argument t R) add_argument (arguments no_inlines no_named) [] from
        (put_arguments ps ns) names j

module _ {S X : Type 0} (t : List ℕ) (R : Family) (f : Span → X) (v : S → X) (from : ℕ) where
  read_arguments_put_no_arguments_before : (b : ArgumentsTree Span) (end : ℕ) →
      more_arguments t R [] from (Read b end) → more_arguments t R [] from (Read (put_arguments [] [] b) end)
  read_arguments_put_no_arguments_before b end h =
      subst (λ a. more_arguments t R [] from (Read a end)) (sym (no_arguments_put_change_nothing b)) h

  pub no_arguments_are_made_at_start : MadeArguments t R f v from [] [] [] from
  no_arguments_are_made_at_start = record {
    ps = [];
    ns = [];
    same_ps = refl;
    same_ns = refl;
    beyond = record { read = read_arguments_put_no_arguments_before; fails = λ e h. h };
  }

  -- the list ends
  pub arguments_made_to_end_are_all : (ps : List (InlineExpression S)) (ns : List (NamedArgument S))
      (names : List (List ℕ))
      (j m : ℕ) → MadeArguments t R f v from ps ns names j → next_argument t R names j (Read no_item m) →
      IsMade (arguments_map f) (more_arguments t R []) from
      (arguments (inlines_of (map (inline_view v) ps)) (nameds_of (map (named_view v) ns))) m
  arguments_made_to_end_are_all ps ns names j m g x =
      made (whole_list_read (arguments (inlines_of g.ps) (nameds_of g.ns)) m g.beyond
      (arguments_put_before_none_are_whole g.ps g.ns) x)
      (rw (g.same_ps, g.same_ns) (gathered_arguments_are_mapped f g.ps g.ns))

  module _ (h : IsFunctionalFamily R) (ps : List (InlineExpression S)) (ns : List (NamedArgument S)) (i : ℕ)
      (names : List Span) (g : MadeArguments t R f v from ps ns (names_in t names) i) (within : i < length t)
      (no_end : has_byte t right_parenthesis i ≡ false) (e : InlineTree Span) (j : ℕ)
      (read : inline_expression t R i (Read e j)) where
    -- one more named argument
    pub one_named : (x : NamedArgument S) (name : Span) → argument_name e ≡ Some name → has_byte t colon j ≡ true →
        is_used (bytes_at t name) (names_in t names) ≡ false → v x.name.name ≡ f name →
        (more : List (NamedArgument S)) → more ≡ ns ++ x ∷ [] → (others : List Span) → others ≡ names ++ name ∷ [] →
        (m end next : ℕ) → Blank t (j + 1) m → (value : InlineTree Span) →
        peek (start t) (argument_value t R) m (Read value end) → inline_view v x.value ≡ inline_map f value →
        separator t end (Read tt next) → MadeArguments t R f v from ps more (names_in t others) next
    one_named x name is mark new same more pushed others noted m end next blank value read_value same_value after =
        let all : names_in t others ≡ bytes_at t name ∷ names_in t names =
        ap (names_in t) noted ∙ added_span_names_come_first t names name in
        let added = rules.named name value in
        let tree : NamedTree Span = named_argument name value in
        subst (λ xs. MadeArguments t R f v from ps more xs next) (sym all) (record {
          ps = g.ps;
          ns = g.ns ++ tree ∷ [];
          same_ps = g.same_ps;
          same_ns =
              ap (map (named_view v)) pushed ∙ map-append (named_view v) ns (x ∷ [])
              ∙ ap (λ zs. zs ++ named_view v x ∷ []) g.same_ns
              ∙ ap (λ z. map (named_map f) g.ns ++ z ∷ [])
              (view-NamedArgument v x ∙ rw (same, same_value) refl)
              ∙ sym (map-append (named_map f) g.ns (tree ∷ []));
          beyond =
              many_continues_after_item (put_arguments g.ps (g.ns ++ tree ∷ [])) added
              (bytes_at t name ∷ names_in t names) next
              g.beyond (next_argument_is_functional t R h (names_in t names)) (named_is_put_last g.ps g.ns name value)
              (named t R (names_in t names) i within no_end e j read name is mark
              (Read (item added (bytes_at t name ∷ names_in t names)) next)
              (second new
              (goes_on (byte_is_token t colon j mark)
              (goes_on (passed blank)
              (goes_on read_value
              (goes_on after given))))));
        })

    -- one more positional argument
    pub positional_argument_is_made_next : (argument_name e ≡ None) ⊎ (has_byte t colon j ≡ false) → names ≡ [] →
        (x : InlineExpression S) → inline_view v x ≡ inline_map f e → (more : List (InlineExpression S)) →
        more ≡ ps ++ x ∷ [] → (next : ℕ) → separator t j (Read tt next) →
        MadeArguments t R f v from more ns (names_in t names) next
    positional_argument_is_made_next is none x same more pushed next after =
        let all : names_in t names ≡ [] = rw none refl in
        let added = rules.positional e in
        subst (λ xs. MadeArguments t R f v from more ns xs next) (sym all) (record {
          ps = g.ps ++ e ∷ [];
          ns = g.ns;
          same_ps =
              ap (map (inline_view v)) pushed ∙ map-append (inline_view v) ps (x ∷ [])
              ∙ ap (λ zs. zs ++ inline_view v x ∷ []) g.same_ps
              ∙ ap (λ z. map (inline_map f) g.ps ++ z ∷ []) same ∙ sym (map-append (inline_map f) g.ps (e ∷ []));
          same_ns = g.same_ns;
          beyond =
              many_continues_after_item (put_arguments (g.ps ++ e ∷ []) g.ns) added [] next g.beyond
              (next_argument_is_functional t R h (names_in t names)) (positional_is_put_last g.ps g.ns e)
              (positional t R (names_in t names) i within no_end e j read is (Read (item added []) next)
              (subst (λ xs. positional_rest t xs e j (Read (item added []) next)) (sym all)
              (goes_on after given)));
        })
