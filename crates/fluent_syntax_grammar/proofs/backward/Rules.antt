-- What was read is fine: expressions, over a family whose constructs give what is fine.
use Rattle.std.proofs.Common.{◌≡◌, ℕ, ◌+◌, List, [], ◌∷◌, Option, Some, None, Bool, true, false, refl, ◌∙◌, subst, ap}
use Rattle.std.specs.Prelude.{◌==◌, nat_le, is_none, slice_get, if◌then◌else◌}
use Rattle.std.specs.List.{list_all}
use Rattle.fluent_syntax_tree.specs.Kind.{Kind}
use Rattle.fluent_syntax_tree.specs.Spans.{bytes_at}
use Rattle.fluent_syntax_tree.specs.declared.spans.Span.{Span}
use Rattle.fluent_syntax_tree.specs.declared.edition.Edition.TheVariants.{One}
use Rattle.fluent_syntax_tree.specs.Tree.{KeyTree, key_map, select, inline, InlineTree, string_literal, number_literal}
use Rattle.fluent_syntax_tree.specs.Tree.{function_reference, message_reference, term_reference, variable_reference}
use Rattle.fluent_syntax_tree.specs.Tree.{inline_placeable, inline_map, ArgumentsTree, arguments, arguments_map}
use Rattle.fluent_syntax_tree.specs.Tree.{MaybeArguments, no_arguments, some_arguments, maybe_map, inlines_map}
use Rattle.fluent_syntax_tree.specs.Tree.{nameds_map, PatternTree, pattern_map, VariantTrees, variants_map}
use Rattle.fluent_syntax_tree.specs.Tree.{option_texts, no_inlines, no_named}
use Rattle.fluent_syntax_grammar.specs.Bytes.{is_digit, is_letter}
use Rattle.fluent_syntax_grammar.specs.Places.{holds, has}
use Rattle.fluent_syntax_grammar.specs.Construct.{Read, Construct, ◌>>=◌, goes_on, yields, given, fails, peek, chosen}
use Rattle.fluent_syntax_grammar.specs.Construct.{branch_on, first, second, More, no_item, item, many, list_ends}
use Rattle.fluent_syntax_grammar.specs.Construct.{item_and_more}
use Rattle.fluent_syntax_grammar.specs.Tokens.{identifier, number}
use Rattle.fluent_syntax_grammar.specs.Strings as strings
use Rattle.fluent_syntax_grammar.specs.Family.{Family}
use Rattle.fluent_syntax_grammar.specs.Starts.{Start, quote, digit, term, minus, dollar, letter, brace, other, start_of}
use Rattle.fluent_syntax_grammar.specs.Starts.{start}
use Rattle.fluent_syntax_grammar.specs.Arguments.{accessor, Argument, add_argument, add_positional, add_named}
use Rattle.fluent_syntax_grammar.specs.Arguments.{call_arguments, argument_value, named_rest, positional_rest}
use Rattle.fluent_syntax_grammar.specs.Arguments.{argument_name, argument_rest, next_argument_at, next_argument}
use Rattle.fluent_syntax_grammar.specs.Arguments.{more_arguments, is_used}
use Rattle.fluent_syntax_grammar.specs.Expressions.{selector_fault, is_term_attribute, placeable}
use Rattle.fluent_syntax_grammar.specs.Inline.{named_reference, inline_of, inline_expression, is_callee_byte}
use Rattle.fluent_syntax_grammar.specs.Written.{Text}
use Rattle.fluent_syntax_grammar.specs.Spellings.{is_name}
use Rattle.fluent_syntax_grammar.specs.Rules.{option_obeys, key_obeys, inline_obeys, optional_arguments_obey}
use Rattle.fluent_syntax_grammar.specs.Rules.{arguments_obey}
use Rattle.fluent_syntax_grammar.specs.Rules.{inlines_obey, named_arguments_obey, variants_obey, pattern_obeys}
use Rattle.fluent_syntax_grammar.specs.Readable.{is_argument_value, are_named_well, defaults, readable_rules}
use Rattle.fluent_syntax_grammar.specs.Joined.{joined_inline, joined_maybe, joined_arguments, joined_inlines}
use Rattle.fluent_syntax_grammar.specs.Joined.{joined_nameds, joined_variants, joined_pattern}
use Rattle.fluent_syntax_grammar.proofs.Facts.{and_gives_left}
use Rattle.fluent_syntax_grammar.proofs.Tests.{true_and_true}
use Rattle.fluent_syntax_grammar.proofs.backward.Shapes.{IsReadExpression}
use Rattle.fluent_syntax_grammar.proofs.backward.Words.{IsNameSpan, read_identifier_is_name_span, read_number_is_number}
use Rattle.fluent_syntax_grammar.proofs.backward.Words.{read_string_is_string}
use Rattle.fluent_syntax_grammar.proofs.Tests.{not_of_false_is_true}

-- ---- what a construct gives is good, wherever it is read

pub record Ensures {A : Type 0} (c : Construct A) (Good : A → Type 0) : Type 0 where
  pub on_read : (i j : ℕ) (a : A) → c i (Read a j) → Good a

bind_reads_good : {A B : Type 0} (c : Construct A) (f : A → Construct B) (Mid : A → Type 0) (Good : B → Type 0) →
    Ensures c Mid → ((a : A) → Mid a → Ensures (f a) Good) → (i j : ℕ) (b : B) → (c >>= f) i (Read b j) → Good b
bind_reads_good c f Mid Good x g i j b (goes_on {j = m} {a = a} y z) = (g a (x.on_read i m a y)).on_read m j b z

pub bind_ensures : {A B : Type 0} {Mid : A → Type 0} {Good : B → Type 0} {c : Construct A} {f : A → Construct B} →
    Ensures c Mid → ((a : A) → Mid a → Ensures (f a) Good) → Ensures (c >>= f) Good
bind_ensures {Mid = Mid} {Good = Good} {c = c} {f = f} x g = record { on_read = bind_reads_good c f Mid Good x g }

-- what is not asked of a part
pub bind_ensures_by_second : {A B : Type 0} {Good : B → Type 0} {c : Construct A} {f : A → Construct B} →
    ((a : A) → Ensures (f a) Good) → Ensures (c >>= f) Good
bind_ensures_by_second g = bind_ensures {Mid = λ a. Unit {0}} (record { on_read = λ i j a x. tt }) (λ a u. g a)

yields_reads_good : {A : Type 0} (Good : A → Type 0) (a b : A) (i j : ℕ) → Good a → yields a i (Read b j) → Good b
yields_reads_good Good a b i j g given = g

pub yields_ensures : {A : Type 0} {Good : A → Type 0} {a : A} → Good a → Ensures (yields a) Good
yields_ensures {Good = Good} {a = a} g = record { on_read = λ i j b x. yields_reads_good Good a b i j g x }

fails_reads_nothing : {A : Type 0} (X : Type 0) (k : Kind) (i j : ℕ) (a : A) → fails k i (Read a j) → X
fails_reads_nothing X k i j a x = elim x [ ]

pub fails_ensures_anything : {A : Type 0} {Good : A → Type 0} {k : Kind} → Ensures (fails k) Good
fails_ensures_anything {Good = Good} {k = k} = record { on_read = λ i j a x. fails_reads_nothing (Good a) k i j a x }

peek_reads_good : {A B : Type 0} (Good : B → Type 0) (look : ℕ → A) (part : A → Construct B) →
    ((a : A) → Ensures (part a) Good) → (i j : ℕ) (b : B) → peek look part i (Read b j) → Good b
peek_reads_good Good look part g i j b (chosen x) = (g (look i)).on_read i j b x

pub peek_ensures_by_its_part : {A B : Type 0} {Good : B → Type 0} {look : ℕ → A} {part : A → Construct B} →
    ((a : A) → Ensures (part a) Good) → Ensures (peek look part) Good
peek_ensures_by_its_part {Good = Good} {look = look} {part = part} g =
    record { on_read = peek_reads_good Good look part g }

branch_on_read : {A : Type 0} (Good : A → Type 0) (test : Bool) (c d : Construct A) → (test ≡ true → Ensures c Good) →
    (test ≡ false → Ensures d Good) → (i j : ℕ) (a : A) → branch_on test c d i (Read a j) → Good a
branch_on_read Good test c d g h i j a (first e x) = (g e).on_read i j a x
branch_on_read Good test c d g h i j a (second e x) = (h e).on_read i j a x

pub ensures_branch_on : {A : Type 0} {Good : A → Type 0} {test : Bool} {c d : Construct A} →
    (test ≡ true → Ensures c Good) → (test ≡ false → Ensures d Good) → Ensures (branch_on test c d) Good
ensures_branch_on {Good = Good} {test = test} {c = c} {d = d} g h =
    record { on_read = branch_on_read Good test c d g h }

module _ {A S B : Type 0} (next : S → Construct (More A S)) (add : A → B → B) (none : B) (Good : S → B → Type 0) where
  -- what is asked of an item: added to what is good after it, it is good
  abbrev pub Adds : S → More A S → Type 0
  Adds s no_item = Good s none
  Adds s (item a r) = (b : B) → Good r b → Good s (add a b)

  read_list_is_good : ((s : S) → Ensures (next s) (Adds s)) → (s : S) (i j : ℕ) (b : B) →
      many next add none s i (Read b j) → Good s b
  read_list_is_good h s i j b (list_ends x) = (h s).on_read i j no_item x
  read_list_is_good h s i j b (item_and_more {later = r} {j = m} {a = a} {rest = rest} x y) =
      (h s).on_read i m (item a r) x rest (read_list_is_good h r m j rest y)

  pub many_ensures_by_its_items : ((s : S) → Ensures (next s) (Adds s)) → (s : S) →
      Ensures (many next add none s) (Good s)
  many_ensures_by_its_items h s = record { on_read = read_list_is_good h s }

-- ---- what is fine

-- Joined it passes the test; and it is joined already, where nothing is there to join.
pub record ObeysJoined (Joins : Type 0) {Y : Type 0} (test : Y → Bool) (join : Y → Y) (y : Y) : Type 0 where
  pub obeys : test (join y) ≡ true
  pub same : (Joins → ⊥) → join y ≡ y

module _ (t : List ℕ) (Joins : Type 0) where
  abbrev pub IsInline : InlineTree Span → Type 0
  IsInline e = ObeysJoined Joins (inline_obeys (readable_rules One)) joined_inline (inline_map (bytes_at t) e)

  abbrev pub IsOptionalArguments : MaybeArguments Span → Type 0
  IsOptionalArguments a =
      ObeysJoined Joins (optional_arguments_obey (readable_rules One)) joined_maybe (maybe_map (bytes_at t) a)

  abbrev pub IsPattern : PatternTree Span → Type 0
  IsPattern p = ObeysJoined Joins (pattern_obeys (readable_rules One)) joined_pattern (pattern_map (bytes_at t) p)

  abbrev pub IsKey : KeyTree Span → Type 0
  IsKey k = key_obeys (readable_rules One) (key_map (bytes_at t) k) ≡ true

  -- the rest of an argument list, after named arguments of these names
  abbrev pub IsArguments : List Text → ArgumentsTree Span → Type 0
  IsArguments names (arguments ps ns) =
      ObeysJoined Joins (inlines_obey (readable_rules One)) joined_inlines (inlines_map (bytes_at t) ps) ×
      ObeysJoined Joins (named_arguments_obey (readable_rules One)) joined_nameds (nameds_map (bytes_at t) ns) ×
      (are_named_well names (joined_nameds (nameds_map (bytes_at t) ns)) ≡ true)

  -- the rest of a list of variants; with a default before it has none
  pub record IsVariants (starred : Bool) (vs : VariantTrees Span) : Type 0 where
    pub fine : ObeysJoined Joins (variants_obey (readable_rules One)) joined_variants (variants_map (bytes_at t) vs)
    pub none : starred ≡ true → defaults (joined_variants (variants_map (bytes_at t) vs)) ≡ 0
    pub one : nat_le (defaults (joined_variants (variants_map (bytes_at t) vs))) 1 ≡ true

  -- what begins as the value of a named argument may is such a value
  abbrev pub FitsStart : Start → InlineTree Span → Type 0
  FitsStart quote e = is_argument_value (joined_inline (inline_map (bytes_at t) e)) ≡ true
  FitsStart digit e = is_argument_value (joined_inline (inline_map (bytes_at t) e)) ≡ true
  FitsStart letter e = is_argument_value (joined_inline (inline_map (bytes_at t) e)) ≡ true
  FitsStart s e = Unit {0}

  pub record ObeysJoinedFamily (R : Family) : Type 0 where
    pub expression : Ensures R.expression (IsReadExpression t Joins)
    pub argument_list : Ensures R.argument_list (IsArguments [])

  pub identifier_reads_name_span : Ensures (identifier t) (IsNameSpan t)
  identifier_reads_name_span = record { on_read = λ i j s x. read_identifier_is_name_span t i j s x }

  abbrev IsOptionName : Option Span → Type 0
  IsOptionName o = option_obeys is_name (option_texts (bytes_at t) o) ≡ true

  pub accessor_reads_option_name : Ensures (accessor t) IsOptionName
  accessor_reads_option_name =
      bind_ensures_by_second (λ dot.
      ensures_branch_on (λ e. bind_ensures identifier_reads_name_span (λ a g. yields_ensures g))
      (λ e. yields_ensures refl))

  arguments_obey_joined : (a : ArgumentsTree Span) → IsArguments [] a →
      ObeysJoined Joins (arguments_obey (readable_rules One)) joined_arguments (arguments_map (bytes_at t) a)
  arguments_obey_joined (arguments ps ns) (f, g, h) =
      record { obeys = true_and_true h (true_and_true f.obeys g.obeys); same = λ none. cc (f.same none, g.same none) }

  some_arguments_obey_joined : (a : ArgumentsTree Span) →
      ObeysJoined Joins (arguments_obey (readable_rules One)) joined_arguments (arguments_map (bytes_at t) a) →
      IsOptionalArguments (some_arguments a)
  some_arguments_obey_joined a f = record { obeys = f.obeys; same = λ none. ap some_arguments (f.same none) }

  function_obeys_joined : (id : Span) (a : ArgumentsTree Span) → IsNameSpan t id →
      list_all is_callee_byte (bytes_at t id) ≡ true →
      IsOptionalArguments (some_arguments a) → IsInline (function_reference id a)
  function_obeys_joined id a n c f = record
      { obeys = true_and_true n (true_and_true c f.obeys); same = λ none. cc (f.same none) }

  term_obeys_joined : (id : Span) (o : Option Span) (a : MaybeArguments Span) → IsNameSpan t id → IsOptionName o →
      IsOptionalArguments a →
      IsInline (term_reference id o a)
  term_obeys_joined id o a n p f =
      record {
        obeys = true_and_true n (true_and_true p f.obeys);
        same = λ none. ap (term_reference (bytes_at t id) (option_texts (bytes_at t) o)) (f.same none);
      }

  -- a reference, after its name and arguments; it may be the value of a named argument
  abbrev IsValue : InlineTree Span → Type 0
  IsValue e = IsInline e × (is_argument_value (joined_inline (inline_map (bytes_at t) e)) ≡ true)

  named_reference_reads_value : (id : Span) (a : MaybeArguments Span) → IsNameSpan t id → IsOptionalArguments a →
      Ensures (named_reference t id a) IsValue
  named_reference_reads_value id no_arguments n f =
      bind_ensures accessor_reads_option_name (λ o g. yields_ensures (
        record { obeys = true_and_true n g; same = λ none. refl },
        refl,
      ))
  named_reference_reads_value id (some_arguments a) n f =
      ensures_branch_on (λ e. yields_ensures (function_obeys_joined id a n e f, refl)) (λ e. fails_ensures_anything)

  joining_keeps_selector_fault_of_span : (e : InlineTree Span) →
      selector_fault (joined_inline (inline_map (bytes_at t) e)) ≡ selector_fault e
  joining_keeps_selector_fault_of_span (string_literal v) = refl
  joining_keeps_selector_fault_of_span (number_literal v) = refl
  joining_keeps_selector_fault_of_span (function_reference id a) = refl
  joining_keeps_selector_fault_of_span (message_reference id None) = refl
  joining_keeps_selector_fault_of_span (message_reference id (Some a)) = refl
  joining_keeps_selector_fault_of_span (term_reference id None a) = refl
  joining_keeps_selector_fault_of_span (term_reference id (Some attribute) a) = refl
  joining_keeps_selector_fault_of_span (variable_reference id) = refl
  joining_keeps_selector_fault_of_span (inline_placeable e) = refl

  joining_keeps_is_term_attribute : (e : InlineTree Span) →
      is_term_attribute (joined_inline (inline_map (bytes_at t) e)) ≡ is_term_attribute e
  joining_keeps_is_term_attribute (string_literal v) = refl
  joining_keeps_is_term_attribute (number_literal v) = refl
  joining_keeps_is_term_attribute (function_reference id a) = refl
  joining_keeps_is_term_attribute (message_reference id a) = refl
  joining_keeps_is_term_attribute (term_reference id None a) = refl
  joining_keeps_is_term_attribute (term_reference id (Some attribute) a) = refl
  joining_keeps_is_term_attribute (variable_reference id) = refl
  joining_keeps_is_term_attribute (inline_placeable e) = refl

-- ---- starts

digit_is_chosen : (q d m l o n b : Bool) (x : Start) →
    (if q then quote else if d then digit else if m then (if l then term else minus) else if o then dollar else if n
    then letter else if b then brace else other) ≡ digit → d ≡ true
digit_is_chosen false true m l o n b x e = refl
digit_is_chosen true d m l o n b x e = cc
digit_is_chosen false false true true o n b x e = cc
digit_is_chosen false false true false o n b x e = cc
digit_is_chosen false false false l true n b x e = cc
digit_is_chosen false false false l false true b x e = cc
digit_is_chosen false false false l false false true x e = cc
digit_is_chosen false false false l false false false x e = cc

digit_start_has_digit : (o : Option ℕ) (l : Bool) → start_of o l ≡ digit → holds is_digit o ≡ true
digit_start_has_digit None l e = cc
digit_start_has_digit (Some b) l e =
    digit_is_chosen (b == 34) (is_digit b) (b == 45) l (b == 36) (is_letter b) (b == 123) other e

module _ (t : List ℕ) (Joins : Type 0) (R : Family) (h : ObeysJoinedFamily t Joins R) where
  pub call_reads_optional_arguments : Ensures (call_arguments t R) (IsOptionalArguments t Joins)
  call_reads_optional_arguments = bind_ensures_by_second (λ u. bind_ensures_by_second (λ bracket. ensures_branch_on
      (λ e. bind_ensures (bind_ensures_by_second (λ u. h.argument_list))
      (λ a g. yields_ensures (some_arguments_obey_joined t Joins a (arguments_obey_joined t Joins a g))))
      (λ e. yields_ensures (record { obeys = refl; same = λ none. refl }))))

  -- ---- expressions

  pub select_obeys_joined : (e : InlineTree Span) (vs : VariantTrees Span) → IsInline t Joins e →
      selector_fault e ≡ None →
      IsVariants t Joins false vs → IsReadExpression t Joins (select e vs)
  select_obeys_joined e vs f k g =
      let v = g.fine in
      record {
        obeys = true_and_true (true_and_true (ap is_none (joining_keeps_selector_fault_of_span t Joins e ∙ k)) g.one)
            (true_and_true f.obeys v.obeys);
        same = λ none. cc (f.same none, v.same none);
      }

  pub inline_obeys_joined : (e : InlineTree Span) → IsInline t Joins e → is_term_attribute e ≡ false →
      IsReadExpression t Joins (inline e)
  inline_obeys_joined e f k =
      record {
        obeys =
            true_and_true (not_of_false_is_true (is_term_attribute (joined_inline (inline_map (bytes_at t) e)))
            (joining_keeps_is_term_attribute t Joins e ∙ k))
            f.obeys;
        same = λ none. ap inline (f.same none);
      }

  pub placeable_reads_good_expression : Ensures (placeable t R) (IsReadExpression t Joins)
  placeable_reads_good_expression =
      bind_ensures_by_second (λ u.
      bind_ensures_by_second (λ u.
      bind_ensures h.expression (λ e f. bind_ensures_by_second (λ u. bind_ensures_by_second (λ u. yields_ensures f)))))

  -- ---- inline expressions

  read_number_literal_is_inline : (i j : ℕ) (a : InlineTree Span) →
      (number t >>= λ v. yields (number_literal v)) i (Read a j) → IsInline t Joins a ×
      (has t is_digit i ≡ true → is_argument_value (joined_inline (inline_map (bytes_at t) a)) ≡ true)
  read_number_literal_is_inline i j a (goes_on {j = m} {a = v} x given) = let n = read_number_is_number t i m v x in
      (record { obeys = n.number; same = λ none. refl }, n.unsigned)

  read_string_literal_is_inline : (i j : ℕ) (a : InlineTree Span) →
      (strings.string_literal t >>= λ v. yields (string_literal v)) i (Read a j) → IsInline t Joins a ×
      (is_argument_value (joined_inline (inline_map (bytes_at t) a)) ≡ true)
  read_string_literal_is_inline i j a (goes_on {j = m} {a = v} x given) =
      (record { obeys = read_string_is_string t i m v x; same = λ none. refl }, refl)

  read_inline_by_start_is_inline : (s : Start) (i j : ℕ) (e : InlineTree Span) → start t i ≡ s →
      inline_of t R s i (Read e j) → IsInline t Joins e × FitsStart t Joins s e
  read_inline_by_start_is_inline quote i j e s x = read_string_literal_is_inline i j e x
  read_inline_by_start_is_inline digit i j e s x = let n = read_number_literal_is_inline i j e x in
      (n.0, n.1 (digit_start_has_digit (slice_get t i) (has t is_letter (i + 1)) s))
  read_inline_by_start_is_inline minus i j e s x = ((read_number_literal_is_inline i j e x).0, tt)
  read_inline_by_start_is_inline term i j e s x = (r.on_read i j e x, tt)
    where
      r : Ensures (inline_of t R term) (IsInline t Joins)
      r = bind_ensures_by_second
          (λ u. bind_ensures (identifier_reads_name_span t Joins)
          (λ id n. bind_ensures (accessor_reads_option_name t Joins)
          (λ o p. bind_ensures call_reads_optional_arguments
          (λ a f. yields_ensures (term_obeys_joined t Joins id o a n p f)))))
  read_inline_by_start_is_inline dollar i j e s x = (r.on_read i j e x, tt)
    where
      r : Ensures (inline_of t R dollar) (IsInline t Joins)
      r = bind_ensures_by_second
          (λ u. bind_ensures (identifier_reads_name_span t Joins)
          (λ id n. yields_ensures (record { obeys = n; same = λ none. refl })))
  read_inline_by_start_is_inline letter i j e s x = r.on_read i j e x
    where
      r : Ensures (inline_of t R letter) (IsValue t Joins)
      r = bind_ensures (identifier_reads_name_span t Joins)
          (λ id n. bind_ensures call_reads_optional_arguments (λ a f. named_reference_reads_value t Joins id a n f))
  read_inline_by_start_is_inline brace i j e s x = (r.on_read i j e x, tt)
    where
      r : Ensures (inline_of t R brace) (IsInline t Joins)
      r = bind_ensures placeable_reads_good_expression
          (λ e f. yields_ensures (record { obeys = f.obeys; same = λ none. ap inline_placeable (f.same none) }))
  read_inline_by_start_is_inline other i j e s x = elim x [ ]

  pub inline_that_is_read_fits_its_start : (i j : ℕ) (e : InlineTree Span) → inline_expression t R i (Read e j) →
      IsInline t Joins e ×
      FitsStart t Joins (start t i) e
  inline_that_is_read_fits_its_start i j e (chosen x) = read_inline_by_start_is_inline (start t i) i j e refl x

  -- ---- arguments

  read_value_by_start_is_value : (s : Start) (i j : ℕ) (e : InlineTree Span) → start t i ≡ s →
      argument_value t R s i (Read e j) → IsValue t Joins e
  read_value_by_start_is_value quote i j e s x =
      let r = inline_that_is_read_fits_its_start i j e x in (r.0, subst (λ s. FitsStart t Joins s e) s r.1)
  read_value_by_start_is_value digit i j e s x =
      let r = inline_that_is_read_fits_its_start i j e x in (r.0, subst (λ s. FitsStart t Joins s e) s r.1)
  read_value_by_start_is_value letter i j e s x =
      let r = inline_that_is_read_fits_its_start i j e x in (r.0, subst (λ s. FitsStart t Joins s e) s r.1)
  read_value_by_start_is_value term i j e s x = elim x [ ]
  read_value_by_start_is_value minus i j e s x = elim x [ ]
  read_value_by_start_is_value dollar i j e s x = elim x [ ]
  read_value_by_start_is_value brace i j e s x = elim x [ ]
  read_value_by_start_is_value other i j e s x = elim x [ ]

  read_argument_value_is_value : (i j : ℕ) (e : InlineTree Span) → peek (start t) (argument_value t R) i (Read e j) →
      IsValue t Joins e
  read_argument_value_is_value i j e (chosen x) = read_value_by_start_is_value (start t i) i j e refl x

  add_named_obeys_joined : (names : List Text) (name : Span) (e : InlineTree Span) (a : ArgumentsTree Span) →
      IsNameSpan t name →
      is_used (bytes_at t name) names ≡ false → IsValue t Joins e → IsArguments t Joins (bytes_at t name ∷ names) a →
      IsArguments t Joins names (add_named name e a)
  add_named_obeys_joined names name e (arguments ps ns) n u (f, v) (g, k, l) = (
    g,
    record { obeys = true_and_true (true_and_true n f.obeys) k.obeys; same = λ none. cc (f.same none, k.same none) },
    true_and_true (not_of_false_is_true (is_used (bytes_at t name) names) u) (true_and_true v l),
  )

  add_positional_obeys_joined : (e : InlineTree Span) (a : ArgumentsTree Span) → IsInline t Joins e →
      IsArguments t Joins [] a →
      IsArguments t Joins [] (add_positional e a)
  add_positional_obeys_joined e (arguments ps ns) f (g, k, l) =
      (record { obeys = true_and_true f.obeys g.obeys; same = λ none. cc (f.same none, g.same none) }, k, l)

  -- what is asked of the next argument, after these names
  abbrev IsNext : List Text → More Argument (List Text) → Type 0
  IsNext = Adds (next_argument t R) add_argument (arguments no_inlines no_named) (IsArguments t Joins)

  named_rest_reads_next_argument : (names : List Text) (name : Span) → IsNameSpan t name →
      Ensures (named_rest t R names name) (IsNext names)
  named_rest_reads_next_argument names name n =
      ensures_branch_on (λ y. fails_ensures_anything)
      (λ y. bind_ensures_by_second
      (λ u. bind_ensures_by_second (λ u. bind_ensures (record { on_read = read_argument_value_is_value }) (λ e f.
      bind_ensures_by_second (λ u. yields_ensures (λ a g. add_named_obeys_joined names name e a n y f g))))))

  positional_rest_reads_next_argument : (names : List Text) (e : InlineTree Span) → IsInline t Joins e →
      Ensures (positional_rest t names e) (IsNext names)
  positional_rest_reads_next_argument [] e f =
      bind_ensures_by_second (λ u. yields_ensures (λ a g. add_positional_obeys_joined e a f g))
  positional_rest_reads_next_argument (n ∷ ns) e f = fails_ensures_anything

  argument_name_is_name_span : (e : InlineTree Span) (s : Span) → IsInline t Joins e → argument_name e ≡ Some s →
      IsNameSpan t s
  argument_name_is_name_span (string_literal v) s f k = cc
  argument_name_is_name_span (number_literal v) s f k = cc
  argument_name_is_name_span (function_reference id a) s f k = cc
  argument_name_is_name_span (message_reference id None) s f k = let same : id ≡ s = cc in
      subst (IsNameSpan t) same (and_gives_left (is_name (bytes_at t id)) true f.obeys)
  argument_name_is_name_span (message_reference id (Some a)) s f k = cc
  argument_name_is_name_span (term_reference id o a) s f k = cc
  argument_name_is_name_span (variable_reference id) s f k = cc
  argument_name_is_name_span (inline_placeable e) s f k = cc

  argument_rest_reads_next_argument : (names : List Text) (e : InlineTree Span) (o : Option Span) (colon : Bool) →
      argument_name e ≡ o → IsInline t Joins e → Ensures (argument_rest t R names e o colon) (IsNext names)
  argument_rest_reads_next_argument names e None colon k f = positional_rest_reads_next_argument names e f
  argument_rest_reads_next_argument names e (Some s) true k f =
      named_rest_reads_next_argument names s (argument_name_is_name_span e s f k)
  argument_rest_reads_next_argument names e (Some s) false k f = positional_rest_reads_next_argument names e f

  argument_by_byte_reads_next_argument : (names : List Text) (o : Option ℕ) →
      Ensures (next_argument_at t R names o) (IsNext names)
  argument_by_byte_reads_next_argument names None = fails_ensures_anything
  argument_by_byte_reads_next_argument names (Some b) = ensures_branch_on
      (λ y. bind_ensures_by_second
      (λ u. yields_ensures
      (record { obeys = refl; same = λ none. refl }, record { obeys = refl; same = λ none. refl }, refl)))
      (λ y. bind_ensures (record { on_read = λ i j e x. (inline_that_is_read_fits_its_start i j e x).0 })
      (λ e f. bind_ensures_by_second
      (λ colon. argument_rest_reads_next_argument names e (argument_name e) colon refl f)))

  pub more_arguments_read_arguments : (names : List Text) →
      Ensures (more_arguments t R names) (IsArguments t Joins names)
  more_arguments_read_arguments =
      many_ensures_by_its_items (next_argument t R) add_argument (arguments no_inlines no_named) (IsArguments t Joins)
      (λ names. peek_ensures_by_its_part (argument_by_byte_reads_next_argument names))
