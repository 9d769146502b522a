-- What is asked of a list of named arguments, asked of its first one and of the rest.
use Rattle.std.proofs.Common.{◌≡◌, ℕ, ◌+◌, ◌<◌, List, [], ◌∷◌, ◌++◌, length, get_or, take, map, reverse, nat_eq}
use Rattle.std.proofs.Common.{Bool, true, false, ◌&&◌, not, refl, sym, ap, ◌∙◌}
use Rattle.std.specs.BTreeMap.{is_at}
use Rattle.std.specs.Cmp.Lexicographic.{slice_cmp}
use Rattle.std.specs.List.{list_any}
use Rattle.std.specs.Ordering.{nat_cmp}
use lib.Pointwise.{pointwise}
use Rattle.std.proofs.lemmas.List.{map_more, reverse-append}
use Rattle.std.proofs.lemmas.List.Sorted.{list_any-IsPermutation, IsPermutation-reverse}
use Rattle.fluent_syntax_tree.specs.Tree.{NamedTrees, no_named, nameds, nameds_of, named_argument}
use Rattle.fluent_syntax_tree.specs.View.{inline_view, named_view}
use Rattle.fluent_syntax_tree.specs.declared.ast.NamedArgument.{NamedArgument}
use Rattle.fluent_syntax_tree.proofs.Views.{view-NamedArgument}
use Rattle.fluent_syntax_grammar.specs.Arguments.{is_used}
use Rattle.fluent_syntax_grammar.specs.Readable.{is_argument_value, are_named_well}
use Rattle.fluent_syntax_grammar.specs.NameKeys.{NotesAll}
use Rattle.fluent_syntax_grammar.specs.Written.{Text}
use Rattle.fluent_syntax_grammar.proofs.NameKeys.{some_key_equals_name_if_is_key}
use Rattle.fluent_syntax_writer.specs.SingleRule.{have_values, have_new_names}
use Rattle.fluent_syntax_writer.specs.Names.{name_of}

is_used-reversed : (name : Text) (names : List Text) → is_used name names ≡ is_used name (reverse names)
is_used-reversed name names =
    list_any-IsPermutation (pointwise nat_eq name) names (reverse names) (IsPermutation-reverse names)

named_tests_regroup : (fresh allowed values names : Bool)
    → (fresh && (allowed && (values && names))) ≡ ((allowed && values) && (fresh && names))
named_tests_regroup true true values names = refl
named_tests_regroup true false values names = refl
named_tests_regroup false true true names = refl
named_tests_regroup false true false names = refl
named_tests_regroup false false values names = refl

-- Both are asked of each argument at once, or the one of all and then the other.
pub are_named_well_by_parts : (used : List Text) (ns : NamedTrees Text)
    → are_named_well used ns ≡ (have_values ns && have_new_names used ns)
are_named_well_by_parts used no_named = refl
are_named_well_by_parts used (nameds (named_argument name e) ns) =
    let fresh = not (is_used name used) in
    ap (λ b. fresh && (is_argument_value e && b)) (are_named_well_by_parts (name ∷ used) ns)
    ∙ named_tests_regroup fresh (is_argument_value e) (have_values ns) (have_new_names (name ∷ used) ns)

module _ {S : Type 0} (text : S → Text) where
  -- the names so far, last first
  abbrev pub used : List (NamedArgument S) → List Text
  used earlier = reverse (map (name_of text) earlier)

  pub used-next : (ns : List (NamedArgument S)) (i : ℕ) (n : NamedArgument S) → i < length ns → n ≡ get_or ns i n
      → name_of text n ∷ used (take i ns) ≡ used (take (i + 1) ns)
  used-next ns i n within is =
      let names = map (name_of text) (take i ns) in
      sym (ap reverse (map_more (name_of text) ns i n within ∙ ap (λ m. names ++ name_of text m ∷ []) (sym is))
      ∙ reverse-append names (name_of text n ∷ []))

  abbrev pub with_name : List Text → NamedArgument S → List Text
  with_name names n = name_of text n ∷ names

  -- ---- values alone, and names alone

  abbrev pub values : Unit {0} → List (NamedArgument S) → Bool
  values u ns = have_values (nameds_of (map (named_view text) ns))

  abbrev pub one_value : Unit {0} → NamedArgument S → List (NamedArgument S) → Bool
  one_value u n ns = is_argument_value (inline_view text n.value)

  abbrev pub no_state : Unit {0} → NamedArgument S → Unit {0}
  no_state u n = u

  pub values_are_first_and_rest : (u : Unit {0}) (n : NamedArgument S) (ns : List (NamedArgument S))
      → values u (n ∷ ns) ≡ (one_value u n ns && values (no_state u n) ns)
  values_are_first_and_rest u n ns =
      ap (λ v. have_values (nameds v (nameds_of (map (named_view text) ns)))) (view-NamedArgument text n)

  abbrev pub new_names : List Text → List (NamedArgument S) → Bool
  new_names names ns = have_new_names names (nameds_of (map (named_view text) ns))

  abbrev pub one_new_name : List Text → NamedArgument S → List (NamedArgument S) → Bool
  one_new_name names n ns = not (is_used (name_of text n) names)

  pub first_new_name : (names : List Text) (n : NamedArgument S) (ns : List (NamedArgument S))
      → new_names names (n ∷ ns) ≡ (one_new_name names n ns && new_names (with_name names n) ns)
  first_new_name names n ns =
      ap (λ v. have_new_names names (nameds v (nameds_of (map (named_view text) ns)))) (view-NamedArgument text n)

  -- whether a name is used among the earlier ones, in either order
  pub new_name-used : (earlier : List (NamedArgument S)) (n : NamedArgument S)
      → is_used (name_of text n) (map (name_of text) earlier) ≡ is_used (name_of text n) (used earlier)
  new_name-used earlier n = is_used-reversed (name_of text n) (map (name_of text) earlier)

  -- a table of the earlier names has a name exactly where it is used among them
  pub table-used : {K : Type 0} (k : K → Text) (keys : List K) (earlier : List (NamedArgument S)) (n : NamedArgument S)
      (name : Text) → name ≡ name_of text n → NotesAll k keys (map (name_of text) earlier)
      → list_any (is_at (λ x. slice_cmp nat_cmp name (k x))) keys ≡ is_used (name_of text n) (used earlier)
  table-used k keys earlier n name is noted =
      some_key_equals_name_if_is_key k name keys ∙ noted name ∙ ap (λ v. is_used v (map (name_of text) earlier)) is ∙
      new_name-used earlier n
