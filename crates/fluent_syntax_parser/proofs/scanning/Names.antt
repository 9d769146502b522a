-- The names of the arguments of a list.
use Rattle.std.proofs.Common.{◌≡◌, ℕ, ◌+◌, ◌<◌, Bool, true, false, List, [], ◌∷◌, ◌++◌, length, get_or, take}
use Rattle.std.proofs.Common.{refl, sym, ap, ◌∙◌, true≢false, arith}
use Rattle.std.specs.List.{list_any}
use Rattle.std.specs.Prelude.{nat_eq, ◌==◌, reverse}
use Rattle.std.proofs.lemmas.Bool.Decides.{nat_tests}
use Rattle.std.proofs.lemmas.List.{length-reverse, reverse-append, map-append}
use Rattle.std.proofs.lemmas.List.Folds.{list_any_at, list_any_more}
use Rattle.std.proofs.lemmas.List.Sorted.{IsPermutation-reverse, list_any-IsPermutation}
use lib.Pointwise.{pointwise}
use Rattle.fluent_syntax_tree.specs.Spans.{bytes_at}
use Rattle.fluent_syntax_tree.specs.declared.spans.Span.{Span}
use Rattle.fluent_syntax_tree.proofs.Lists.{list_any-map}
use Rattle.fluent_syntax_grammar.specs.Arguments.{is_used}
use Rattle.fluent_syntax_parser.specs.Gathered.{names_in, names_in_order}

module _ (t : List ℕ) where
  pub name_is_used_in_either_order : (name : List ℕ) (named : List Span) →
      is_used name (names_in t named) ≡ is_used name (names_in_order t named)
  name_is_used_in_either_order name named =
      sym (list_any-IsPermutation (pointwise nat_eq name) (names_in_order t named) (names_in t named)
      (IsPermutation-reverse (names_in_order t named)))

  module _ (name : List ℕ) (named : List Span) (i : ℕ) (d : Span)
      (l : i < length named) where
    abbrev is_name : Span → Bool
    is_name a = pointwise nat_eq name (bytes_at t a)

    pub name_is_used : is_name (get_or named i d) ≡ true → is_used name (names_in_order t named) ≡ true
    name_is_used e = list_any-map (pointwise nat_eq name) (bytes_at t) named ∙ list_any_at is_name named i d l e

    pub name_is_not_used_up_to_next : is_used name (names_in_order t (take i named)) ≡ false →
        is_name (get_or named i d) ≡ false → is_used name (names_in_order t (take (i + 1) named)) ≡ false
    name_is_not_used_up_to_next before e =
        let used : list_any is_name (take i named) ≡ false =
        sym (list_any-map (pointwise nat_eq name) (bytes_at t) (take i named)) ∙ before in
        list_any-map (pointwise nat_eq name) (bytes_at t) (take (i + 1) named)
        ∙ list_any_more is_name named i d l
        ∙ rw (used, e) refl

  pub some_spans_have_some_names : (named : List Span) → (named ≡ [] → ⊥) → names_in t named ≡ [] → ⊥
  some_spans_have_some_names [] some e = some refl
  some_spans_have_some_names (x ∷ xs) some e =
      let p = length-reverse (names_in_order t (x ∷ xs)) in
      let q : length (names_in t (x ∷ xs)) ≡ 0 = ap length e in
      absurd (omega arith)

  pub added_span_names_come_first : (xs : List Span) (x : Span) →
      names_in t (xs ++ x ∷ []) ≡ bytes_at t x ∷ names_in t xs
  added_span_names_come_first xs x =
      ap reverse (map-append (bytes_at t) xs (x ∷ [])) ∙ reverse-append (names_in_order t xs) (bytes_at t x ∷ [])

pub none_are_named : {A : Type 0} (xs : List A) → true ≡ (length xs == 0) → xs ≡ []
none_are_named [] e = refl
none_are_named (x ∷ xs) e = let zero : length (x ∷ xs) ≡ 0 = grind (arith, nat_tests) in absurd (omega arith)

pub some_are_named : {A : Type 0} (xs : List A) → false ≡ (length xs == 0) → xs ≡ [] → ⊥
some_are_named xs e is =
    let bad : (length xs == 0) ≡ true = rw is refl in
    true≢false (sym bad ∙ sym e)
