-- Gathered arguments before those of the rest of a list.
use Rattle.std.proofs.Common.{◌≡◌, List, [], ◌∷◌, ◌++◌, map, refl, ap, ◌∙◌}
use Rattle.fluent_syntax_tree.specs.Tree.{InlineTree, ArgumentsTree, arguments, InlineTrees, no_inlines, inlines}
use Rattle.fluent_syntax_tree.specs.Tree.{inlines_of, NamedTree, named_argument, NamedTrees, no_named, nameds}
use Rattle.fluent_syntax_tree.specs.Tree.{nameds_of, arguments_map, inline_map, inlines_map, named_map, nameds_map}
use Rattle.fluent_syntax_tree.specs.declared.spans.Span.{Span}
use Rattle.fluent_syntax_grammar.specs.Arguments.{add_positional, add_named}

abbrev inlines_before : List (InlineTree Span) → InlineTrees Span → InlineTrees Span
inlines_before [] es = es
inlines_before (x ∷ xs) es = inlines x (inlines_before xs es)

abbrev nameds_before : List (NamedTree Span) → NamedTrees Span → NamedTrees Span
nameds_before [] es = es
nameds_before (x ∷ xs) es = nameds x (nameds_before xs es)

-- the gathered arguments before others
abbrev pub put_arguments : List (InlineTree Span) → List (NamedTree Span) → ArgumentsTree Span → ArgumentsTree Span
put_arguments ps ns (arguments es ms) = arguments (inlines_before ps es) (nameds_before ns ms)

pub no_arguments_put_change_nothing : (a : ArgumentsTree Span) → put_arguments [] [] a ≡ a
no_arguments_put_change_nothing (arguments es ms) = refl

inlines_before-append : (xs : List (InlineTree Span)) (x : InlineTree Span) (es : InlineTrees Span) →
    inlines_before (xs ++ x ∷ []) es ≡ inlines_before xs (inlines x es)
inlines_before-append [] x es = refl
inlines_before-append (y ∷ ys) x es = ap (inlines y) (inlines_before-append ys x es)

nameds_before-append : (xs : List (NamedTree Span)) (x : NamedTree Span) (es : NamedTrees Span) →
    nameds_before (xs ++ x ∷ []) es ≡ nameds_before xs (nameds x es)
nameds_before-append [] x es = refl
nameds_before-append (y ∷ ys) x es = ap (nameds y) (nameds_before-append ys x es)

-- one more positional argument
pub positional_is_put_last : (ps : List (InlineTree Span)) (ns : List (NamedTree Span)) (e : InlineTree Span)
    (a : ArgumentsTree Span) → put_arguments (ps ++ e ∷ []) ns a ≡ put_arguments ps ns (add_positional e a)
positional_is_put_last ps ns e (arguments es ms) =
    ap (λ xs. arguments xs (nameds_before ns ms)) (inlines_before-append ps e es)

-- one more named argument
pub named_is_put_last : (ps : List (InlineTree Span)) (ns : List (NamedTree Span)) (name : Span) (e : InlineTree Span)
    (a : ArgumentsTree Span) →
    put_arguments ps (ns ++ named_argument name e ∷ []) a ≡ put_arguments ps ns (add_named name e a)
named_is_put_last ps ns name e (arguments es ms) =
    ap (λ xs. arguments (inlines_before ps es) xs) (nameds_before-append ns (named_argument name e) ms)

inlines_before-end : (xs : List (InlineTree Span)) → inlines_before xs no_inlines ≡ inlines_of xs
inlines_before-end [] = refl
inlines_before-end (x ∷ xs) = ap (inlines x) (inlines_before-end xs)

nameds_before-end : (xs : List (NamedTree Span)) → nameds_before xs no_named ≡ nameds_of xs
nameds_before-end [] = refl
nameds_before-end (x ∷ xs) = ap (nameds x) (nameds_before-end xs)

-- no others
pub arguments_put_before_none_are_whole : (ps : List (InlineTree Span)) (ns : List (NamedTree Span)) →
    put_arguments ps ns (arguments no_inlines no_named) ≡ arguments (inlines_of ps) (nameds_of ns)
arguments_put_before_none_are_whole ps ns =
    ap (λ xs. arguments xs (nameds_before ns no_named)) (inlines_before-end ps)
    ∙ ap (λ xs. arguments (inlines_of ps) xs) (nameds_before-end ns)

-- ---- with f of each text in its place

module _ {X : Type 0} (f : Span → X) where
  gathered_inlines_are_mapped : (xs : List (InlineTree Span)) →
      inlines_of (map (inline_map f) xs) ≡ inlines_map f (inlines_of xs)
  gathered_inlines_are_mapped [] = refl
  gathered_inlines_are_mapped (x ∷ xs) = ap (inlines (inline_map f x)) (gathered_inlines_are_mapped xs)

  gathered_nameds_are_mapped : (xs : List (NamedTree Span)) →
      nameds_of (map (named_map f) xs) ≡ nameds_map f (nameds_of xs)
  gathered_nameds_are_mapped [] = refl
  gathered_nameds_are_mapped (x ∷ xs) = ap (nameds (named_map f x)) (gathered_nameds_are_mapped xs)

  pub gathered_arguments_are_mapped : (ps : List (InlineTree Span)) (ns : List (NamedTree Span)) →
      arguments (inlines_of (map (inline_map f) ps)) (nameds_of (map (named_map f) ns))
      ≡ arguments_map f (arguments (inlines_of ps) (nameds_of ns))
  gathered_arguments_are_mapped ps ns = rw (gathered_inlines_are_mapped ps, gathered_nameds_are_mapped ns) refl
