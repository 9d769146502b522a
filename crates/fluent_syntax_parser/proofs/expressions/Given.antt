-- The arguments of a reference that were given to it.
use Rattle.std.proofs.Common.{◌≡◌, ap, refl}
use Rattle.fluent_syntax_tree.specs.Tree.{ArgumentsTree, MaybeArguments, arguments_map, maybe_map, no_arguments}
use Rattle.fluent_syntax_tree.specs.Tree.{some_arguments}

abbrev some_arguments_or : {X : Type 0} → ArgumentsTree X → MaybeArguments X → ArgumentsTree X
some_arguments_or b no_arguments = b
some_arguments_or b (some_arguments c) = c

module _ {X Y : Type 0} (f : X → Y) where
  pub given_arguments_map_to_given : (given : MaybeArguments X) {b : ArgumentsTree Y} →
      some_arguments b ≡ maybe_map f given →
      (a : ArgumentsTree X) × (given ≡ some_arguments a) × (b ≡ arguments_map f a)
  given_arguments_map_to_given no_arguments e = cc
  given_arguments_map_to_given (some_arguments a) {b = b} e = (a, refl, ap (some_arguments_or b) e)

  pub optional_arguments_of_none_are_none : (given : MaybeArguments X) → no_arguments ≡ maybe_map f given →
      given ≡ no_arguments
  optional_arguments_of_none_are_none no_arguments e = refl
  optional_arguments_of_none_are_none (some_arguments a) e = cc
