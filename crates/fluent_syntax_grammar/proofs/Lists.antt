-- A list is its first item and, where there is one, the rest of the list.
use Rattle.fluent_syntax_grammar.specs.Construct.{Construct, ◌>>=◌, yields, More, no_item, item, many}

module _ {A S B : Type 0} (next : S → Construct (More A S)) (add : A → B → B) (none : B) where
  -- the rest of a list, by what there is where it may go on
  abbrev pub rest_of : More A S → Construct B
  rest_of no_item = yields none
  rest_of (item a s) = many next add none s >>= λ rest. yields (add a rest)
