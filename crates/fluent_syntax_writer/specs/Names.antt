-- Named arguments, one by one.
use Rattle.fluent_syntax_tree.specs.declared.ast.NamedArgument.{NamedArgument}
use Rattle.fluent_syntax_grammar.specs.Written.{Text}

module _ {S : Type 0} (text : S → Text) where
  abbrev pub name_of : NamedArgument S → Text
  name_of a = text a.name.name
