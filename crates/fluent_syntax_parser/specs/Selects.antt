-- What comes after the selector of a select.
use Rattle.std.specs.Prelude.{ℕ, List, Option, Some, None, false}
use Rattle.fluent_syntax_tree.specs.Kind.{Kind}
use Rattle.fluent_syntax_tree.specs.Tree.{VariantTrees}
use Rattle.fluent_syntax_tree.specs.declared.edition.Edition.{Edition}
use Rattle.fluent_syntax_tree.specs.declared.spans.Span.{Span}
use Rattle.fluent_syntax_grammar.specs.Construct.{Construct, ◌>>◌, fails, skip, peek}
use Rattle.fluent_syntax_grammar.specs.Family.{Family}
use Rattle.fluent_syntax_grammar.specs.Expressions.{arrow_line_end}
use Rattle.fluent_syntax_grammar.specs.Places.{Steps, after_eol}
use Rattle.fluent_syntax_grammar.specs.Variants.{more_variants}
use Rattle.fluent_syntax_grammar.specs.Tokens.{blank, inline_blank}

-- `->`, an inline blank, a line end and a blank, after a selector. What is no selector is refused there.
abbrev pub select_start : List ℕ → Option Kind → Construct (Unit {0})
select_start t (Some fault) = fails fault
select_start t None = do
  skip (Steps 2)
  inline_blank t
  peek (after_eol t) arrow_line_end
  blank t

-- the variants of a select, from its arrow on
abbrev pub arrow_variants : Edition → List ℕ → Family → Option Kind → Construct (VariantTrees Span)
arrow_variants edition t R fault = select_start t fault >> more_variants edition t R false
