use Rattle.std.proofs.Common.{◌∷◌, [], ◌++◌, ◌∙◌, ap, refl}
use Rattle.fluent_syntax_tree.proofs.Views.{view-Pattern, view-TextElement}
use Rattle.fluent_syntax_tree.specs.declared.ast.PatternElement as elem
use Rattle.fluent_syntax_parser.proofs.reader.Reader.short_pattern.Goals as goal

pub returns-in_default : goal.returns-in_default
returns-in_default g c = rw c.in_default.is refl

pub returns : goal.returns
returns g c =
    let text = c.in_ok-value.value in
    let items = c.push_reserved.ensures.items
    ∙ ap (λ xs. xs ++ elem.TextElement text ∷ []) c.in_ok-elements.ensures.items in
    rw (
      view-Pattern g.M.MakeTexts.made (record { elements = c.push_reserved.new.self }),
      items,
      view-TextElement g.M.MakeTexts.made text,
      c.in_ok-value.ensures,
      c.in-Some.is,
    ) refl
