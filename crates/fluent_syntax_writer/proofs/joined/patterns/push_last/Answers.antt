use Rattle.std.proofs.Common.{◌++◌, map, option_map, string_bytes, sym, ap, ◌∙◌}
use Rattle.std.specs.Option.{option_to_list}
use Rattle.fluent_syntax_tree.specs.Tree.{text_element}
use Rattle.fluent_syntax_tree.specs.View.{element_view}
use Rattle.fluent_syntax_writer.proofs.joining.Elements.{pushed_text_is_last_element}
use Rattle.fluent_syntax_writer.proofs.joined.patterns.push_last.Goals as goal

pub returns-in_ok-push : goal.returns-in_ok-push
returns-in_ok-push c =
    pushed_text_is_last_element string_bytes _ _ c.in-Some.value c.in_ok-push.ensures.items
    ∙ ap (λ o. map (element_view string_bytes) c.args.elements.now.items
    ++ map text_element (option_to_list (option_map string_bytes o))) (sym c.in-Some.is)
