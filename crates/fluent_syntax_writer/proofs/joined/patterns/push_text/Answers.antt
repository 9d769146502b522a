use Rattle.std.proofs.Common.{◌∷◌, [], ◌++◌, map, option_map, string_bytes, sym, ap, ◌∙◌}
use Rattle.fluent_syntax_tree.specs.Tree.{text_element, elements}
use Rattle.fluent_syntax_tree.specs.View.{element_view}
use Rattle.fluent_syntax_grammar.specs.Joined.{joined_pattern, joined_after}
use Rattle.fluent_syntax_writer.specs.Joining.{before_pattern, joined_from}
use Rattle.fluent_syntax_writer.proofs.joining.Elements.{text_is_joined, text_stays_apart, pushed_text_is_last_element}
use Rattle.fluent_syntax_writer.proofs.joined.patterns.push_text.Goals as goal

pub returns-then-is_joined : goal.returns-then-is_joined
returns-then-is_joined c = λ rest.
    let done = map (element_view string_bytes) c.args.made.now.items in
    let text = string_bytes c.args.text in
    ap (λ l. before_pattern l (joined_pattern rest))
    (pushed_text_is_last_element string_bytes c.args.made.now.items _ _ c.in_ok-push.ensures.items)
    ∙ ap (λ v. before_pattern (done ++ text_element v ∷ []) (joined_pattern rest))
    (cc (c.in_ok-push_str.ensures.bytes, c.deref-then-is_joined.ensures))
    ∙ text_is_joined done (string_bytes c.in-Some.before) text rest
    (cc (c.is_joined.ensures, c.deref.ensures, c.deref-2.ensures, c.if-is_joined.true))
    ∙ ap (λ o. before_pattern done (joined_from (option_map string_bytes o) (elements (text_element text) rest)))
    (sym c.in-Some.is)

pub returns : goal.returns
returns c = λ rest.
    let done = map (element_view string_bytes) c.args.made.now.items in
    let text = string_bytes c.args.text in
    ap (λ l. before_pattern l (joined_after text rest))
    (pushed_text_is_last_element string_bytes c.args.made.now.items _ _ c.in_ok-push-2.ensures.items)
    ∙ text_stays_apart done (string_bytes c.in-Some.before) text rest
    (cc (c.is_joined.ensures, c.deref.ensures, c.deref-2.ensures, c.if-is_joined.false))
    ∙ ap (λ o. before_pattern done (joined_from (option_map string_bytes o) (elements (text_element text) rest)))
    (sym c.in-Some.is)
