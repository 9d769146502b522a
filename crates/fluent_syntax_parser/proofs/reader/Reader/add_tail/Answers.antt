use Rattle.std.proofs.Common.{◌≡◌, [], ◌∷◌, ◌++◌, map, ap, ◌∙◌}
use Rattle.std.proofs.lemmas.Result.{IfOk-weaker}
use Rattle.fluent_syntax_tree.specs.View.{element_view}
use Rattle.fluent_syntax_parser.specs.Elements.{dedented_items, item_view, last_of, rest_items}
use Rattle.fluent_syntax_parser.specs.Lines.{line_view}
use Rattle.fluent_syntax_parser.proofs.patterns.Shapes.{views_of_tail_are_rest_and_lines}
use Rattle.fluent_syntax_parser.proofs.patterns.Spelled.{cut_without_items_adds_no_elements}
use Rattle.fluent_syntax_parser.proofs.patterns.Spelled.{cut_with_items_adds_their_elements}
use Rattle.fluent_syntax_parser.proofs.reader.Reader.add_tail.Goals as goal

pub returns-in-None : goal.returns-in-None
returns-in-None g c =
    let f = g.M.MakeTexts.source c.args.self.now.texts.now in
    let v = g.M.MakeTexts.made in
    let t = c.args.self.now.source.bytes.now in
    let edition = c.args.self.now.edition in
    let rest = c.args.opening in
    let lines = c.args.lines.items in
    let viewed = views_of_tail_are_rest_and_lines v edition rest lines c.add_opening_end.new.items.items
    c.add_lines.new.items.items
    c.deref.ensures.value c.common_indent-common.ensures
    (rw c.new-items.ensures.items at c.in_ok-add_opening_end.ensures) c.in_ok-add_lines.ensures in
    cut_without_items_adds_no_elements f t (rest_items rest ++ dedented_items edition (map (line_view v) lines))
    (map (element_view v) c.args.elements.now.items) (rw viewed at c.in-None.ensures)

pub returns-in_ok-add_elements-in-Some : goal.returns-in_ok-add_elements-in-Some
returns-in_ok-add_elements-in-Some g c =
    let f = g.M.MakeTexts.source c.args.self.now.texts.now in
    let v = g.M.MakeTexts.made in
    let t = c.args.self.now.source.bytes.now in
    let edition = c.args.self.now.edition in
    let rest = c.args.opening in
    let lines = c.args.lines.items in
    let last = item_view v c.in-Some.last in
    let viewed = views_of_tail_are_rest_and_lines v edition rest lines c.add_opening_end.new.items.items
    c.add_lines.new.items.items
    c.deref.ensures.value c.common_indent-common.ensures
    (rw c.new-items.ensures.items at c.in_ok-add_opening_end.ensures) c.in_ok-add_lines.ensures in
    IfOk-weaker c.add_last_element.result _ _ (λ done added.
    added ∙ ap (λ xs. xs ++ last_of f t last ∷ []) c.in_ok-add_elements-in-Some.ensures
    ∙ cut_with_items_adds_their_elements f t (rest_items rest ++ dedented_items edition (map (line_view v) lines))
    (map (element_view v) c.args.elements.now.items) _ last (rw viewed at c.in-Some.ensures)) c.add_last_element.ensures
