use Rattle.std.proofs.Common.{◌≡◌, ◌+◌, ◌++◌, arith, length, map, ap, ◌∙◌, Some}
use Rattle.std.specs.Prelude.{◌==◌, vec_len}
use Rattle.std.proofs.lemmas.Result.{IfOk-equal}
use Rattle.fluent_syntax_parser.specs.Elements.{flushed, indent_of, item_shape, leading}
use Rattle.fluent_syntax_grammar.specs.Elements.{with_ending}
use Rattle.fluent_syntax_parser.specs.Lines.{ending_view, line_shape, piece_shape}
use Rattle.fluent_syntax_parser.proofs.scanning.Names.{none_are_named, some_are_named}
use Rattle.fluent_syntax_parser.proofs.patterns.Waiting.{items_of_bare_line_are_line_items}
use Rattle.fluent_syntax_parser.proofs.patterns.Waiting.{items_of_full_line_are_line_items, empty_map_comes_from_empty}
use Rattle.fluent_syntax_parser.proofs.pattern.elements.add_line.Goals as goal

pub returns-then-is_empty : goal.returns-then-is_empty
returns-then-is_empty g c =
    let l = c.args.line in
    let size : vec_len l.pieces ≡ length l.pieces.items = omega (arith, l.pieces.ok.0) in
    let none = none_are_named l.pieces.items (c.if-is_empty.ensures ∙ ap (λ n. n == 0) size) in
    IfOk-equal c.add_bare_line.result _ _ _ c.add_bare_line.ensures
    (ap (λ xs. map item_shape c.args.items.now.items ++ xs)
    (items_of_bare_line_are_line_items c.args.edition c.args.common (line_shape l) _ c.common_indent_end-kept.ensures
    (ap (map piece_shape) none)))

pub returns : goal.returns
returns g c =
    let l = c.args.line in
    let size : vec_len l.pieces ≡ length l.pieces.items = omega (arith, l.pieces.ok.0) in
    let some = some_are_named l.pieces.items (c.if-is_empty.ensures ∙ ap (λ n. n == 0) size) in
    let old = map item_shape c.args.items.now.items in
    let kept = c.common_indent_end-kept.result in
    let line = with_ending (leading (Some kept) (map piece_shape l.pieces.items)) (ending_view l.ending) in
    let indent =
    c.indent_of-indent.ensures
    ∙ ap (λ ps. indent_of c.args.edition kept (l.start + l.spaces) (map piece_shape ps)) c.deref.ensures.value in
    IfOk-equal c.add_pieces.result _ _ _ c.add_pieces.ensures
    (ap (λ xs. xs ++ line) (c.in_ok-add_pending_run.ensures ∙ ap (flushed old) indent)
    ∙ items_of_full_line_are_line_items c.args.edition c.args.common
    (line_shape l) kept c.common_indent_end-kept.ensures old
    (λ e. some (empty_map_comes_from_empty piece_shape l.pieces.items e)))
