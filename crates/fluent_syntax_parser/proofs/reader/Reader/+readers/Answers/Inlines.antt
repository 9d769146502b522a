-- The answers of the readers of inline expressions.
use Rattle.std.proofs.Common.{◌≡◌, Option, ap, refl}
use Rattle.std.proofs.lemmas.Result.{err_from_is_err_and}
use Rattle.fluent_syntax_tree.specs.Tree.{MaybeArguments, inline, term_reference}
use Rattle.fluent_syntax_grammar.specs.Starts as starts
use Rattle.fluent_syntax_grammar.specs.Bytes.{hyphen}
use Rattle.fluent_syntax_grammar.specs.Construct.{stops, goes_on, given, failed}
use Rattle.fluent_syntax_grammar.specs.Inline.{inline_of}
use Rattle.fluent_syntax_grammar.proofs.FunctionalRules.{accessor_is_functional}
use Rattle.fluent_syntax_grammar.proofs.FunctionalWords.{identifier_is_functional, token_is_functional}
use Rattle.fluent_syntax_grammar.proofs.Nesting.{within_is_functional}
use Rattle.fluent_syntax_parser.specs.Outcomes.{no_memory, refused}
use Rattle.fluent_syntax_parser.proofs.readers.Fails.{bind_fails_where_first_fails, bind_fails_second}
use Rattle.fluent_syntax_parser.proofs.readers.Fails.{peek_fails_where_seen_part_fails, memory_is_err}
use Rattle.fluent_syntax_parser.proofs.expressions.InlineStarts.{inline_of_its_start_is_inline}
use Rattle.fluent_syntax_parser.proofs.expressions.InlineStarts.{start_of_number_is_digit_or_minus, Pushes-named}
use Rattle.fluent_syntax_parser.proofs.expressions.LastPlaced.{added_placeable_has_equal_tree}
use Rattle.fluent_syntax_parser.proofs.readers.Made.{made_was_read}
use Rattle.fluent_syntax_parser.proofs.reader.Reader.+readers.Goals as goal

-- a reference to a term whose arguments are the same
equal_arguments_make_equal_term_reference : {X : Type 0} (name : X) (attribute : Option X) {a b : MaybeArguments X} →
    a ≡ b → inline (term_reference name attribute a) ≡ inline (term_reference name attribute b)
equal_arguments_make_equal_term_reference name attribute same = ap (λ x. inline (term_reference name attribute x)) same

pub add_term_reference-returns-in_err-start-clause-parses :
    goal.add_term_reference-returns-in_err-start-clause-parses
add_term_reference-returns-in_err-start-clause-parses g m c =
    let p = err_from_is_err_and c.from_residual.result
    c.from_residual.ensures.1 in
    rw (p.1, p.2) (refused (λ k from to h.
    inline_of_its_start_is_inline c.args.self.now.source.bytes.now _ _ starts.term _ c.requires.starts
    (stops (c.in_err-start.ensures.parses k from to h))))

pub add_term_reference-returns-in_err-end-clause-parses :
    goal.add_term_reference-returns-in_err-end-clause-parses
add_term_reference-returns-in_err-end-clause-parses g m c =
    let p = err_from_is_err_and c.from_residual-in_err-end.result c.from_residual-in_err-end.ensures.1
    in
    rw (p.1, p.2) (refused (λ k from to h.
    inline_of_its_start_is_inline c.args.self.now.source.bytes.now _ _ starts.term _ c.requires.starts
    (goes_on c.in_ok-start.ensures.parses
    (stops (c.in_err-end.ensures.parses k from to h)))))

pub add_term_reference-returns-in_err-attribute-clause-parses :
    goal.add_term_reference-returns-in_err-attribute-clause-parses
add_term_reference-returns-in_err-attribute-clause-parses g m c =
    let p = err_from_is_err_and c.from_residual-in_err-attribute.result
    c.from_residual-in_err-attribute.ensures.1 in
    rw (p.1, p.2) (refused (λ k from to h.
    inline_of_its_start_is_inline c.args.self.now.source.bytes.now _ _ starts.term _ c.requires.starts
    (goes_on c.in_ok-start.ensures.parses
    (goes_on c.in_ok-end.ensures.parses
    (stops (c.in_err-attribute.ensures.parses k from to h))))))

pub add_term_reference-returns-in_err-arguments-clause-parses :
    goal.add_term_reference-returns-in_err-arguments-clause-parses
add_term_reference-returns-in_err-arguments-clause-parses g m c =
    let t = c.args.self.now.source.bytes.now in
    let p = err_from_is_err_and c.from_residual-in_err-arguments.result c.from_residual-in_err-arguments.ensures.1 in
    rw (p.1, p.2)
    (peek_fails_where_seen_part_fails (inline_of t _) starts.term c.requires.starts
    (bind_fails_second (token_is_functional t hyphen) c.in_ok-start.ensures.parses
    (bind_fails_second (identifier_is_functional t) c.in_ok-end.ensures.parses
    (bind_fails_second (accessor_is_functional t) c.in_ok-attribute.ensures.parses
    (bind_fails_where_first_fails c.in_err-arguments.ensures.parses)))))

pub add_term_reference-returns-clause-parses : goal.add_term_reference-returns-clause-parses
add_term_reference-returns-clause-parses g m c =
    made_was_read c.in_ok-arguments.ensures.parses (λ a read same. (
      _,
      inline_of_its_start_is_inline c.args.self.now.source.bytes.now _ _ starts.term _ c.requires.starts
          (goes_on c.in_ok-start.ensures.parses
          (goes_on c.in_ok-end.ensures.parses
          (goes_on c.in_ok-attribute.ensures.parses
          (goes_on read
          given)))),
      added_placeable_has_equal_tree g.M.MakeTexts.made _ _ _ c.in_ok-add_term_named.ensures
          (equal_arguments_make_equal_term_reference _ _ same),
    ))

pub add_term_reference-returns-in_err-add_term_named-clause-parses :
    goal.add_term_reference-returns-in_err-add_term_named-clause-parses
add_term_reference-returns-in_err-add_term_named-clause-parses g m c =
    rw (memory_is_err c.from_residual-in_err-add_term_named.result
    c.from_residual-in_err-add_term_named.ensures.1) no_memory

pub add_reference-returns-in_err-end-clause-parses :
    goal.add_reference-returns-in_err-end-clause-parses
add_reference-returns-in_err-end-clause-parses g m c =
    let p = err_from_is_err_and c.from_residual.result
    c.from_residual.ensures.1 in
    rw (p.1, p.2) (refused (λ k from to h.
    inline_of_its_start_is_inline c.args.self.now.source.bytes.now _ _ starts.letter _ c.requires.starts
    (stops (c.in_err-end.ensures.parses k from to h))))

pub add_reference-returns-in_err-arguments-clause-parses :
    goal.add_reference-returns-in_err-arguments-clause-parses
add_reference-returns-in_err-arguments-clause-parses g m c =
    let t = c.args.self.now.source.bytes.now in
    let p = err_from_is_err_and c.from_residual-in_err-arguments.result c.from_residual-in_err-arguments.ensures.1 in
    rw (p.1, p.2)
    (peek_fails_where_seen_part_fails (inline_of t _) starts.letter c.requires.starts
    (bind_fails_second (identifier_is_functional t) c.in_ok-end.ensures.parses
    (bind_fails_where_first_fails c.in_err-arguments.ensures.parses)))

pub add_reference-returns-clause-parses : goal.add_reference-returns-clause-parses
add_reference-returns-clause-parses g m c =
    let t = c.args.self.now.source.bytes.now in
    made_was_read c.in_ok-arguments.ensures.parses (λ a read same.
    Pushes-named g.M.MakeTexts.made t _ _ _ _ _ _ (c.add_named_reference.ensures.parses a same) c.requires.starts
    c.in_ok-end.ensures.parses read (within_is_functional c.args.self.now.edition t _))

pub add_inner_placeable-wrap_last-requires : goal.add_inner_placeable-wrap_last-requires
add_inner_placeable-wrap_last-requires g m c = (_, _, c.in_ok-end.ensures.parses.2)

pub add_inner_placeable-returns-in_err-end-clause-parses : goal.add_inner_placeable-returns-in_err-end-clause-parses
add_inner_placeable-returns-in_err-end-clause-parses g m c =
    let t = c.args.self.now.source.bytes.now in
    let p = err_from_is_err_and c.from_residual.result c.from_residual.ensures.1 in
    rw (p.1, p.2)
    (peek_fails_where_seen_part_fails (inline_of t _) starts.brace c.requires.starts
    (bind_fails_where_first_fails c.in_err-end.ensures.parses))

pub add_inner_placeable-returns-in_err-wrap_last-clause-parses :
    goal.add_inner_placeable-returns-in_err-wrap_last-clause-parses
add_inner_placeable-returns-in_err-wrap_last-clause-parses g m c =
    rw (memory_is_err c.from_residual-in_err-wrap_last.result
    c.from_residual-in_err-wrap_last.ensures.1) no_memory

pub add_inner_placeable-returns-clause-parses : goal.add_inner_placeable-returns-clause-parses
add_inner_placeable-returns-clause-parses g m c =
    let (a, read, added) = c.in_ok-end.ensures.parses in (
      _,
      inline_of_its_start_is_inline c.args.self.now.source.bytes.now _ _ starts.brace _ c.requires.starts
          (goes_on read given),
      c.in_ok-wrap_last.ensures _ _ added,
    )

pub add_inline_expression-add_number-requires-clause-starts :
    goal.add_inline_expression-add_number-requires-clause-starts
add_inline_expression-add_number-requires-clause-starts g m c =
    start_of_number_is_digit_or_minus c.args.self.now.source.bytes.now _ c.start.result c.in-Digit.is c.start.ensures

pub add_inline_expression-returns-in-Quote-clause-parses : goal.add_inline_expression-returns-in-Quote-clause-parses
add_inline_expression-returns-in-Quote-clause-parses g m c = c.add_string.ensures.parses _

pub add_inline_expression-returns-in-Digit-clause-parses : goal.add_inline_expression-returns-in-Digit-clause-parses
add_inline_expression-returns-in-Digit-clause-parses g m c = c.add_number.ensures.parses _

pub add_inline_expression-returns-in-Dollar-clause-parses : goal.add_inline_expression-returns-in-Dollar-clause-parses
add_inline_expression-returns-in-Dollar-clause-parses g m c = c.add_variable.ensures.parses _

pub add_inline_expression-returns-in-Other-clause-parses : goal.add_inline_expression-returns-in-Other-clause-parses
add_inline_expression-returns-in-Other-clause-parses g m c =
    refused (λ k from to (a, b, d). rw (a, b, d)
    (inline_of_its_start_is_inline c.args.self.now.source.bytes.now _ _ starts.other _ c.in-Other.ensures
    (failed refl)))
