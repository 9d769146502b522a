use Rattle.std.proofs.Common.{◌∙◌, ap, option_map, refl, sym}
use Rattle.std.proofs.lemmas.Result.{err_from_is_err_and}
use Rattle.fluent_syntax_tree.specs.Tree.{function_reference, message_reference}
use Rattle.fluent_syntax_tree.specs.View.{arguments_view, identifier_view}
use Rattle.fluent_syntax_tree.proofs.Views.{view-FunctionReference, view-MessageReference}
use Rattle.fluent_syntax_grammar.specs.Construct.{stops, goes_on, given, failed, first, second}
use Rattle.fluent_syntax_parser.specs.Gathered.{maybe_view}
use Rattle.fluent_syntax_parser.specs.Outcomes.{no_memory, refused}
use Rattle.fluent_syntax_parser.specs.declared.fault.Fault.TheVariants as fault
use Rattle.fluent_syntax_parser.proofs.expressions.LastPlaced.{pushed_inline_is_added_as_placeable}
use Rattle.fluent_syntax_parser.proofs.readers.Fails.{memory_is_err}
use Rattle.fluent_syntax_parser.proofs.expressions.Given.{optional_arguments_of_none_are_none}
use Rattle.fluent_syntax_parser.proofs.expressions.Given.{given_arguments_map_to_given}
use Rattle.fluent_syntax_parser.proofs.reader.Reader.add_named_reference.Goals as goal

pub returns-then-not-is_callee-clause-parses : goal.returns-then-not-is_callee-clause-parses
returns-then-not-is_callee-clause-parses g c = λ a same.
    let found = given_arguments_map_to_given _ a (ap (maybe_view g.M.MakeTexts.made) (sym c.in-Some.is) ∙ same) in
    rw found.1 (refused {f = fault.Callee} {from = c.args.ptr} {place = c.args.ptr} (λ k from to (a, b, d).
    rw (a, b, d)
    (second (sym c.if-not-is_callee.ensures) (failed refl))))

pub returns-in_err-id-in-Some-clause-parses : goal.returns-in_err-id-in-Some-clause-parses
returns-in_err-id-in-Some-clause-parses g c = λ a same.
    rw (memory_is_err c.from_residual.result c.from_residual.ensures.1) no_memory

pub returns-in_err-add_inline-in-Some-clause-parses : goal.returns-in_err-add_inline-in-Some-clause-parses
returns-in_err-add_inline-in-Some-clause-parses g c = λ a same.
    rw (memory_is_err c.from_residual-in_err-add_inline-in-Some.result
    c.from_residual-in_err-add_inline-in-Some.ensures.1) no_memory

pub returns-in_ok-add_inline-in-Some-clause-parses : goal.returns-in_ok-add_inline-in-Some-clause-parses
returns-in_ok-add_inline-in-Some-clause-parses g c = λ a same.
    let found = given_arguments_map_to_given _ a (ap (maybe_view g.M.MakeTexts.made) (sym c.in-Some.is) ∙ same) in
    rw found.1 (
      _,
      first (sym c.if-not-is_callee.ensures) given,
      pushed_inline_is_added_as_placeable g.M.MakeTexts.made _ _ _ c.in_ok-add_inline-in-Some.ensures
          (view-FunctionReference g.M.MakeTexts.made c.in_ok-id-in-Some.id c.in-Some.arguments
          ∙ ap (λ x. function_reference x (arguments_view g.M.MakeTexts.made c.in-Some.arguments))
          c.in_ok-id-in-Some.ensures
          ∙ ap (function_reference (g.M.MakeTexts.source c.args.self.now.texts.now c.args.name)) found.2),
    )

pub returns-in_err-attribute-in-None-clause-parses : goal.returns-in_err-attribute-in-None-clause-parses
returns-in_err-attribute-in-None-clause-parses g c = λ a same.
    let p = err_from_is_err_and c.from_residual-in_err-attribute-in-None.result
    c.from_residual-in_err-attribute-in-None.ensures.1 in
    let none = optional_arguments_of_none_are_none _ a (ap (maybe_view g.M.MakeTexts.made) (sym c.in-None.is) ∙ same) in
    rw (p.1, p.2, none) (refused (λ k from to h. stops (c.in_err-attribute-in-None.ensures.parses k from to h)))

pub returns-in_err-id-in-None-clause-parses : goal.returns-in_err-id-in-None-clause-parses
returns-in_err-id-in-None-clause-parses g c = λ a same.
    rw (memory_is_err c.from_residual-in_err-id-in-None.result c.from_residual-in_err-id-in-None.ensures.1) no_memory

pub returns-in_err-attribute-in-None-2-clause-parses : goal.returns-in_err-attribute-in-None-2-clause-parses
returns-in_err-attribute-in-None-2-clause-parses g c = λ a same.
    rw (memory_is_err c.from_residual-in_err-attribute-in-None-2.result
    c.from_residual-in_err-attribute-in-None-2.ensures.1) no_memory

pub returns-in_err-add_inline-in-None-clause-parses : goal.returns-in_err-add_inline-in-None-clause-parses
returns-in_err-add_inline-in-None-clause-parses g c = λ a same.
    rw (memory_is_err c.from_residual-in_err-add_inline-in-None.result
    c.from_residual-in_err-add_inline-in-None.ensures.1) no_memory

pub returns-in_ok-add_inline-in-None-clause-parses : goal.returns-in_ok-add_inline-in-None-clause-parses
returns-in_ok-add_inline-in-None-clause-parses g c = λ a same.
    let v = g.M.MakeTexts.made in
    let f = g.M.MakeTexts.source c.args.self.now.texts.now in
    let attribute = c.in_ok-attribute-in-None-2.attribute in
    let none = optional_arguments_of_none_are_none _ a (ap (maybe_view v) (sym c.in-None.is) ∙ same) in
    rw none (
      message_reference c.args.name (option_map (identifier_view (λ s. s)) c.in_ok-attribute-in-None.attribute),
      goes_on c.in_ok-attribute-in-None.ensures.parses given,
      pushed_inline_is_added_as_placeable v _ _ _ c.in_ok-add_inline-in-None.ensures
          (view-MessageReference v c.in_ok-id-in-None.id attribute
          ∙ ap (λ x. message_reference x (option_map (identifier_view v) attribute)) c.in_ok-id-in-None.ensures
          ∙ ap (message_reference (f c.args.name)) c.in_ok-attribute-in-None-2.ensures),
    )
