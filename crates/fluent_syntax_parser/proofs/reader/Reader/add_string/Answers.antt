use Rattle.std.proofs.Common.{◌∙◌, ap}
use Rattle.std.proofs.lemmas.Result.{err_from_is_err_and}
use Rattle.fluent_syntax_tree.specs.Tree.{string_literal}
use Rattle.fluent_syntax_tree.proofs.Views.{view-StringLiteral}
use Rattle.fluent_syntax_grammar.specs.Construct.{stops, goes_on, given}
use Rattle.fluent_syntax_grammar.specs.Starts as starts
use Rattle.fluent_syntax_parser.specs.Outcomes.{no_memory, refused}
use Rattle.fluent_syntax_parser.proofs.expressions.InlineStarts.{inline_of_its_start_is_inline}
use Rattle.fluent_syntax_parser.proofs.expressions.LastPlaced.{pushed_inline_is_added_as_placeable}
use Rattle.fluent_syntax_parser.proofs.readers.Fails.{memory_is_err}
use Rattle.fluent_syntax_parser.proofs.reader.Reader.add_string.Goals as goal

pub returns-in_err-value-clause-parses : goal.returns-in_err-value-clause-parses
returns-in_err-value-clause-parses g c = λ n.
    let p = err_from_is_err_and c.from_residual.result c.from_residual.ensures.1 in
    rw (p.1, p.2) (refused (λ k from to h.
    inline_of_its_start_is_inline c.args.self.now.source.bytes.now _ _ starts.quote _ c.requires.starts
    (stops (c.in_err-value.ensures.parses k from to h))))

pub returns-in_err-value-2-clause-parses : goal.returns-in_err-value-2-clause-parses
returns-in_err-value-2-clause-parses g c = λ n.
    rw (memory_is_err c.from_residual-in_err-value-2.result c.from_residual-in_err-value-2.ensures.1) no_memory

pub returns-in_err-add_inline-clause-parses : goal.returns-in_err-add_inline-clause-parses
returns-in_err-add_inline-clause-parses g c = λ n.
    rw (memory_is_err c.from_residual-in_err-add_inline.result c.from_residual-in_err-add_inline.ensures.1) no_memory

pub returns-clause-parses : goal.returns-clause-parses
returns-clause-parses g c = λ n.
    let v = g.M.MakeTexts.made in (
      _,
      inline_of_its_start_is_inline c.args.self.now.source.bytes.now _ _ starts.quote _ c.requires.starts
          (goes_on c.in_ok-value.ensures.parses
          given),
      pushed_inline_is_added_as_placeable v _ _ _ c.in_ok-add_inline.ensures
          (view-StringLiteral v c.in_ok-value-2.value ∙ ap string_literal c.in_ok-value-2.ensures),
    )
