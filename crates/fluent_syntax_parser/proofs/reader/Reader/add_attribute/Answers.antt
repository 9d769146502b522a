use Rattle.std.proofs.Common.{refl, subst}
use Rattle.std.proofs.lemmas.Result.{err_from_is_err_and}
use Rattle.fluent_syntax_grammar.specs.Construct.{Read}
use Rattle.fluent_syntax_grammar.specs.Entries.{attribute_of}
use Rattle.fluent_syntax_grammar.specs.Grammar.{within}
use Rattle.fluent_syntax_parser.specs.Made.{made}
use Rattle.fluent_syntax_parser.specs.Outcomes.{no_memory}
use Rattle.fluent_syntax_parser.proofs.readers.Fails.{memory_is_err}
use Rattle.fluent_syntax_parser.proofs.reader.Reader.add_attribute.Goals as goal

pub returns-in_err-ranges-clause-adds : goal.returns-in_err-ranges-clause-adds
returns-in_err-ranges-clause-adds g c =
    let p = err_from_is_err_and c.from_residual.result c.from_residual.ensures.1 in
    rw (p.1, p.2) (c.in_err-ranges.ensures.finds, refl)

pub returns-in_err-id-clause-adds : goal.returns-in_err-id-clause-adds
returns-in_err-id-clause-adds g c =
    rw (memory_is_err c.from_residual-in_err-id.result c.from_residual-in_err-id.ensures.1) (no_memory, refl)

pub returns-in_err-add-clause-adds : goal.returns-in_err-add-clause-adds
returns-in_err-add-clause-adds g c =
    rw (memory_is_err c.from_residual-in_err-add.result c.from_residual-in_err-add.ensures.1)
    (no_memory, c.in_err-add.ensures.stays)

pub returns-clause-adds : goal.returns-clause-adds
returns-clause-adds g c =
    let t = c.args.self.now.source.bytes.now in
    let edition = c.args.self.now.edition in
    let R = within edition t c.args.nesting in
    let end = c.in_ok-ranges.ranges.span.end in
    let (a, parts, begins, same) = c.in_ok-ranges.ensures.finds in (
      _,
      c.in_ok-add.ensures.added,
      made (subst (λ i. attribute_of edition t R i (Read a end)) begins parts.whole)
          (rw (c.in_ok-id.ensures, same, parts.named) refl),
    )
