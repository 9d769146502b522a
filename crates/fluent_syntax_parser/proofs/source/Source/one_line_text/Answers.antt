use Rattle.std.proofs.Common.{◌≡◌, ◌≤◌, arith, length, subst}
use Rattle.fluent_syntax_parser.specs.OneLine.{EndsLine}
use Rattle.fluent_syntax_parser.proofs.patterns.OneLine.{blank_pattern_read, one_run_is_read_as_pattern}
use Rattle.fluent_syntax_parser.proofs.source.Source.one_line_text.Goals as goal

pub returns-then-start-to-clause-opens : goal.returns-then-start-to-clause-opens
returns-then-start-to-clause-opens c = λ n i blank.
    let a = c.in_ok-text_end in
    let within : a.text_end ≤ length c.args.self.now.bytes.now =
    omega (arith, a.ensures.within.1, a.ensures.within.2) in
    rw c.trimmed_end.ensures
    (one_run_is_read_as_pattern c.args.edition c.args.self.now.bytes.now n _ _ c.run_end-to.ensures.run
    c.if-start-to.true i a.text_end
    a.next c.in_ok-end.end blank a.ensures.ending a.ensures.within.0 within c.in_ok-end.ensures.lines)

pub returns-else-start-to-clause-opens : goal.returns-else-start-to-clause-opens
returns-else-start-to-clause-opens c = λ n i blank.
    let t = c.args.self.now.bytes.now in
    let a = c.in_ok-text_end in
    let same : c.run_end-to.result ≡ c.args.start =
    omega (arith, c.run_end-to.ensures.run.forward, c.if-start-to.false) in
    blank_pattern_read c.args.edition t n c.args.start i a.text_end a.next c.in_ok-end.end blank
    (subst (λ k. EndsLine t k a.text_end a.next) same a.ensures.ending) c.in_ok-end.ensures.lines
