use Rattle.std.proofs.Common.{length, ◌+◌, ◌<◌, refl, arith}
use Rattle.std.proofs.lemmas.Option.{slice_get-get_or, slice_get_past}
use Rattle.std.proofs.lemmas.Result.{err_from_is_err_and}
use Rattle.fluent_syntax_grammar.specs.Construct.{Read, Refused, stops, goes_on, given, at_place, passed, chosen}
use Rattle.fluent_syntax_parser.proofs.scanning.LineEnds.{rest_of_line_is_read}
use Rattle.fluent_syntax_parser.proofs.source.Source.get_comment_line.Goals as goal

pub returns-then-ptr-self-clause-parses : goal.returns-then-ptr-self-clause-parses
returns-then-ptr-self-clause-parses c =
    let t = c.args.self.now.bytes.now in
    let end = slice_get_past t (c.args.ptr + c.args.level) (omega (arith, c.if-ptr-self.true)) in
    goes_on (passed (record { by = refl })) (chosen (rw end given))

pub returns-then-is_eol_at-clause-parses : goal.returns-then-is_eol_at-clause-parses
returns-then-is_eol_at-clause-parses c =
    let t = c.args.self.now.bytes.now in
    let start = c.args.ptr + c.args.level in
    let inside : start < length t = omega (arith, c.requires, c.if-ptr-self.false) in
    goes_on (passed (record { by = refl }))
    (chosen (rw (slice_get-get_or t start 0 inside)
    (goes_on (chosen {i = start} {o = Read (record { start = start; end = start }) start}
    (rw (← c.if-is_eol_at.ensures) (goes_on at_place (goes_on at_place given))))
    (goes_on c.skip_eol.ensures.parses
    given))))

pub returns-in_err-start-clause-parses : goal.returns-in_err-start-clause-parses
returns-in_err-start-clause-parses c =
    let t = c.args.self.now.bytes.now in
    let start = c.args.ptr + c.args.level in
    let inside : start < length t = omega (arith, c.requires, c.if-ptr-self.false) in
    let p = err_from_is_err_and c.from_residual.result c.from_residual.ensures.1 in
    rw (p.1, p.2) (λ k from to h.
    goes_on (passed (record { by = refl }))
    (chosen {i = start} {o = Refused k from to} (rw (slice_get-get_or t start 0 inside)
    (stops (chosen {i = start} {o = Refused k from to} (rw (← c.if-is_eol_at.ensures)
    (stops (c.in_err-start.ensures.parses k from to h))))))))

pub returns-clause-parses : goal.returns-clause-parses
returns-clause-parses c =
    let t = c.args.self.now.bytes.now in
    let start = c.args.ptr + c.args.level in
    let end = c.line_end-end.result in
    let inside : start < length t = omega (arith, c.requires, c.if-ptr-self.false) in
    goes_on (passed (record { by = refl }))
    (chosen (rw (slice_get-get_or t start 0 inside)
    (goes_on (chosen {i = start} {o = Read (record { start = c.in_ok-start.start; end = end }) end}
    (rw (← c.if-is_eol_at.ensures)
    (goes_on c.in_ok-start.ensures.parses
    (rest_of_line_is_read t _ _ c.line_end-end.ensures.line))))
    (goes_on c.skip_eol-2.ensures.parses
    given))))
