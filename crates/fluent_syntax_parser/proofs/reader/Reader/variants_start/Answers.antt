use Rattle.std.proofs.Common.{◌∙◌, refl}
use Rattle.std.proofs.lemmas.Result.{err_from_is_err_and}
use Rattle.fluent_syntax_grammar.specs.Construct.{stops, goes_on, passed}
use Rattle.fluent_syntax_parser.proofs.expressions.Selects.{non_selector_refused, select_start-no_fault}
use Rattle.fluent_syntax_parser.proofs.reader.Reader.variants_start.Goals as goal

pub returns-in_err-ptr-in-None-clause-parses : goal.returns-in_err-ptr-in-None-clause-parses
returns-in_err-ptr-in-None-clause-parses g c =
    let t = c.args.self.now.source.bytes.now in
    let is = c.in-None.ensures t c.args.ptr in
    let p = err_from_is_err_and c.from_residual.result c.from_residual.ensures.1 in
    rw (p.1, p.2) (λ k from to h. select_start-no_fault t _ _ is
    (goes_on (passed (record { by = refl }))
    (goes_on (passed c.skip_blank_inline-ptr.ensures.blank)
    (stops (c.in_err-ptr-in-None.ensures.parses k from to h)))))

pub returns-in-Some-clause-parses : goal.returns-in-Some-clause-parses
returns-in-Some-clause-parses g c =
    let t = c.args.self.now.source.bytes.now in
    let is = c.in-Some.ensures t c.args.ptr in
    λ k from to (a, b, d). rw (a, b ∙ is.1, d ∙ is.2) (non_selector_refused t c.args.ptr _ _ is.0)

pub returns-in_ok-ptr-in-None-clause-parses : goal.returns-in_ok-ptr-in-None-clause-parses
returns-in_ok-ptr-in-None-clause-parses g c =
    let t = c.args.self.now.source.bytes.now in
    let is = c.in-None.ensures t c.args.ptr in
    select_start-no_fault t _ _ is
    (goes_on (passed (record { by = refl }))
    (goes_on (passed c.skip_blank_inline-ptr.ensures.blank)
    (goes_on c.in_ok-ptr-in-None.ensures.parses
    (passed c.skip_blank.ensures.blank))))
