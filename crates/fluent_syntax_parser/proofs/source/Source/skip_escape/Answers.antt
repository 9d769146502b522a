use Rattle.std.proofs.Common.{refl, arith}
use Rattle.std.proofs.lemmas.Option.{gets}
use Rattle.fluent_syntax_grammar.specs.Bytes.{capital_u, small_u}
use Rattle.fluent_syntax_grammar.specs.Construct.{Refused, goes_on, failed, passed, chosen, first, second}
use Rattle.fluent_syntax_grammar.specs.Strings.{hex_digits}
use Rattle.fluent_syntax_parser.specs.Strings.{escape}
use Rattle.fluent_syntax_parser.proofs.readers.Carried.{ParsesEnd-same_outcomes}
use Rattle.fluent_syntax_parser.proofs.scanning.StringBytes.{decimal_32, simple_escape_passes_its_test}
use Rattle.fluent_syntax_parser.proofs.scanning.StringBytes.{other_byte_fails_simple_escape_test}
use Rattle.fluent_syntax_parser.proofs.scanning.StringBytes.{unequal_bytes_fail_equality_test}
use Rattle.fluent_syntax_parser.proofs.source.Source.skip_escape.Goals as goal

pub returns-in-None-clause-parses : goal.returns-in-None-clause-parses
returns-in-None-clause-parses c =
    λ k from to (a, b, d). chosen {o = Refused k from to} (rw (a, b, d, ← c.in-None.ensures, decimal_32) (failed refl))

pub returns-in-Some-eq92-clause-parses : goal.returns-in-Some-eq92-clause-parses
returns-in-Some-eq92-clause-parses c =
    chosen
    (rw (← c.in-Some-eq92.ensures)
    (first (simple_escape_passes_its_test _ c.in-Some-eq92.field-0-test)
    (passed
    (record { by = refl }))))

pub returns-in-Some-eq92-clause-within : goal.returns-in-Some-eq92-clause-within
returns-in-Some-eq92-clause-within c = grind (arith, gets)

pub returns-in-Some-eq117-clause-parses : goal.returns-in-Some-eq117-clause-parses
returns-in-Some-eq117-clause-parses c =
    let t = c.args.self.now.bytes.now in
    let found = rw c.in-Some-eq117.field-0-test at c.in-Some-eq117.ensures in
    ParsesEnd-same_outcomes t (hex_digits t 4) (escape t) _ _ _
    (λ o h. chosen {o = o} (rw (← found)
    (second refl
    (first refl
    (goes_on (passed (record { by = refl })) h)))))
    c.skip_hex.ensures.parses

pub returns-in-Some-eq85-clause-parses : goal.returns-in-Some-eq85-clause-parses
returns-in-Some-eq85-clause-parses c =
    let t = c.args.self.now.bytes.now in
    let found = rw c.in-Some-eq85.field-0-test at c.in-Some-eq85.ensures in
    ParsesEnd-same_outcomes t (hex_digits t 6) (escape t) _ _ _
    (λ o h. chosen {o = o} (rw (← found)
    (second refl
    (second refl
    (first refl
    (goes_on (passed (record { by = refl })) h))))))
    c.skip_hex-in-Some-eq85.ensures.parses

pub returns-in-Some-clause-parses : goal.returns-in-Some-clause-parses
returns-in-Some-clause-parses c =
    let test = c.in-Some.byte-test in
    λ k from to (a, b, d). chosen {o = Refused k from to}
    (rw (a, b, d, ← c.in-Some.ensures)
    (second (other_byte_fails_simple_escape_test _ test.0.0.1)
    (second (unequal_bytes_fail_equality_test _ small_u test.0.1)
    (second (unequal_bytes_fail_equality_test _ capital_u test.1)
    (failed refl)))))
