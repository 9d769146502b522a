use Rattle.std.proofs.Common.{◌+◌, drop, get_or, sym, ◌∙◌}
use Rattle.std.proofs.lemmas.List.{at_drop_more}
use Rattle.fluent_syntax_grammar.specs.Spellings.{is_number_rest}
use Rattle.fluent_syntax_writer.proofs.rules.Strings.{number_rest-digit}
use Rattle.fluent_syntax_writer.proofs.canonical.spellings.is_number_rest.Goals as goal

pub loop-index-preserved : goal.loop-index-preserved
loop-index-preserved c =
    let bytes = c.args.bytes.now in
    let i = c.loop-index.index in
    let next = at_drop_more is_number_rest bytes i 0 c.loop-index-test.true in
    let digit = sym c.is_ascii_digit.ensures.value ∙ c.if-not-is_ascii_digit.false in
    record {
      rest = sym (next ∙ number_rest-digit (get_or bytes i 0) (drop (i + 1) bytes) digit) ∙ c.loop-index.invariant.rest;
    }
