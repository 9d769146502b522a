use Rattle.std.proofs.Common.{◌-◌, length, sym, arith}
use Rattle.std.proofs.lemmas.Bool.{ne_eqb}
use Rattle.fluent_syntax_grammar.proofs.TextEnds.{last_lf_is_taken_off, other_last_stays}
use Rattle.fluent_syntax_grammar.proofs.texts.without_last_lf.Goals as goal

pub returns-then-last-eq10 : goal.returns-then-last-eq10
returns-then-last-eq10 c =
    sym (last_lf_is_taken_off c.args.bytes.now (length c.args.bytes.now - 1) (omega arith) c.if-last-eq10.true)

pub returns-else-last-eq10 : goal.returns-else-last-eq10
returns-else-last-eq10 c =
    let other = ne_eqb _ _ c.if-last-eq10.false in
    sym (other_last_stays c.args.bytes.now (length c.args.bytes.now - 1) (omega arith) other)
