use Rattle.std.proofs.Common.{arith}
use Rattle.std.proofs.lemmas.Option.{MatchOption-at_none, MatchOption-at_some}
use Rattle.std.proofs.lemmas.Str.Pattern.{strip_suffix_char}
use Rattle.ftl_project.proofs.LineEnds.{line_with_cr_is_stripped, line_without_cr_stays}
use Rattle.ftl_project.proofs.reporting.line.strip_carriage_return.Goals as goal

pub returns-in-Some : goal.returns-in-Some
returns-in-Some c =
    let cases = strip_suffix_char 13 c.args.line.now _ c.strip_suffix.ensures.cases (omega arith) in
    line_with_cr_is_stripped c.args.line.now c.in-Some.front.now (MatchOption-at_some _ _ _ c.in-Some.is cases)

pub returns-in-None : goal.returns-in-None
returns-in-None c =
    let cases = strip_suffix_char 13 c.args.line.now _ c.strip_suffix.ensures.cases (omega arith) in
    line_without_cr_stays c.args.line.now (MatchOption-at_none _ _ c.in-None.is cases)
