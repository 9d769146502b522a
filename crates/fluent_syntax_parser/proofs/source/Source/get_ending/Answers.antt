use Rattle.std.proofs.Common.{sym, true≢false, ◌∙◌}
use Rattle.fluent_syntax_grammar.proofs.LineEnds.{no_eol_end_means_no_eol}
use Rattle.fluent_syntax_parser.proofs.patterns.LineEndings.{line_ending_read, ending_without_eol_is_text_end}
use Rattle.fluent_syntax_parser.proofs.source.Source.get_ending.Goals as goal

pub returns-in-Some-clause-parses : goal.returns-in-Some-clause-parses
returns-in-Some-clause-parses c =
    rw c.ending_at.ensures.seen (line_ending_read c.args.self.now.bytes.now _ _ (sym c.in-Some.ensures.eol))

pub returns-in-None-clause-parses : goal.returns-in-None-clause-parses
returns-in-None-clause-parses c = ending_without_eol_is_text_end c.args.self.now.bytes.now _ (sym c.in-None.ensures.eol)

pub returns-in-None-clause-further : goal.returns-in-None-clause-further
returns-in-None-clause-further c = λ eol.
    absurd (true≢false (sym eol ∙ no_eol_end_means_no_eol c.args.self.now.bytes.now _ (sym c.in-None.ensures.eol)))
