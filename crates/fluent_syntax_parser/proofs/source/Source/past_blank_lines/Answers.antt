use Rattle.std.proofs.Common.{sym, arith}
use Rattle.fluent_syntax_grammar.specs.Places.{no_line, line}
use Rattle.fluent_syntax_parser.proofs.source.Source.past_blank_lines.Goals as goal

pub loop-next-preserved : goal.loop-next-preserved
loop-next-preserved c = record {
  forward = grind (arith);
  within = grind (arith);
  block = λ j h.
      c.loop-next.invariant.block j (line c.skip_blank_inline-first.ensures.blank (sym c.in-Some.ensures.eol) h);
}

pub returns-in-None-clause-blank : goal.returns-in-None-clause-blank
returns-in-None-clause-blank c =
    c.loop-next.invariant.block _ (no_line c.skip_blank_inline-first.ensures.blank (sym c.in-None.ensures.eol))
