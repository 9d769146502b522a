-- The faults of the grammar that errors report.
use Rattle.std.specs.Prelude.{ℕ, List, Option, option_map}
use Rattle.fluent_syntax_tree.specs.Kind.{kind_of}
use Rattle.fluent_syntax_tree.specs.declared.errors.ParserError.{ParserError}
use Rattle.fluent_syntax_tree.specs.declared.spans.Span.{Span}
use Rattle.fluent_syntax_grammar.specs.Tiling.{Fault}
use Rattle.fluent_syntax_parser.specs.declared.fault.Refusal.{Refusal}
use Rattle.fluent_syntax_parser.specs.Outcomes.{kind_at, from_of, to_of}

-- the fault that an error reports, where it says which stretch became junk
abbrev pub fault_of : ParserError → Option Fault
fault_of e = option_map (λ slice. record {
  kind = kind_of e.kind;
  pos = record { start = e.pos.start; end = e.pos.end };
  slice = record { start = slice.start; end = slice.end };
}) e.slice

-- the fault that a refusal is, whose junk is that stretch of the text
abbrev pub refused_as : List ℕ → Refusal → Span → Fault
refused_as t r junk = record {
  kind = kind_at t r.fault r.from r.place;
  pos = record { start = from_of r.fault r.from r.place; end = to_of r.fault r.place };
  slice = junk;
}
