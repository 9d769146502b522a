use Rattle.std.proofs.Common.{◌≡◌, ◌≤◌, map, drop, length}
use Rattle.std.specs.List.{flat_map}
use Rattle.fluent_syntax_grammar.specs.Layout.{least, counted}
use Rattle.fluent_syntax_parser.specs.Lines.{line_view}
use Rattle.fluent_syntax_parser.proofs.pattern.indents.common_indent.Given as goal

abbrev pub invariant-loop-first : goal.invariant-loop-first
invariant-loop-first g l = record {
  within : l.first ≤ length l.lines;
  so_far : l.common ≡ least (flat_map (counted l.edition) (map (line_view g.M.MakeTexts.made) (drop l.first l.lines)));
}

abbrev pub decreases-loop-first : goal.decreases-loop-first
decreases-loop-first g l = l.first
