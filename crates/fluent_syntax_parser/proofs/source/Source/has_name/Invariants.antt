use Rattle.std.proofs.Common.{◌≡◌, take, false}
use Rattle.fluent_syntax_tree.specs.Spans.{bytes_at}
use Rattle.fluent_syntax_grammar.specs.Arguments.{is_used}
use Rattle.fluent_syntax_parser.specs.Gathered.{names_in_order}
use Rattle.fluent_syntax_parser.proofs.source.Source.has_name.Given as goal

abbrev pub invariant-loop-other : goal.invariant-loop-other
invariant-loop-other l =
    let t = l.self.bytes.now in
    is_used (bytes_at t l.name) (names_in_order t (take l.other-index l.names)) ≡ false
