use Rattle.std.proofs.Common.{sym, ◌∙◌}
use Rattle.fluent_syntax_tree.specs.Spans.{bytes_at}
use Rattle.fluent_syntax_parser.proofs.scanning.Names.{name_is_used, name_is_not_used_up_to_next}
use Rattle.fluent_syntax_parser.proofs.source.Source.has_name.Goals as goal

pub returns-then-eq : goal.returns-then-eq
returns-then-eq c =
    let t = c.args.self.now.bytes.now in
    let test = sym c.eq.ensures ∙ c.if-eq.true in
    let same = rw (c.bytes_of.ensures, c.bytes_of-in-loop-other.ensures) at test in
    sym (name_is_used t (bytes_at t c.args.name) c.args.names.now c.loop-other.other-index _ c.loop-other-test.true
    same)

pub loop-other-preserved : goal.loop-other-preserved
loop-other-preserved c =
    let t = c.args.self.now.bytes.now in
    let test = sym c.eq.ensures ∙ c.if-eq.false in
    let same = rw (c.bytes_of.ensures, c.bytes_of-in-loop-other.ensures) at test in
    name_is_not_used_up_to_next t
    (bytes_at t c.args.name) c.args.names.now c.loop-other.other-index _ c.loop-other-test.true
    c.loop-other.invariant same
