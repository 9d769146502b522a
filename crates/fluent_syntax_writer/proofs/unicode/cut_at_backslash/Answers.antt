use Rattle.std.proofs.Common.{arith}
use Rattle.std.proofs.lemmas.Bool.{eqb-true}
use Rattle.std.proofs.lemmas.Str.{IsCharBoundary-after_ascii}
use Rattle.fluent_syntax_writer.proofs.unicode.cut_at_backslash.Goals as goal

pub split_at-requires-2 : goal.split_at-requires-2
split_at-requires-2 c =
    let found = rw c.as_bytes.ensures.value at c.in_ok-backslash.ensures in
    let inside = found.0.high in
    let is_backslash = eqb-true _ 92 found.1 in
    IsCharBoundary-after_ascii c.args.text.now _ c.utf8.text inside (omega arith)
