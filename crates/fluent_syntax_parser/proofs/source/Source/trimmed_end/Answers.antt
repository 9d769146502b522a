use Rattle.std.proofs.Common.{◌≤◌, ◌-◌, length, arith}
use Rattle.fluent_syntax_parser.proofs.scanning.Ranges.{trimmed_len_is_bounded}
use Rattle.fluent_syntax_parser.proofs.source.Source.trimmed_end.Goals as goal

pub overflow_add-result : goal.overflow_add-result
overflow_add-result c =
    let t = c.args.self.now.bytes.now in
    let most : c.trimmed_len.result ≤ length t - c.args.from =
    rw (c.trimmed_len.ensures, c.bytes_of.ensures) (trimmed_len_is_bounded t c.args.from c.args.to) in
    grind (arith, most)
