use Rattle.std.proofs.Common.{◌≡◌, ap, arith}
use Rattle.ftl_lsp.specs.Positions.{line_at, character_at}
use Rattle.ftl_lsp.proofs.PositionLemmas.{line_at-le, character_at-le, units-le}
use Rattle.ftl_lsp.proofs.documents.positions.next_position.Goals as goal

pub overflow_add-result : goal.overflow_add-result
overflow_add-result c =
    let t = c.args.text.now in
    let line : c.args.here.line ≡ line_at t c.args.at = ap (λ p. p.line) c.requires.position in
    omega (arith, line_at-le t c.args.at, c.requires.byte, c.requires.small)

pub overflow_add-result-else-is_line_end : goal.overflow_add-result-else-is_line_end
overflow_add-result-else-is_line_end c =
    let t = c.args.text.now in
    let character : c.args.here.character ≡ character_at t c.args.at = ap (λ p. p.character) c.requires.position in
    omega (arith, character_at-le t c.args.at, units-le, c.requires.byte, c.requires.small)
