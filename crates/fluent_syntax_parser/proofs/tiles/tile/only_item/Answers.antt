use Rattle.std.proofs.Common.{◌≡◌, length, ap, arith, sym, ◌∙◌}
use Rattle.std.specs.Prelude.{vec_len}
use Rattle.fluent_syntax_parser.proofs.entry_forms.MadeEntries.{taken_is_only_item}
use Rattle.fluent_syntax_parser.proofs.tiles.tile.only_item.Goals as goal

pub returns : goal.returns
returns g c = λ item same.
    let size : vec_len c.args.items ≡ length c.args.items.items = omega (arith, c.args.items.ok.0) in
    taken_is_only_item item c.pop.result c.pop.new.self.items (sym same ∙ c.pop.ensures.items)
    (λ some. c.pop.ensures.variant.1 (omega (arith, size, ap length same, some)))
