use Rattle.std.proofs.Common.{◌≡◌, drop, map}
use Rattle.fluent_syntax_tree.specs.View.{entry_view}
use Rattle.fluent_syntax_writer.specs.Uncanonical.{first_from, first_uncanonical}
use Rattle.fluent_syntax_writer.proofs.canonical.broken_rules.first_uncanonical.Given as goal

abbrev pub invariant-loop-index : goal.invariant-loop-index
invariant-loop-index g l =
    let view = entry_view g.T.ReadTexts.text in
    record {
      rest :
          first_from l.check.edition l.index (map view (drop l.index l.entries))
          ≡ first_uncanonical l.check.edition (map view l.entries);
    }
