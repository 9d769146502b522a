use Rattle.std.proofs.Common.{◌≡◌, drop, map}
use Rattle.fluent_syntax_tree.specs.View.{entry_view}
use Rattle.fluent_syntax_grammar.specs.Readable.{is_readable}
use Rattle.fluent_syntax_writer.proofs.canonical.broken_rules.are_readable.Given as goal

abbrev pub invariant-loop-entry : goal.invariant-loop-entry
invariant-loop-entry g l =
    let view = entry_view g.T.ReadTexts.text in
    record {
      rest : is_readable l.check.edition (map view (drop l.entry-index l.entries))
          ≡ is_readable l.check.edition (map view l.entries);
    }
