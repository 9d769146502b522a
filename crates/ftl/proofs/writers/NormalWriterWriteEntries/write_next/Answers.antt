use Rattle.std.proofs.Common.{◌∙◌, ap, subst, sym}
use Rattle.std.specs.Prelude.{◌≡◌, ◌&&◌}
use Rattle.fluent_syntax_grammar.specs.Canonical.{canonical_rules}
use Rattle.fluent_syntax_grammar.specs.Rules.{entry_obeys}
use Rattle.fluent_syntax_tree.specs.View.{entry_view}
use Rattle.ftl.proofs.WroteEntries.{asked_rules_hold_after}
use Rattle.ftl.proofs.writers.NormalWriterWriteEntries.write_next.Goals as goal

pub returns : goal.returns
returns c = record {
  written = record {
    added = λ {edition} {asks} {tree} has. record {
      start = has.start;
      is_empty = has.is_empty;
      wrote = c.write_entry.ensures.written has.start tree has.wrote;
      no_junk = ap (λ options. options.with_junk) c.write_entry.ensures.options ∙ has.no_junk;
      by_edition = has.by_edition;
      canonical =
          let all = c.args.self.now.all_canonical in
          let e = entry_view (λ s. s.now) c.args.entry.now in
          c.are_canonical_with-self.ensures
          ∙ ap (λ edition. all && entry_obeys (canonical_rules edition) e) has.by_edition
          ∙ asked_rules_hold_after asks (canonical_rules edition) tree e all has.canonical;
    };
  };
}
