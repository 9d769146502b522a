use Rattle.std.proofs.Common.{◌++◌, [], map, sym, ap, ◌∙◌}
use Rattle.std.proofs.lemmas.Result.{on_ok_weaker}
use Rattle.fluent_syntax_tree.specs.View.{entry_view}
use Rattle.fluent_syntax_tree.specs.declared.spans.Span.{Span}
use Rattle.fluent_syntax_names.specs.Mentions.{Mentions, mention_map, shifted_span}
use Rattle.fluent_syntax_names.proofs.Mapped.{mentions_of_mapped_entry_are_mapped}
use Rattle.fluent_syntax_names.proofs.name_index.NameIndex.add.Goals as goal

pub returns-clause-mentions : goal.returns-clause-mentions
returns-clause-mentions c =
    let f = shifted_span c.args.base in
    let e = entry_view {S = Span} {X = Span} (λ x. x) c.args.entry.now in
    let old = c.args.self.now.mentions.items in
    let new = c.add_shifted.new.list.items in
    let same = c.deref.ensures.value ∙ c.in_ok-said.ensures in
    let beyond = λ (rest : Mentions Span).
    ap (λ ms. old ++ (map (mention_map f) ms ++ rest)) same
    ∙ ap (λ l. old ++ l) (sym (mentions_of_mapped_entry_are_mapped f rest e [])) in
    on_ok_weaker c.add_shifted.result (λ adds rest. adds rest ∙ beyond rest) c.add_shifted.ensures
