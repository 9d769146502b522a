use Rattle.std.proofs.Common.{Option, sym, subst}
use Rattle.std.specs.Prelude.{OnOk}
use Rattle.fluent_syntax_names.specs.Cycles.{link_to}
use Rattle.fluent_syntax_names.specs.ReferenceGraphs.{AddsLinks}
use Rattle.fluent_syntax_names.specs.declared.qualified_names.PatternName.{PatternName}
use Rattle.fluent_syntax_names.proofs.reference_graph.ReferenceGraph.add_reference.Goals as goal

pub returns-in-Some : goal.returns-in-Some
returns-in-Some c =
    let adds_links = λ (target : Option PatternName).
    OnOk c.add_link.result
    (AddsLinks c.args.self.now c.add_link.new.self (link_to c.args.text.now c.args.pattern target)) in
    subst adds_links (sym c.in-Some.is) c.add_link.ensures
