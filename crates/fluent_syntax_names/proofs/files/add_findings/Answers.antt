use Rattle.std.proofs.Common.{false, refl, get_or, ◌∙◌}
use Rattle.fluent_syntax_tree.specs.declared.spans.Span.{Span}
use Rattle.fluent_syntax_names.specs.declared.mention.Mention.{Mention}
use Rattle.fluent_syntax_names.specs.declared.mention.Mention.TheVariants as says
use Rattle.fluent_syntax_names.specs.Cycles.{no_pattern}
use Rattle.fluent_syntax_names.specs.ReferenceGraphs.{set_by}
use Rattle.fluent_syntax_names.specs.Findings.{findings_in, nothing, after}
use Rattle.fluent_syntax_names.specs.Knowing.{knows}
use Rattle.fluent_syntax_names.specs.FirstPlaces.{place_of}
use Rattle.fluent_syntax_names.proofs.Growing.{finding_of_held_tables_is_known, findings_are_left_after_next_mention}
use Rattle.fluent_syntax_names.proofs.Growing.{findings_at_last_mention_are_all}
use Rattle.fluent_syntax_names.proofs.files.add_findings.Goals as goal

pub loop-mention-init : goal.loop-mention-init
loop-mention-init c = (nothing, c.new-noted.ensures, λ rest. refl)

pub loop-mention-preserved : goal.loop-mention-preserved
loop-mention-preserved c =
    let here = c.args.here.now in
    let D = knows here.known in
    let A = set_by D here.cycles.now in
    let names = place_of c.loop-mention.noted.names.table in
    let parts = place_of c.loop-mention.noted.parts.table in
    let none : Mention Span = says.Message (record { start = 0; end = 0 }) false in
    let mention = get_or c.args.mentions.now c.loop-mention.mention-index none in
    let known = c.loop-mention.invariant.0 in
    let holds = c.loop-mention.invariant.1 in
    let left =
    findings_are_left_after_next_mention A here.file here.text.now c.args.list.now.items c.loop-mention.list.items
    (findings_in A here.file here.text.now nothing no_pattern c.args.mentions.now) c.args.mentions.now
    c.loop-mention.mention-index c.add_finding.new.list.items c.add_finding-in-loop-mention.new.list.items known
    c.loop-mention.pattern mention none c.in_ok-finding.finding c.in_ok-cycle.cycle c.loop-mention-test.true refl
    (c.in_ok-finding.ensures.finding
    ∙ finding_of_held_tables_is_known here.file here.text.now D names parts known holds mention)
    c.in_ok-cycle.ensures c.loop-mention.invariant.2 c.in_ok-add_finding.ensures c.in_ok-add_finding-2.ensures in
    let noted = c.in_ok-finding.ensures.noted known holds in
    (after here.text.now known mention, noted, rw c.pattern_after-pattern.ensures left)

pub returns : goal.returns
returns c =
    let A = set_by (knows c.args.here.now.known) c.args.here.now.cycles.now in
    let here = c.args.here.now in
    findings_at_last_mention_are_all A here.file here.text.now c.args.list.now.items c.loop-mention.list.items
    (findings_in A here.file here.text.now nothing no_pattern c.args.mentions.now) c.args.mentions.now
    c.loop-mention.mention-index c.loop-mention.invariant.0 c.loop-mention.pattern c.loop-mention-test.false
    c.loop-mention.invariant.2
