use Rattle.std.proofs.Common.{false, refl, get_or}
use Rattle.fluent_syntax_tree.specs.declared.spans.Span.{Span}
use Rattle.fluent_syntax_names.specs.Cycles.{links_in, no_pattern}
use Rattle.fluent_syntax_names.specs.declared.mention.Mention.{Mention}
use Rattle.fluent_syntax_names.specs.declared.mention.Mention.TheVariants as says
use Rattle.fluent_syntax_names.proofs.Linking.{links_are_left_after_next_mention, links_at_last_mention_are_all}
use Rattle.fluent_syntax_names.proofs.reference_graph.ReferenceGraph.add_file.Goals as goal

pub loop-mention-init : goal.loop-mention-init
loop-mention-init c = record { left = λ before has_edges. (before, has_edges, λ rest. refl) }

pub add_reference-requires : goal.add_reference-requires
add_reference-requires c =
    let first = c.loop-mention.invariant.left c.requires.0 c.requires.1 in (first.0, first.1)

pub loop-mention-preserved : goal.loop-mention-preserved
loop-mention-preserved c =
    let text = c.args.text.now in
    let none : Mention Span = says.Message (record { start = 0; end = 0 }) false in
    let mention = get_or c.args.mentions.now c.loop-mention.mention-index none in
    let adds_links = rw c.referenced_pattern.ensures at c.in_ok-add_reference.ensures in
    let left =
    links_are_left_after_next_mention text
    (links_in text no_pattern c.args.mentions.now) c.args.self.now c.loop-mention.self
    c.args.mentions.now c.loop-mention.mention-index c.add_reference.new.self c.loop-mention.pattern mention none
    c.loop-mention-test.true refl c.loop-mention.invariant.left adds_links in
    record { left = rw c.pattern_after-pattern.ensures left }

pub returns : goal.returns
returns c =
    links_at_last_mention_are_all c.args.text.now
    (links_in c.args.text.now no_pattern c.args.mentions.now) c.args.self.now
    c.loop-mention.self c.args.mentions.now c.loop-mention.mention-index c.loop-mention.pattern
    c.loop-mention-test.false c.loop-mention.invariant.left
