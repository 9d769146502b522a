use Rattle.std.proofs.Common.{[], false, refl, get_or}
use Rattle.fluent_syntax_tree.specs.declared.spans.Span.{Span}
use Rattle.fluent_syntax_names.specs.declared.mention.Mention.{Mention}
use Rattle.fluent_syntax_names.specs.declared.mention.Mention.TheVariants as says
use Rattle.fluent_syntax_names.specs.QualifiedNames.{nameless}
use Rattle.fluent_syntax_names.specs.MissingParts.{missing_parts_in}
use Rattle.fluent_syntax_names.specs.ComparisonTables.{other_by}
use Rattle.fluent_syntax_names.proofs.MissingParts.{missing_parts_are_left_after_next_mention}
use Rattle.fluent_syntax_names.proofs.MissingParts.{missing_parts_at_last_mention_are_all}
use Rattle.fluent_syntax_names.proofs.comparison.missing_parts_by.Goals as goal

pub loop-mention-init : goal.loop-mention-init
loop-mention-init c = record { left = λ rest. rw c.new-list.ensures.items refl }

pub loop-mention-preserved : goal.loop-mention-preserved
loop-mention-preserved c =
    let tables = c.args.tables.now in
    let D = other_by tables in
    let text = tables.text.now in
    let none : Mention Span = says.Message (record { start = 0; end = 0 }) false in
    let mention = get_or c.args.mentions.now c.loop-mention.mention-index none in
    let left =
    missing_parts_are_left_after_next_mention D text [] c.loop-mention.list.items
    (missing_parts_in D text nameless c.args.mentions.now) c.loop-mention.owner
    c.args.mentions.now c.loop-mention.mention-index c.add_missing_part.new.list.items mention none
    c.in_ok-missing.missing
    c.loop-mention-test.true refl c.in_ok-missing.ensures c.loop-mention.invariant.left c.in_ok-add_missing_part.ensures
    in
    record { left = rw c.owner_after-owner.ensures left }

pub returns : goal.returns
returns c =
    let tables = c.args.tables.now in
    let D = other_by tables in
    missing_parts_at_last_mention_are_all D tables.text.now [] c.loop-mention.list.items
    (missing_parts_in D tables.text.now nameless c.args.mentions.now)
    c.loop-mention.owner c.args.mentions.now c.loop-mention.mention-index c.loop-mention-test.false
    c.loop-mention.invariant.left
