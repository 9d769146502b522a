use Rattle.std.proofs.Common.{false, refl, get_or}
use Rattle.fluent_syntax_tree.specs.declared.spans.Span.{Span}
use Rattle.fluent_syntax_names.specs.declared.mention.Mention.{Mention}
use Rattle.fluent_syntax_names.specs.declared.mention.Mention.TheVariants as says
use Rattle.fluent_syntax_names.specs.QualifiedNames.{nameless}
use Rattle.fluent_syntax_names.specs.MissingParts.{uses, used_in}
use Rattle.fluent_syntax_names.specs.FirstPlaces.{place_of}
use Rattle.fluent_syntax_names.proofs.Gathering.{names_are_left_after_next_mention, names_at_last_mention_are_all}
use Rattle.fluent_syntax_names.proofs.uses.note_uses.Goals as goal

pub loop-mention-preserved : goal.loop-mention-preserved
loop-mention-preserved c =
    let none : Mention Span = says.Message (record { start = 0; end = 0 }) false in
    let mention = get_or c.args.mentions.now c.loop-mention.mention-index none in
    let left =
    names_are_left_after_next_mention (place_of c.args.table.now.table) (place_of c.loop-mention.table.table)
    (place_of c.note_use.new.table.table) (used_in c.args.text.now nameless c.args.mentions.now)
    (uses c.args.text.now) c.loop-mention.owner c.args.mentions.now c.loop-mention.mention-index mention none
    c.loop-mention-test.true refl c.loop-mention.invariant.left c.in_ok-note_use.ensures in
    record { left = rw c.owner_after-owner.ensures left }

pub returns : goal.returns
returns c =
    names_at_last_mention_are_all (place_of c.args.table.now.table) (place_of c.loop-mention.table.table)
    (place_of c.loop-mention.table.table) (used_in c.args.text.now nameless c.args.mentions.now)
    (uses c.args.text.now) c.loop-mention.owner c.args.mentions.now c.loop-mention.mention-index
    c.loop-mention-test.false
    c.loop-mention.invariant.left
