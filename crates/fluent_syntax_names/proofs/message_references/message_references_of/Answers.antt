use Rattle.std.proofs.Common.{[], List, map, Vec, ℕ, false, refl, sym, subst, get_or}
use Rattle.std.specs.declared.alloc.Global.{Global}
use Rattle.fluent_syntax_tree.specs.declared.spans.Span.{Span}
use Rattle.fluent_syntax_names.specs.NamedLists.{numbers_of}
use Rattle.fluent_syntax_names.specs.Rows.{HasReferences, rows_of, texts_of}
use Rattle.fluent_syntax_names.specs.declared.mention.Mention.{Mention}
use Rattle.fluent_syntax_names.specs.declared.mention.Mention.TheVariants as says
use Rattle.fluent_syntax_names.proofs.MessageReferences.{HasReferences-none, references_are_left_after_next_mention}
use Rattle.fluent_syntax_names.proofs.MessageReferences.{references_at_last_mention_are_all}
use Rattle.fluent_syntax_names.proofs.message_references.message_references_of.Goals as goal

pub loop-mention-init : goal.loop-mention-init
loop-mention-init c =
    let number = numbers_of c.new.result in
    let empty : HasReferences [] number (rows_of c.new.result) =
    subst (λ (l : List (List (Vec ℕ Global))). HasReferences [] number (map texts_of l)) (sym c.new.ensures.lists)
    (HasReferences-none number c.new.ensures.numbers) in
    record { left = ([], empty, refl) }

pub add_mention-requires : goal.add_mention-requires
add_mention-requires c = (c.loop-mention.invariant.left.0, c.loop-mention.invariant.left.1)

pub loop-mention-preserved : goal.loop-mention-preserved
loop-mention-preserved c =
    let none : Mention Span = says.Message (record { start = 0; end = 0 }) false in
    let mention = get_or c.args.mentions.now c.loop-mention.mention-index none in
    let left =
    references_are_left_after_next_mention c.args.text.now c.loop-mention.message_references c.args.mentions.now
    c.loop-mention.mention-index
    c.add_mention.new.self c.loop-mention.owner mention none c.loop-mention-test.true refl
    c.loop-mention.invariant.left c.in_ok-add_mention.ensures in
    record { left = rw c.owner_after-owner.ensures left }

pub returns : goal.returns
returns c =
    references_at_last_mention_are_all c.args.text.now c.loop-mention.message_references c.args.mentions.now
    c.loop-mention.mention-index
    c.loop-mention.owner c.loop-mention-test.false c.loop-mention.invariant.left
