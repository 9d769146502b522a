use Rattle.std.proofs.Common.{[], ◌∷◌, ◌++◌, map, refl, ap, ◌∙◌, false, get_or}
use Rattle.fluent_syntax_tree.specs.declared.spans.Span.{Span}
use Rattle.fluent_syntax_names.specs.declared.mention.Mention.{Mention}
use Rattle.fluent_syntax_names.specs.declared.mention.Mention.TheVariants as says
use Rattle.fluent_syntax_names.specs.Mentions.{Mentions, mention_map, shifted_span}
use Rattle.fluent_syntax_names.proofs.Adding.{pushed_item_is_added, items_are_left_after_next, leaves_none}
use Rattle.fluent_syntax_names.proofs.name_index.add_shifted.Goals as goal

pub loop-mention-preserved : goal.loop-mention-preserved
loop-mention-preserved c =
    let all = λ (ms : Mentions Span) (tail : Mentions Span). map (mention_map (shifted_span c.args.base)) ms ++ tail in
    let one = λ (m : Mention Span) (tail : Mentions Span). mention_map (shifted_span c.args.base) m ∷ tail in
    let none : Mention Span = says.Message (record { start = 0; end = 0 }) false in
    let mention = get_or c.args.said.now c.loop-mention.mention-index none in
    record {
      left = items_are_left_after_next all one c.args.list.now.items c.loop-mention.list.items c.args.said.now
          c.loop-mention.mention-index (λ x xs tail. refl) c.push.new.self.items mention none
          c.loop-mention-test.true refl c.loop-mention.invariant.left
          (pushed_item_is_added c.loop-mention.list.items c.push.new.self.items
          (mention_map (shifted_span c.args.base) mention)
          (c.in_ok-push.ensures.items
          ∙ ap (λ m. c.loop-mention.list.items ++ (m ∷ [])) c.in_ok-shifted_mention.ensures));
    }

pub returns : goal.returns
returns c =
    let all = λ (ms : Mentions Span) (tail : Mentions Span). map (mention_map (shifted_span c.args.base)) ms ++ tail in
    let one = λ (m : Mention Span) (tail : Mentions Span). mention_map (shifted_span c.args.base) m ∷ tail in
    leaves_none all one c.args.list.now.items c.loop-mention.list.items c.args.said.now c.loop-mention.mention-index
    (λ tail. refl) c.loop-mention-test.false c.loop-mention.invariant.left
