use Rattle.std.proofs.Common.{◌++◌, drop, map}
use Rattle.fluent_syntax_tree.specs.declared.spans.Span.{Span}
use Rattle.fluent_syntax_names.specs.Growing.{Leaves}
use Rattle.fluent_syntax_names.specs.Mentions.{Mentions, mention_map, shifted_span}
use Rattle.fluent_syntax_names.proofs.name_index.add_shifted.Given as goal

abbrev pub invariant-loop-mention : goal.invariant-loop-mention
invariant-loop-mention l =
    let all = λ (ms : Mentions Span) (tail : Mentions Span). map (mention_map (shifted_span l.base)) ms ++ tail in
    record { left : Leaves l.fn.list.items l.list.items (all (drop l.mention-index l.said)) (all l.said) }
