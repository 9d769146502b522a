use Rattle.std.proofs.Common.{◌≡◌, map, take, string_bytes}
use Rattle.fluent_syntax_writer.proofs.joined.texts.comment.Given as goal

abbrev pub invariant-loop-line : goal.invariant-loop-line
invariant-loop-line g l =
    map string_bytes l.content.items ≡ map g.T.ReadTexts.text (take l.line-index l.line-items)
