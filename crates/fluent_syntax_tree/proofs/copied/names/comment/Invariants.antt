use Rattle.std.proofs.Common.{◌≡◌, map, take}
use Rattle.fluent_syntax_tree.proofs.copied.names.comment.Given as goal

abbrev pub invariant-loop-line : goal.invariant-loop-line
invariant-loop-line g l =
    map g.C.CopyTexts.made l.content.items ≡ map (g.C.CopyTexts.source l.by) (take l.line-index l.line-items)
