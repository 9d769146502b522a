use Rattle.std.proofs.Common.{◌≡◌, take}
use Rattle.std.specs.List.{flat_map}
use Rattle.fluent_syntax_tree.specs.Kind.{kind_of}
use Rattle.fluent_syntax_c.specs.Messages.{message_line}
use Rattle.fluent_syntax_c.proofs.messages.message_lines.Given as goal

abbrev pub invariant-loop-error : goal.invariant-loop-error
invariant-loop-error l =
    l.lines.items ≡ flat_map (λ e. message_line (kind_of e.kind)) (take l.error-index l.error-items)
