use Rattle.std.proofs.Common.{◌≡◌, ◌++◌, ◌∙◌, OnOk, ap, codes, string_bytes, subst, sym}
use Rattle.fluent_syntax_tree.specs.Kind.{kind_of}
use Rattle.fluent_syntax_c.specs.Messages.{shown}
use Rattle.fluent_syntax_c.proofs.ErrorRows.{message_of_range_shows_its_bytes, append_of_three_regroups}
use Rattle.fluent_syntax_c.proofs.messages.add_message.Goals as goal

pub returns-in-ExpectedCharRange : goal.returns-in-ExpectedCharRange
returns-in-ExpectedCharRange c =
    let added = c.add_with-in-ExpectedCharRange in
    let bytes = c.as_str-in-ExpectedCharRange.result.now in
    subst (λ whole. OnOk added.result (added.new.lines.items ≡ whole))
    (append_of_three_regroups c.args.lines.now.items (codes "Expected one of \"") (shown bytes) (codes "\"")
    ∙ ap (λ message. c.args.lines.now.items ++ message)
    (sym (message_of_range_shows_its_bytes (kind_of c.args.kind.now) (string_bytes c.in-ExpectedCharRange.range) bytes
    (ap kind_of c.in-ExpectedCharRange.is) c.as_str-in-ExpectedCharRange.ensures.value))) added.ensures
