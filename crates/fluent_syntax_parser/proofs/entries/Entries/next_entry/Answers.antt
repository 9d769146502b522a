use Rattle.std.proofs.Common.{ap, arith, length}
use Rattle.fluent_syntax_parser.proofs.entry_forms.MadeEntries.{made_answer_of_spans_is_answer}
use Rattle.fluent_syntax_parser.proofs.tilings.PartsOfNext.{next_entry_has_parts_in_text}
use Rattle.fluent_syntax_parser.proofs.entries.Entries.next_entry.Goals as goal

pub returns-clause-next : goal.returns-clause-next
returns-clause-next c =
    let options = c.args.self.now.options in
    let t = c.args.self.now.source.bytes.now in
    made_answer_of_spans_is_answer options.comments options.edition t _ _ _ _ c.next_entry_with.ensures.next

pub returns-clause-parts : goal.returns-clause-parts
returns-clause-parts c =
    let options = c.args.self.now.options in
    let t = c.args.self.now.source.bytes.now in
    let same = ap (λ source. length source.bytes.now) c.next_entry_with.ensures.reads.text in
    let inside = c.next_entry_with.new.self.within in
    next_entry_has_parts_in_text t options.comments options.edition c.args.self.now.utf8 _ _ _ _
    (omega (arith, same, inside))
    c.args.self.now.reached
    (made_answer_of_spans_is_answer options.comments options.edition t _ _ _ _ c.next_entry_with.ensures.next)
