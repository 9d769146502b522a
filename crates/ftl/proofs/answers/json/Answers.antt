use lib.Utf8
use Rattle.std.proofs.Common.{◌++◌, ◌∙◌, ap, codes}
use Rattle.serde_json.specs.Written.{compact_text}
use Rattle.fluent_syntax_json.specs.Form.{body_form}
use Rattle.fluent_syntax_tree.specs.Entry.{body_map}
use Rattle.fluent_syntax_tree.specs.Spans.{bytes_at}
use Rattle.fluent_syntax_grammar.specs.Body.{body}
use Rattle.ftl.proofs.WroteEntries.{written_entries_are_json}
use Rattle.ftl.proofs.answers.json.Goals as goal

pub returns-clause-text : goal.returns-clause-text
unfolding lib.Utf8.encode
returns-clause-text c =
    let read = c.in_ok-outcome.ensures.written in
    let has = written_entries_are_json read.2
    (record { start = c.new.result; is_empty = c.new.ensures.bytes; wrote = c.new-writer.ensures.wrote_none }) in
    let text = compact_text (body_form (body_map (bytes_at c.args.text.now) (body read.0))) in
    let taken = rw c.in-Ok.is at (c.finish-line.ensures.taken has.start _ has.wrote) in
    let bytes = taken.appended ∙ ap (λ before. before ++ text) has.is_empty in
    (read.0, read.1, c.in_ok-push-in-Ok.ensures.bytes ∙ ap (λ before. before ++ codes "\n") bytes, read.3)
