use Rattle.std.proofs.Common.{[], ◌∷◌, ◌∙◌, ap, string_bytes}
use Rattle.fluent_syntax_tree.specs.View.{entry_view}
use Rattle.fluent_syntax_edits.proofs.OneEntry.{one_entry_is_written}
use Rattle.fluent_syntax_edits.proofs.edit.entry_text.Goals as goal

pub returns-in-Ok : goal.returns-in-Ok
returns-in-Ok c =
    let e = entry_view (λ s. string_bytes s) c.args.entry.now in
    let options = c.write_entry.ensures.options ∙ c.new-writer.ensures.options in
    let no_junk = ap (λ options. options.with_junk) options ∙ c.default.ensures in
    let came = c.write_entry.ensures.written c.new.result [] c.new-writer.ensures.wrote_none in
    let taken = rw c.in-Ok.is at (c.finish-text.ensures.taken c.new.result (e ∷ []) came) in
    one_entry_is_written _ _ _ e taken.appended c.new.ensures.bytes no_junk
