use Rattle.std.proofs.Common.{List, map, drop, false}
use Rattle.fluent_syntax_tree.specs.View.{entry_view}
use Rattle.fluent_syntax_tree.specs.declared.ast.Entry.{Entry}
use Rattle.fluent_syntax_grammar.proofs.Remaining.{RemainingBytes}
use Rattle.fluent_syntax_json.specs.Writing.{entries_text}
use Rattle.fluent_syntax_json.proofs.writing.entries.write_entries.Given as goal

abbrev pub invariant-loop-entry : goal.invariant-loop-entry
invariant-loop-entry g l =
    let views = λ (xs : List (Entry g.row.X.Denot)). map (entry_view g.T.ReadTexts.text) xs in
    let left = entries_text l.later (views (drop l.entry-index l.entries)) in
    let all = entries_text false (views l.entries) in
    record { rest : RemainingBytes g.W.TextSink.text g.W.TextSink.room l.initial.writer l.writer left all }
