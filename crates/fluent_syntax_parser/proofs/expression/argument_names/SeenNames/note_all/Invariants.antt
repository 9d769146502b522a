use Rattle.std.proofs.Common.{◌≡◌, take}
use Rattle.fluent_syntax_parser.specs.Gathered.{names_in_order}
use Rattle.fluent_syntax_grammar.specs.NameKeys.{NotesAll}
use Rattle.fluent_syntax_parser.proofs.expression.argument_names.SeenNames.note_all.Given as goal

abbrev pub invariant-loop-index : goal.invariant-loop-index
invariant-loop-index l = record {
  names : l.self.names ≡ l.fn.self.names;
  noted :
      NotesAll (λ k. k.now) l.self.table.keys (names_in_order l.source.bytes.now (take l.index l.self.names.items));
}
