use Rattle.std.proofs.Common.{◌≡◌, ◌++◌, take}
use Rattle.fluent_syntax_names.specs.Rows.{texts_at, texts_of}
use Rattle.fluent_syntax_names.proofs.message_references.add_followed.Given as goal

abbrev pub invariant-loop-name : goal.invariant-loop-name
invariant-loop-name l = record {
  added : texts_at l.names.items ≡ texts_at l.fn.names.items ++ texts_of (take l.name-index l.more);
}
