use Rattle.std.proofs.Common.{◌≡◌, ◌-◌, [], length}
use Rattle.fluent_syntax_tree.specs.Entry.{BodyTree}
use Rattle.fluent_syntax_grammar.specs.Written.{Text}
use Rattle.fluent_syntax_parser.specs.Halts.{DeeperFrom}
use Rattle.ftl.specs.OneByOne.{WroteEntries}
use Rattle.ftl.proofs.ReadTo.{ReadTo}
use Rattle.ftl.proofs.one_by_one.write_one_by_one.Given as goal

abbrev pub invariant-loop-errors : goal.invariant-loop-errors
invariant-loop-errors g l = let t = l.fn.text in let asked = l.fn.options in
    let deeper = DeeperFrom asked t in record {
      text : l.entries.source.bytes.now ≡ t;
      options : l.entries.options ≡ asked;
      no_entry : l.body.items ≡ [];
      no_error : l.errors.items ≡ [];
      so_far : (tree : BodyTree Text) × WroteEntries g.W.WriteEntries.writes l.initial.writer tree l.writer ×
          ReadTo asked.comments asked.edition t l.entries.ptr tree l.outcome;
      deeper : (deeper l.entries.ptr → deeper 0) × (deeper 0 → deeper l.entries.ptr);
    }

abbrev pub decreases-loop-errors : goal.decreases-loop-errors
decreases-loop-errors g l = length l.fn.text - l.entries.ptr
