use Rattle.std.proofs.Common.{ap}
use Rattle.fluent_syntax_tree.specs.Entry.{junk}
use Rattle.fluent_syntax_parser.proofs.reader.Reader.add_junk.Goals as goal

pub returns-clause-adds : goal.returns-clause-adds
returns-clause-adds g c = record {
  entry = _;
  error = _;
  added = c.in_ok-add.ensures.added;
  errors_are = c.in_ok-add-2.ensures.added;
  same = ap junk c.in_ok-content.ensures;
  fault = c.in_ok-error.ensures;
}
