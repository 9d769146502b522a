use Rattle.std.proofs.Common.{◌∙◌, refl}
use Rattle.fluent_syntax_tree.proofs.Views.{view-Variant}
use Rattle.fluent_syntax_parser.proofs.reader.Reader.add_variant.Goals as goal

pub returns : goal.returns
returns g c = (_, c.in_ok-add.ensures.added, view-Variant g.M.MakeTexts.made _ ∙ rw c.in_ok-key.ensures refl)
