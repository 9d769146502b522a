-- A value and the tree that it represents.
use Rattle.std.specs.Prelude.{◌≡◌, Some}
use Rattle.serde_json.specs.Data.{Data}
use Rattle.fluent_syntax_tree.specs.Entry.{BodyTree}
use Rattle.fluent_syntax_json.specs.Object.{Text}
use Rattle.fluent_syntax_json.specs.Form.{body_form}
use Rattle.fluent_syntax_json.specs.Reading.{body_in}

-- the value is the JSON form of the tree
abbrev pub JsonForm : BodyTree Text → Data → Type 0
JsonForm r v = v ≡ body_form r

-- the value spells the tree
abbrev pub JsonReads : Data → BodyTree Text → Type 0
JsonReads v r = body_in v ≡ Some r
