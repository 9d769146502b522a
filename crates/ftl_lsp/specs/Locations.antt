-- Places in documents as the protocol gives them, as JSON values.
use Rattle.std.specs.Prelude.{ℕ, List, length, min, codes}
use Rattle.serde_json.specs.Data.{Data, number, unsigned, string, object, member, no_members}
use Rattle.fluent_syntax_tree.specs.declared.spans.Span.{Span}
use Rattle.ftl_lsp.specs.Positions.{position_at}
use Rattle.ftl_lsp.specs.declared.documents.positions.Position.{Position}

abbrev pub position_form : Position → Data
position_form position =
    object (member (codes "character") (number (unsigned position.character))
    (member (codes "line") (number (unsigned position.line)) no_members))

abbrev pub range_form : (start end : Position) → Data
range_form start end =
    object (member (codes "end") (position_form end) (member (codes "start") (position_form start) no_members))

-- the range of a stretch of the text: what lies beyond the text counts as its end
abbrev pub span_form : List ℕ → Span → Data
span_form t span =
    range_form (position_at t (min span.start (length t))) (position_at t (min span.end (length t)))

-- the edit that puts a text in place of a stretch
abbrev pub edit_form : (t new : List ℕ) → Span → Data
edit_form t new span =
    object (member (codes "newText") (string new) (member (codes "range") (span_form t span) no_members))
