-- Why an attribute isn't read.
use Rattle.std.specs.Prelude.{◌≡◌, ℕ, List, Option, Some, None}
use Rattle.fluent_syntax_tree.specs.Entry.{AttributeTree}
use Rattle.fluent_syntax_tree.specs.Kind.{kind_of}
use Rattle.fluent_syntax_tree.specs.declared.edition.Edition.{Edition}
use Rattle.fluent_syntax_tree.specs.declared.errors.ParserError.{ParserError}
use Rattle.fluent_syntax_tree.specs.declared.spans.Span.{Span}
use Rattle.fluent_syntax_grammar.specs.Construct.{Read, Refused}
use Rattle.fluent_syntax_grammar.specs.Entries.{attribute}

-- An attribute is refused at the place as the error says; or one is read there.
abbrev pub IsAttributeRefusal : Edition → List ℕ → ℕ → Option ParserError → Type 0
IsAttributeRefusal edition t i (Some error) =
    attribute edition t i (Refused (kind_of error.kind) error.pos.start error.pos.end) × (error.slice ≡ None)
IsAttributeRefusal edition t i None =
    (a : AttributeTree Span) × (end : ℕ) × attribute edition t i (Read a end)
