-- Trees of which each text is a part of the source.
use Rattle.std.specs.Prelude.{ℕ, List, Result, Ok, Err}
use Rattle.fluent_syntax_tree.specs.Every.{body_every}
use Rattle.fluent_syntax_tree.specs.Spans.{IsTextRange}
use Rattle.fluent_syntax_tree.specs.View.{resource_view}
use Rattle.fluent_syntax_tree.specs.declared.ast.Resource.{Resource}
use Rattle.fluent_syntax_tree.specs.declared.spans.Span.{Span}
use Rattle.fluent_syntax_parser.specs.declared.fault.ParseFault.{ParseFault}
use Rattle.fluent_syntax_parser.specs.declared.fault.ParseFault.TheVariants.{Syntax, Memory}

-- each text of the tree is a part of the source
abbrev pub ResourceParts : List ℕ → Resource Span → Type 0
ResourceParts t tree = body_every (IsTextRange t) (resource_view (λ s. s) tree)

-- so is each text of the tree that parsing answers
abbrev pub HasParts : List ℕ → Result (Resource Span) (ParseFault Span) → Type 0
HasParts t (Ok tree) = ResourceParts t tree
HasParts t (Err (Syntax tree errors)) = ResourceParts t tree
HasParts t (Err Memory) = Unit {0}
