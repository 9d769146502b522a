-- Trees and errors apart, of what parsing answers.
use Rattle.std.proofs.Common.{◌≡◌, ◌≢◌, List, ℕ, map, Ok, Err, Result, Some, sym, ap, ◌∙◌}
use Rattle.fluent_syntax_tree.specs.View.{resource_view}
use Rattle.fluent_syntax_tree.specs.declared.ast.Resource.{Resource}
use Rattle.fluent_syntax_tree.specs.declared.errors.ParserError.{ParserError}
use Rattle.fluent_syntax_tree.specs.declared.spans.Span.{Span}
use Rattle.fluent_syntax_grammar.specs.Body.{body, faults}
use Rattle.fluent_syntax_grammar.specs.Tiling.{Tile}
use Rattle.fluent_syntax_parser.specs.Answers.{Answers}
use Rattle.fluent_syntax_parser.specs.Faults.{fault_of}
use Rattle.fluent_syntax_parser.specs.Parts.{HasParts, ResourceParts}
use Rattle.fluent_syntax_parser.specs.declared.fault.ParseFault.{ParseFault}
use Rattle.fluent_syntax_parser.specs.declared.fault.ParseFault.TheVariants.{Syntax, Memory}
use Rattle.fluent_syntax.specs.Recovered.{HasRecovered}

module _ (tree : Resource Span) (errors : List ParserError) where
  -- they are those of the tiles that were answered
  pub recovered_tree_is_that_of_tiles : (tiles : List Tile) (answer : Result (Resource Span) (ParseFault Span)) →
      Answers (λ s. s) (λ b. b) tiles answer → HasRecovered answer tree errors →
      (resource_view (λ s. s) tree ≡ body tiles) × (map fault_of errors ≡ map Some (faults tiles))
  recovered_tree_is_that_of_tiles tiles (Ok whole) stated is =
      (ap (resource_view (λ s. s)) is.0 ∙ stated.0, ap (map fault_of) is.1 ∙ sym (ap (map Some) stated.1))
  recovered_tree_is_that_of_tiles tiles (Err (Syntax whole found)) stated is =
      (ap (resource_view (λ s. s)) is.0 ∙ stated.0, ap (map fault_of) is.1 ∙ stated.1)
  recovered_tree_is_that_of_tiles tiles (Err Memory) stated is = absurd is

  -- the texts of the tree are parts of the source, as those of the answer
  pub recovered_tree_has_parts : (t : List ℕ) (answer : Result (Resource Span) (ParseFault Span)) → HasParts t answer →
      HasRecovered answer tree errors → ResourceParts t tree
  recovered_tree_has_parts t (Ok whole) parts is = rw is.0 parts
  recovered_tree_has_parts t (Err (Syntax whole found)) parts is = rw is.0 parts
  recovered_tree_has_parts t (Err Memory) parts is = absurd is

  -- want of memory has neither
  pub recovered_answer_is_no_memory_error : (answer : Result (Resource Span) (ParseFault Span)) →
      HasRecovered answer tree errors → answer ≢ Err Memory
  recovered_answer_is_no_memory_error (Ok whole) is = λ e. cc
  recovered_answer_is_no_memory_error (Err (Syntax whole found)) is = λ e. cc
  recovered_answer_is_no_memory_error (Err Memory) is = absurd is
