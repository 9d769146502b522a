-- What is read of written trees, and what is readable of what was read.
use Rattle.std.specs.Prelude.{◌≡◌, ℕ, List, true, false, Result, Ok, Err}
use Rattle.fluent_syntax_tree.specs.Entry.{BodyTree, body_map}
use Rattle.fluent_syntax_tree.specs.Spans.{bytes_at}
use Rattle.fluent_syntax_tree.specs.View.{resource_view}
use Rattle.fluent_syntax_tree.specs.declared.ast.Resource.{Resource}
use Rattle.fluent_syntax_tree.specs.declared.edition.Edition.TheVariants.{One}
use Rattle.fluent_syntax_grammar.specs.Written.{Text, written}
use Rattle.fluent_syntax_grammar.specs.Readable.{is_readable}
use Rattle.fluent_syntax_grammar.specs.Joined.{joined_body}
use Rattle.fluent_syntax_grammar.specs.RoundTrip.{HasNoBareCr, HasNoCr}
use Rattle.fluent_syntax_parser.specs.Answers.{AnswersTiling}
use Rattle.fluent_syntax_parser.specs.declared.fault.ParseFault.{ParseFault}
use Rattle.fluent_syntax_parser.specs.declared.fault.ParseFault.TheVariants.{Syntax, Memory}

module _ {S : Type 0} (text : S → List ℕ) where
  -- The answer is that of parsing, by edition one, the text that the tree is written as without its junk.
  abbrev pub AnswersWritten : BodyTree Text → Result (Resource S) (ParseFault S) → Type 0
  AnswersWritten tree result =
      AnswersTiling text (body_map (bytes_at (written false tree))) One (written false tree) result

  -- The answer is Ok of the tree, text by text; or memory ran out.
  abbrev pub IsTree : BodyTree Text → Result (Resource S) (ParseFault S) → Type 0
  IsTree tree (Ok found) = resource_view text found ≡ tree
  IsTree tree (Err (Syntax found errors)) = ⊥
  IsTree tree (Err Memory) = Unit {0}

  -- If an LF follows every CR of the source, the answer's tree is readable once it is joined. If the source has no CR
  -- and the answer no error, the tree is joined already.
  abbrev pub AnswersReadable : (source : Text) → Result (Resource S) (ParseFault S) → Type 0
  AnswersReadable source (Ok found) =
      (HasNoBareCr source → is_readable One (joined_body (resource_view text found)) ≡ true)
      × (HasNoCr source → joined_body (resource_view text found) ≡ resource_view text found)
  AnswersReadable source (Err (Syntax found errors)) =
      HasNoBareCr source → is_readable One (joined_body (resource_view text found)) ≡ true
  AnswersReadable source (Err Memory) = Unit {0}
