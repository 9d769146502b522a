-- What a caller asks for by a command's number.
use Rattle.std.specs.Prelude.{◌≡◌, ℕ, List}
use Rattle.fluent_syntax_tree.specs.Entry.{BodyTree}
use Rattle.ftl.specs.Answer.{IsAnswer}
use Rattle.ftl.specs.FromJson.{IsSpelled, IsTextOf}
use Rattle.ftl.specs.declared.outcome.Outcome.{Outcome}
use Rattle.ftl.specs.declared.outcome.Outcome.TheVariants.{Clean}
use Rattle.ftl.specs.declared.from_json.JsonFault.{JsonFault}
use Rattle.ftl.specs.declared.from_json.JsonFault.TheVariants as fault
use Rattle.fluent_syntax_c.specs.Arguments.{command_kind_number, from_json_number}
use Rattle.fluent_syntax_c.specs.declared.arguments.CommandKind.{CommandKind}
use Rattle.fluent_syntax_c.specs.declared.arguments.CommandKind.TheVariants.{Answer, FromJson}
use Rattle.fluent_syntax_c.specs.declared.status.Refusal.{Refusal}
use Rattle.fluent_syntax_c.specs.declared.status.Refusal.TheVariants.{Tree, Depth, Memory}

-- The text and the outcome are those that were asked for, of the input. A tree that is spelled as JSON has no errors.
abbrev pub IsAnswerOfKind : (expected : CommandKind) (input text : List ℕ) (outcome : Outcome) → Type 0
IsAnswerOfKind (Answer command) input text outcome = IsAnswer command input text outcome
IsAnswerOfKind FromJson input text outcome = IsTextOf input text × (outcome ≡ Clean)

-- The text and the outcome are those of the input by the command of the number.
abbrev pub IsCommandAnswer : (number : ℕ) (input text : List ℕ) (outcome : Outcome) → Type 0
IsCommandAnswer number input text outcome =
    (expected : CommandKind) × (command_kind_number expected ≡ number) × IsAnswerOfKind expected input text outcome

-- The input spells no tree as JSON.
abbrev pub SpellsNone : (input : List ℕ) → Type 0
SpellsNone input = (tree : BodyTree (List ℕ)) → ¬ (IsSpelled input tree)

-- The number asks for the text of a tree, and the input spells none.
abbrev pub IsNoTree : (number : ℕ) (input : List ℕ) → Type 0
IsNoTree number input = (number ≡ from_json_number) × SpellsNone input

-- why there is no text of a tree
abbrev pub refusal_of : JsonFault → Refusal
refusal_of (fault.Syntax line column) = Tree
refusal_of fault.Shape = Tree
refusal_of fault.TooDeep = Depth
refusal_of fault.Memory = Memory
