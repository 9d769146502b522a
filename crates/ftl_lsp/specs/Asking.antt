-- What a request asks of, and what its answer has.
use Rattle.std.specs.Prelude.{◌≡◌, ◌&&◌, ℕ, List, ⊤, Bool, Option, Some, None, is_some, option_and_then}
use Rattle.serde_json.specs.Data.{Data, null}
use Rattle.ftl_lsp.specs.Actions.{AreActions}
use Rattle.ftl_lsp.specs.Edits.{position_param_in}
use Rattle.ftl_lsp.specs.Formatting.{FormatsText}
use Rattle.ftl_lsp.specs.OpenDocuments.{OpenText}
use Rattle.ftl_lsp.specs.Params.{new_name_in, uri_in}
use Rattle.ftl_lsp.specs.RangeFormatting.{FormatsRange}
use Rattle.ftl_lsp.specs.Renaming.{RenamesName}
use Rattle.ftl_lsp.specs.declared.sessions.methods.Method.{Method}
use Rattle.ftl_lsp.specs.declared.sessions.methods.Method.TheVariants.{CodeAction, Formatting, RangeFormatting}
use Rattle.ftl_lsp.specs.declared.sessions.methods.Method.TheVariants.{Rename, Shutdown}

-- whether the message names a document that is open
abbrev pub names_open : (texts : List ℕ → Option OpenText) → Data → Bool
names_open texts d = is_some (option_and_then texts (uri_in d))

-- and a place
abbrev pub names_position : (texts : List ℕ → Option OpenText) → Data → Bool
names_position texts d = names_open texts d && is_some (position_param_in d)

-- and another name for what is there
abbrev pub renames_position : (texts : List ℕ → Option OpenText) → Data → Bool
renames_position texts d = names_position texts d && is_some (new_name_in d)

-- The result is the formatting of the document, if that is open.
abbrev pub IsFormattingOf : (document : Option OpenText) → (result : Data) → Type 0
IsFormattingOf (Some found) result = FormatsText found.text result
IsFormattingOf None result = ⊤

-- The same of a range of it.
abbrev pub IsRangeFormattingOf : (document : Option OpenText) → (result : Data) → Type 0
IsRangeFormattingOf (Some found) result = FormatsRange found.text result
IsRangeFormattingOf None result = ⊤

-- It is what the answer to a request of the method has. Of methods that aren't named here nothing is said.
abbrev pub IsResult : (texts : List ℕ → Option OpenText) → Data → Option Method → (result : Data) → Type 0
IsResult texts d (Some Formatting) result = IsFormattingOf (option_and_then texts (uri_in d)) result
IsResult texts d (Some RangeFormatting) result = IsRangeFormattingOf (option_and_then texts (uri_in d)) result
IsResult texts d (Some Rename) result = RenamesName texts d result
IsResult texts d (Some CodeAction) result = AreActions texts d result
IsResult texts d (Some Shutdown) result = result ≡ null
IsResult texts d _ result = ⊤
