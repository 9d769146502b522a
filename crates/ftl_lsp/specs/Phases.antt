-- How far a session is, and what it refuses there.
use Rattle.std.specs.Prelude.{ℕ, ℤ, negsuc, List, codes, Option, Some, None}
use Rattle.ftl_lsp.specs.declared.sessions.endings.Ending.{Ending}
use Rattle.ftl_lsp.specs.declared.sessions.endings.Ending.TheVariants as endings
use Rattle.ftl_lsp.specs.declared.sessions.methods.Method.{Method}
use Rattle.ftl_lsp.specs.declared.sessions.methods.Method.TheVariants.{Initialize, Shutdown, DocumentSymbol}
use Rattle.ftl_lsp.specs.declared.sessions.methods.Method.TheVariants.{Formatting, FoldingRange, DidOpen, DidChange}
use Rattle.ftl_lsp.specs.declared.sessions.methods.Method.TheVariants.{DidClose, DidSave, Exit}
use Rattle.ftl_lsp.specs.declared.sessions.methods.Method.TheVariants.{Definition, References, DocumentHighlight}
use Rattle.ftl_lsp.specs.declared.sessions.methods.Method.TheVariants.{Hover, Completion, WorkspaceSymbol}
use Rattle.ftl_lsp.specs.declared.sessions.methods.Method.TheVariants as methods
use Rattle.ftl_lsp.specs.declared.sessions.methods.Method.TheVariants.{SemanticTokens, Initialized}
use Rattle.ftl_lsp.specs.declared.sessions.methods.Method.TheVariants.{CodeAction, DidChangeWatchedFiles, PrepareRename}
use Rattle.ftl_lsp.specs.declared.sessions.methods.Method.TheVariants.{SelectionRange, DidChangeWorkspaceFolders}
use Rattle.ftl_lsp.specs.declared.sessions.methods.Method.TheVariants.{RangeFormatting}
use Rattle.ftl_lsp.specs.declared.sessions.phases.Phase.{Phase}
use Rattle.ftl_lsp.specs.declared.sessions.phases.Phase.TheVariants.{Fresh, Running, ShutDown, Exited, Left}
use Rattle.ftl_lsp.specs.declared.sessions.phases.ErrorCode.{ErrorCode}
use Rattle.ftl_lsp.specs.declared.sessions.phases.ErrorCode.TheVariants.{ParseError, InvalidRequest, MethodNotFound}
use Rattle.ftl_lsp.specs.declared.sessions.phases.ErrorCode.TheVariants.{InvalidParams, NotInitialized, Rename}
use Rattle.ftl_lsp.specs.declared.sessions.phases.RenameFault.{RenameFault}
use Rattle.ftl_lsp.specs.declared.sessions.phases.RenameFault.TheVariants.{NoName, VariableOrFunction}
use Rattle.ftl_lsp.specs.declared.sessions.phases.RenameFault.TheVariants.{NoIdentifier, Taken}

-- the numbers of the protocol: `negsuc n` is the negative of n and one
abbrev pub number_of : ErrorCode → ℤ
number_of ParseError = negsuc 32699
number_of InvalidRequest = negsuc 32599
number_of MethodNotFound = negsuc 32600
number_of InvalidParams = negsuc 32601
number_of NotInitialized = negsuc 32001
number_of (Rename fault) = negsuc 32601

abbrev pub text_of_rename : RenameFault → List ℕ
text_of_rename NoName = codes "there is no name at this place"
text_of_rename VariableOrFunction = codes "a variable or a function can't be renamed"
text_of_rename NoIdentifier = codes "the new name is no identifier: a letter, and then letters, digits, - and _"
text_of_rename Taken = codes "the new name is taken: a document or a file defines it"

abbrev pub text_of : ErrorCode → List ℕ
text_of ParseError = codes "the message is no JSON text"
text_of InvalidRequest = codes "the request has no place here"
text_of MethodNotFound = codes "the method is not known"
text_of InvalidParams = codes "the parameters name no open document, or no position or new name there"
text_of NotInitialized = codes "the server is not initialized"
text_of (Rename fault) = text_of_rename fault

-- what is refused of requests before `initialize`: all but that
abbrev pub refusal_before : Option Method → Option ErrorCode
refusal_before (Some Initialize) = None
refusal_before _ = Some NotInitialized

-- what is refused after it: that again, and what is no request that is known
abbrev pub refusal_after : Option Method → Option ErrorCode
refusal_after (Some Initialize) = Some InvalidRequest
refusal_after (Some Shutdown) = None
refusal_after (Some DocumentSymbol) = None
refusal_after (Some Formatting) = None
refusal_after (Some FoldingRange) = None
refusal_after (Some Definition) = None
refusal_after (Some References) = None
refusal_after (Some DocumentHighlight) = None
refusal_after (Some Hover) = None
refusal_after (Some methods.Rename) = None
refusal_after (Some Completion) = None
refusal_after (Some WorkspaceSymbol) = None
refusal_after (Some SemanticTokens) = None
refusal_after (Some PrepareRename) = None
refusal_after (Some SelectionRange) = None
refusal_after (Some CodeAction) = None
refusal_after (Some RangeFormatting) = None
refusal_after (Some DidOpen) = Some MethodNotFound
refusal_after (Some DidChange) = Some MethodNotFound
refusal_after (Some DidClose) = Some MethodNotFound
refusal_after (Some DidSave) = Some MethodNotFound
refusal_after (Some Exit) = Some MethodNotFound
refusal_after (Some Initialized) = Some MethodNotFound
refusal_after (Some DidChangeWatchedFiles) = Some MethodNotFound
refusal_after (Some DidChangeWorkspaceFolders) = Some MethodNotFound
refusal_after None = Some MethodNotFound

-- after `shutdown` every request is refused
abbrev pub refusal_of : Phase → Option Method → Option ErrorCode
refusal_of Fresh method = refusal_before method
refusal_of Running method = refusal_after method
refusal_of ShutDown method = Some InvalidRequest
refusal_of Exited method = Some InvalidRequest
refusal_of Left method = Some InvalidRequest

-- `initialize` begins a session, if it has not begun
abbrev pub begun : Option Method → Phase
begun (Some Initialize) = Running
begun _ = Fresh

-- `shutdown` stops one that runs
abbrev pub stopped : Option Method → Phase
stopped (Some Shutdown) = ShutDown
stopped _ = Running

abbrev pub after_request : Phase → Option Method → Phase
after_request Fresh method = begun method
after_request Running method = stopped method
after_request ShutDown method = ShutDown
after_request Exited method = Exited
after_request Left method = Left

-- `exit` leads to the phase, and nothing else does
abbrev pub exited : (to from : Phase) → Option Method → Phase
exited to from (Some Exit) = to
exited to from _ = from

abbrev pub after_notification : Phase → Option Method → Phase
after_notification Fresh method = exited Left Fresh method
after_notification Running method = exited Left Running method
after_notification ShutDown method = exited Exited ShutDown method
after_notification Exited method = Exited
after_notification Left method = Left

abbrev pub ending_of : Phase → Option Ending
ending_of Fresh = None
ending_of Running = None
ending_of ShutDown = None
ending_of Exited = Some endings.Exited
ending_of Left = Some endings.Left
