-- What a session does with its messages: what it knows then, and what it sends.
use Rattle.std.specs.Prelude.{◌≡◌, ◌≢◌, ◌&&◌, ℕ, List, ⊤, Bool, true, false, Option, Some, None}
use Rattle.std.specs.Prelude.{IfSome, IfNone, is_some, option_and_then}
use Rattle.std.specs.Str.{IsUtf8}
use Rattle.serde_json.specs.Data.{Data, Items, null}
use Rattle.serde_json.specs.Read.{read}
use Rattle.ftl_lsp.specs.Asking.{IsResult, names_open, names_position, renames_position}
use Rattle.ftl_lsp.specs.Edits.{Edit, edits_in}
use Rattle.ftl_lsp.specs.Messages.{message_in, request, notification, response, invalid}
use Rattle.ftl_lsp.specs.Methods.{name_of}
use Rattle.ftl_lsp.specs.Notices.{notice_form}
use Rattle.ftl_lsp.specs.OpenDocuments.{MakesOpen, OpenText, Sets, texts}
use Rattle.ftl_lsp.specs.Params.{changes_in, opened_text_in, uri_in, version_in}
use Rattle.ftl_lsp.specs.Phases.{after_notification, after_request, refusal_of}
use Rattle.ftl_lsp.specs.Replies.{IsSent, Reply, silence, answered, refused, diagnosed, withdrawn, watch}
use Rattle.ftl_lsp.specs.declared.sessions.methods.Method.{Method}
use Rattle.ftl_lsp.specs.declared.sessions.methods.Method.TheVariants.{DocumentSymbol, Formatting, FoldingRange}
use Rattle.ftl_lsp.specs.declared.sessions.methods.Method.TheVariants.{Definition, References, DocumentHighlight}
use Rattle.ftl_lsp.specs.declared.sessions.methods.Method.TheVariants.{Hover, Rename, Completion, SemanticTokens}
use Rattle.ftl_lsp.specs.declared.sessions.methods.Method.TheVariants.{DidOpen, DidChange, DidClose, DidSave}
use Rattle.ftl_lsp.specs.declared.sessions.methods.Method.TheVariants.{CodeAction, Initialized, PrepareRename}
use Rattle.ftl_lsp.specs.declared.sessions.methods.Method.TheVariants.{RangeFormatting, SelectionRange}
use Rattle.ftl_lsp.specs.declared.sessions.notices.Notice.{Notice}
use Rattle.ftl_lsp.specs.declared.sessions.phases.ErrorCode.{ErrorCode}
use Rattle.ftl_lsp.specs.declared.sessions.phases.ErrorCode.TheVariants.{ParseError, InvalidRequest, InvalidParams}
use Rattle.ftl_lsp.specs.declared.sessions.phases.ErrorCode.TheVariants as errors
use Rattle.ftl_lsp.specs.declared.sessions.phases.Phase.{Phase}
use Rattle.ftl_lsp.specs.declared.sessions.phases.Phase.TheVariants.{Running}
use Rattle.ftl_lsp.specs.declared.sessions.server.Server.{Server}

-- How far a session is, and what is open in it under each name.
pub record Session : Type 0 where
  pub phase : Phase
  pub texts : (name : List ℕ) → Option OpenText

abbrev pub session_of : Server → Session
session_of server = record { phase = server.phase; texts = texts server.documents }

-- The method has the name; there is none where no method that is known has it.
abbrev pub IsMethod : (name : List ℕ) → Option Method → Type 0
IsMethod name method =
    IfSome method (λ known. name_of known ≡ name) × IfNone method ((known : Method) → name_of known ≢ name)

-- whether the parameters of a request are those that its method asks for
abbrev pub fits : (texts : List ℕ → Option OpenText) → Data → Option Method → Bool
fits texts d (Some DocumentSymbol) = names_open texts d
fits texts d (Some Formatting) = names_open texts d
fits texts d (Some FoldingRange) = names_open texts d
fits texts d (Some SemanticTokens) = names_open texts d
fits texts d (Some SelectionRange) = names_open texts d
fits texts d (Some CodeAction) = names_open texts d
fits texts d (Some RangeFormatting) = names_open texts d
fits texts d (Some Definition) = names_position texts d
fits texts d (Some References) = names_position texts d
fits texts d (Some DocumentHighlight) = names_position texts d
fits texts d (Some Hover) = names_position texts d
fits texts d (Some Completion) = names_position texts d
fits texts d (Some PrepareRename) = names_position texts d
fits texts d (Some Rename) = renames_position texts d
fits texts d _ = true

-- Why a request that its phase allows is refused: its parameters don't fit; or, of a renaming whose parameters do, what
-- is at the place can't have the new name.
abbrev pub RefusesFor : Option Method → (fitting : Bool) → ErrorCode → Type 0
RefusesFor method false code = code ≡ InvalidParams
RefusesFor (Some Rename) true (errors.Rename fault) = ⊤
RefusesFor method true code = ⊥

-- What is found for a request of the method, where its phase has none against it.
pub record Finds (old : Session) (d : Data) (method : Option Method) (result : Data) :
    Type 0 where
  pub allowed : refusal_of old.phase method ≡ None
  pub fitting : fits old.texts d method ≡ true
  pub is_result : IsResult old.texts d method result

-- What a request of the method, with that identifier, does: it is refused, by its phase, for its parameters or for what
-- it would rename, and nothing changes; or it is answered by what is found.
pub data TakesRequest (old : Session) (id d : Data) (method : Option Method) :
    Reply → (new : Session) → Type 0 where
  is_out_of_phase : (code : ErrorCode) (new : Session) → refusal_of old.phase method ≡ Some code → new ≡ old →
      TakesRequest old id d method (refused id code) new
  finds_none : (code : ErrorCode) (new : Session) → refusal_of old.phase method ≡ None →
      RefusesFor method (fits old.texts d method) code → new ≡ old → TakesRequest old id d method (refused id code) new
  finds : (result : Data) (new : Session) → Finds old d method result →
      new ≡ record { phase = after_request old.phase method; texts = old.texts } →
      TakesRequest old id d method (answered id result) new

-- whether a notification changes a document, or has its diagnostics reported, while the session runs
abbrev pub concerns : (texts : List ℕ → Option OpenText) → Data → Option Method → Bool
concerns texts d (Some DidOpen) = is_some (uri_in d) && is_some (opened_text_in d)
concerns texts d (Some DidChange) = names_open texts d && is_some (option_and_then edits_in (changes_in d))
concerns texts d (Some DidClose) = names_open texts d
concerns texts d (Some DidSave) = names_open texts d
concerns texts d _ = false

-- What a notification of the method makes of the open documents while the session runs, and what is sent for it.
module _ (old : List ℕ → Option OpenText) (d : Data) where
  pub data HandlesNotification : Option Method → Reply → (new : List ℕ → Option OpenText) → Type 0 where
    opens : (uri text : List ℕ) (new : List ℕ → Option OpenText) → uri_in d ≡ Some uri →
        opened_text_in d ≡ Some text → Sets old uri (Some (record { text = text; version = version_in d })) new →
        HandlesNotification (Some DidOpen) (diagnosed uri (record { text = text; version = version_in d })) new
    changes : (uri : List ℕ) (items : Items) (edits : List Edit) (before after : OpenText)
        (new : List ℕ → Option OpenText) → uri_in d ≡ Some uri → changes_in d ≡ Some items →
        edits_in items ≡ Some edits → old uri ≡ Some before → MakesOpen before (version_in d) edits after →
        Sets old uri (Some after) new → HandlesNotification (Some DidChange) (diagnosed uri after) new
    closes : (uri : List ℕ) (new : List ℕ → Option OpenText) → uri_in d ≡ Some uri → is_some (old uri) ≡ true →
        Sets old uri None new → HandlesNotification (Some DidClose) (withdrawn uri) new
    saves : (uri : List ℕ) (found : OpenText) (new : List ℕ → Option OpenText) → uri_in d ≡ Some uri →
        old uri ≡ Some found → new ≡ old → HandlesNotification (Some DidSave) (diagnosed uri found) new
    watches : (new : List ℕ → Option OpenText) → new ≡ old → HandlesNotification (Some Initialized) watch new
    passes : (method : Option Method) (new : List ℕ → Option OpenText) → concerns old d method ≡ false → new ≡ old →
        HandlesNotification method silence new

-- the diagnostics of a document that is open, if it is
abbrev pub published : (uri : List ℕ) → Option OpenText → Reply
published uri (Some found) = diagnosed uri found
published uri None = silence

-- What a notification of the method does: it may lead to another phase; while the session runs it is followed, and else
-- nothing else changes and nothing is sent.
pub data TakesNotification (old : Session) (d : Data) (method : Option Method) : Reply → (new : Session) → Type 0 where
  runs : (reply : Reply) (new : Session) → old.phase ≡ Running → HandlesNotification old.texts d method reply new.texts
      →
      new.phase ≡ after_notification old.phase method → TakesNotification old d method reply new
  rests : (new : Session) → old.phase ≢ Running →
      new ≡ record { phase = after_notification old.phase method; texts = old.texts } →
      TakesNotification old d method silence new

-- What a session does with the body of a message, and what it sends for it.
pub data Steps (old : Session) (body : List ℕ) : Reply → (new : Session) → Type 0 where
  garbled : (IsUtf8 body → read body ≡ None) → Steps old body (refused null ParseError) old
  requested : (d id : Data) (name : List ℕ) (method : Option Method) (reply : Reply) (new : Session) →
      read body ≡ Some d → message_in d ≡ request id name → IsMethod name method →
      TakesRequest old id d method reply new → Steps old body reply new
  notified : (d : Data) (name : List ℕ) (method : Option Method) (reply : Reply) (new : Session) →
      read body ≡ Some d → message_in d ≡ notification name → IsMethod name method →
      TakesNotification old d method reply new → Steps old body reply new
  responded : (d : Data) → read body ≡ Some d → message_in d ≡ response → Steps old body silence old
  unasked : (d : Data) → read body ≡ Some d → message_in d ≡ invalid →
      Steps old body (refused null InvalidRequest) old

-- The session runs, and the value has the diagnostics of a document that is open in it.
pub record Republishes (session : Session) (value : Data) : Type 0 where
  pub runs : session.phase ≡ Running
  pub uri : List ℕ
  pub found : OpenText
  pub is_open : session.texts uri ≡ Some found
  pub diagnostics : IsSent (diagnosed uri found) (Some value)

-- The session runs, and the value shows the user that a document is not formatted, or what is wrong with settings.
pub record Shows (session : Session) (value : Data) : Type 0 where
  pub runs : session.phase ≡ Running
  pub notice : Notice
  pub form : value ≡ notice_form notice

-- What is sent between two messages: one of these.
pub data Unasked (session : Session) (value : Data) : Type 0 where
  republishes : Republishes session value → Unasked session value
  shows : Shows session value → Unasked session value

-- The same, where that value is sent for it, if any is.
abbrev pub SendsForRequest : (old : Session) → (id d : Data) → Option Method → Option Data →
    (new : Session) → Type 0
SendsForRequest old id d method sent new =
    (reply : Reply) × IsSent reply sent × TakesRequest old id d method reply new

abbrev pub SendsForNotification : (old : Session) → Data → Option Method → Option Data → (new : Session) → Type 0
SendsForNotification old d method sent new =
    (reply : Reply) × IsSent reply sent × TakesNotification old d method reply new

abbrev pub SendsWhileRunning : (old : List ℕ → Option OpenText) → Data → Option Method → Option Data →
    (new : List ℕ → Option OpenText) → Type 0
SendsWhileRunning old d method sent new =
    (reply : Reply) × IsSent reply sent × HandlesNotification old d method reply new

abbrev pub SendsForMessage : (old : Session) → (body : List ℕ) → Option Data → (new : Session) → Type 0
SendsForMessage old body sent new = (reply : Reply) × IsSent reply sent × Steps old body reply new
