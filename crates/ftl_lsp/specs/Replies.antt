-- What a server sends: the kinds of replies, and their JSON values.
use Rattle.std.specs.Prelude.{ℕ, ℤ, List, [], codes, Option, Some, None}
use Rattle.serde_json.specs.Data.{Data, Members, number, string, array, object, member, no_members}
use Rattle.serde_json.specs.Find.{of_integer}
use Rattle.serde_json.specs.View.{items_of}
use Rattle.ftl_lsp.specs.Phases.{number_of, text_of}
use Rattle.ftl_lsp.specs.DiagnosticForms.{PublishesDiagnostics}
use Rattle.ftl_lsp.specs.OpenDocuments.{OpenText}
use Rattle.ftl_lsp.specs.declared.sessions.phases.ErrorCode.{ErrorCode}

-- What is sent for a message.
pub data Reply : Type 0 where
  silence : Reply
  -- the answer to the request with the identifier, or its refusal
  answered : (id result : Data) → Reply
  refused : (id : Data) → ErrorCode → Reply
  -- the diagnostics of the document that is open under the name
  diagnosed : (uri : List ℕ) → OpenText → Reply
  -- that there are none any more
  withdrawn : (uri : List ℕ) → Reply
  -- the request to watch files
  watch : Reply

abbrev pub answer_form : (id result : Data) → Data
answer_form id result =
    object (member (codes "id") id (member (codes "jsonrpc") (string (codes "2.0"))
    (member (codes "result") result no_members)))

abbrev pub error_form : ErrorCode → Data
error_form code =
    object (member (codes "code") (number (of_integer (number_of code)))
    (member (codes "message") (string (text_of code)) no_members))

abbrev pub refusal_form : (id : Data) → ErrorCode → Data
refusal_form id code =
    object (member (codes "error") (error_form code) (member (codes "id") id
    (member (codes "jsonrpc") (string (codes "2.0")) no_members)))

-- of the document in that version, if it has one
abbrev pub version_member : Option ℤ → Members
version_member None = no_members
version_member (Some version) = member (codes "version") (number (of_integer version)) no_members

abbrev pub diagnostics_params : (uri : List ℕ) → (version : Option ℤ) → (diagnostics : Data) → Data
diagnostics_params uri version diagnostics =
    object (member (codes "diagnostics") diagnostics (member (codes "uri") (string uri) (version_member version)))

abbrev pub diagnostics_form : (uri : List ℕ) → (version : Option ℤ) → List Data → Data
diagnostics_form uri version diagnostics =
    object (member (codes "jsonrpc") (string (codes "2.0"))
    (member (codes "method") (string (codes "textDocument/publishDiagnostics"))
    (member (codes "params") (diagnostics_params uri version (array (items_of diagnostics))) no_members)))

-- the request to be notified of something, by what it asks for
abbrev pub register_form : (params : Data) → Data
register_form params =
    object (member (codes "id") (string (codes "ftl-watch"))
    (member (codes "jsonrpc") (string (codes "2.0"))
    (member (codes "method") (string (codes "client/registerCapability"))
    (member (codes "params") params no_members))))

-- The value is what is sent for the reply, if anything is.
pub data IsSent : Reply → Option Data → Type 0 where
  sends_none : IsSent silence None
  sends_answer : (id result : Data) → IsSent (answered id result) (Some (answer_form id result))
  sends_refusal : (id : Data) (code : ErrorCode) → IsSent (refused id code) (Some (refusal_form id code))
  sends_diagnostics : (uri : List ℕ) (found : OpenText) (list : List Data) → PublishesDiagnostics uri found.text list →
      IsSent (diagnosed uri found) (Some (diagnostics_form uri found.version list))
  sends_withdrawal : (uri : List ℕ) → IsSent (withdrawn uri) (Some (diagnostics_form uri None []))
  sends_watch : (params : Data) → IsSent watch (Some (register_form params))
