-- What kind of message a JSON value is.
use Rattle.std.specs.Prelude.{ℕ, List, codes, ◌||◌, Bool, true, false, Option, Some, None, is_some, nat_eq}
use Rattle.std.specs.Prelude.{option_and_then, if◌then◌else◌}
use Rattle.std.specs.Option.{option_eq}
use Rattle.std.specs.Cmp.Lexicographic.{pointwise}
use Rattle.serde_json.specs.Data.{Data}
use Rattle.serde_json.specs.Find.{get, as_i64, as_u64, as_number, as_str}
use Rattle.serde_json.specs.View.{view}
use Rattle.ftl_lsp.specs.declared.sessions.messages.Message.{Message}
use Rattle.ftl_lsp.specs.declared.sessions.messages.Message.TheVariants.{Request, Notification, Response, Invalid}

-- A message by its kind, with its identifier and the name of its method.
pub data MessageKind : Type 0 where
  request : (id : Data) → (name : List ℕ) → MessageKind
  notification : (name : List ℕ) → MessageKind
  response : MessageKind
  invalid : MessageKind

abbrev pub message_kind : Message → MessageKind
message_kind (Request id name) = request (view id.now) name.now
message_kind (Notification name) = notification name.now
message_kind Response = response
message_kind Invalid = invalid

-- it may identify a request: a text or a whole number
abbrev pub is_identifier : Data → Bool
is_identifier d =
    is_some (as_str d) || is_some (option_and_then as_i64 (as_number d))
    || is_some (option_and_then as_u64 (as_number d))

abbrev pub request_if : (identified : Bool) → Data → List ℕ → MessageKind
request_if true id name = request id name
request_if false id name = invalid

abbrev pub response_if : (identified : Bool) → MessageKind
response_if true = response
response_if false = invalid

-- a message with a method, if that is a text
abbrev pub with_method : (id : Option Data) → (name : Option (List ℕ)) → MessageKind
with_method id None = invalid
with_method None (Some name) = notification name
with_method (Some id) (Some name) = request_if (is_identifier id) id name

-- the kind of a message with this identifier and this method, as far as it has them
abbrev pub kind_by : (id method : Option Data) → MessageKind
kind_by None None = invalid
kind_by (Some id) None = response_if (is_identifier id)
kind_by id (Some method) = with_method id (as_str method)

-- whether it says that it is of the protocol's version
abbrev pub says_version : Data → Bool
says_version d = option_eq (pointwise nat_eq) (option_and_then as_str (get (codes "jsonrpc") d)) (Some (codes "2.0"))

-- the kind of message that the value is
abbrev pub message_in : Data → MessageKind
message_in d = if says_version d then kind_by (get (codes "id") d) (get (codes "method") d) else invalid
