-- A whole session: the frames that it takes, what it sends for them, and how it ends.
use Rattle.std.specs.Prelude.{◌≡◌, ℕ, List, Option, None, Some}
use Rattle.serde_json.specs.Data.{Data}
use Rattle.ftl_lsp.specs.Inbox.{EndsAs, TakesFrame}
use Rattle.ftl_lsp.specs.Outbox.{Sends}
use Rattle.ftl_lsp.specs.Phases.{ending_of}
use Rattle.ftl_lsp.specs.Sessions.{Session, SendsForMessage, Unasked}
use Rattle.ftl_lsp.specs.declared.sessions.endings.Ending.{Ending}
use Rattle.ftl_lsp.specs.declared.sessions.endings.Ending.TheVariants.{Memory, Output}
use Rattle.ftl_lsp.specs.declared.sessions.phases.Phase.TheVariants.{Fresh}

-- Nothing has come yet, and nothing is open.
pub record IsFresh (session : Session) : Type 0 where
  pub phase : session.phase ≡ Fresh
  pub none : (name : List ℕ) → session.texts name ≡ None

-- The session does the step of the body, and what is sent for it is put on the output.
pub record SendsAnswer (before : Session) (body : List ℕ) (now : Session) (written sent_on : Option (List ℕ)) :
    Type 0 where
  pub sent : Option Data
  pub answered : SendsForMessage before body sent now
  pub sends : Sends written sent_on sent

-- A frame is taken off the input, and its body is answered.
pub record TakesStep (before now : Session) (left after written sent_on : Option (List ℕ)) : Type 0 where
  pub body : List ℕ
  pub taken : TakesFrame left after body
  pub answered : SendsAnswer before body now written sent_on

-- A session goes on: it takes a frame off the input, or it publishes the diagnostics of a document again or shows a
-- sentence, by which nothing else changes.
pub data GoesOn (before now : Session) (left after written sent_on : Option (List ℕ)) : Type 0 where
  takes : TakesStep before now left after written sent_on → GoesOn before now left after written sent_on
  sends_unasked : (value : Data) → Unasked before value → now ≡ before → after ≡ left →
      Sends written sent_on (Some value) → GoesOn before now left after written sent_on

-- What is left of the input and what is on the output, after a session's steps from the first on.
pub data Serves (input output : Option (List ℕ)) : (now : Session) → (left written : Option (List ℕ)) → Type 0 where
  begins : (session : Session) → IsFresh session → Serves input output session input output
  goes_on : (before now : Session) (left after written sent_on : Option (List ℕ)) →
      Serves input output before left written → ending_of before.phase ≡ None →
      GoesOn before now left after written sent_on → Serves input output now after sent_on

-- Why a body is not answered, and what is on the output then: memory was refused, and nothing was written; or what
-- was to be sent could not be written.
pub data IsUnsent (before : Session) (body : List ℕ) (written : Option (List ℕ)) : Ending → (now : Option (List ℕ)) →
    Type 0 where
  has_no_memory : (now : Option (List ℕ)) → now ≡ written → IsUnsent before body written Memory now
  is_not_written : (now : Option (List ℕ)) (value : Data) (next : Session) →
      SendsForMessage before body (Some value) next →
      IsUnsent before body written Output now

-- Why nothing is sent unasked, and what is on the output then: likewise.
pub data IsUnpublished (before : Session) (written : Option (List ℕ)) : Ending → (now : Option (List ℕ)) → Type 0 where
  has_no_memory_to_publish : (now : Option (List ℕ)) → now ≡ written → IsUnpublished before written Memory now
  publishes_unwritten : (now : Option (List ℕ)) (value : Data) → Unasked before value →
      IsUnpublished before written Output now

-- Why a session takes no further step: no frame was read, its body was not answered, or what is unasked could not be
-- sent.
pub data Stops (before : Session) (left written : Option (List ℕ)) : Ending → (now : Option (List ℕ)) → Type 0 where
  has_no_frame : (ending : Ending) (now : Option (List ℕ)) → EndsAs left ending → now ≡ written →
      Stops before left written ending now
  is_unanswered : (ending : Ending) (after now : Option (List ℕ)) (body : List ℕ) → TakesFrame left after body →
      IsUnsent before body written ending now → Stops before left written ending now
  is_unpublished : (ending : Ending) (now : Option (List ℕ)) → IsUnpublished before written ending now →
      Stops before left written ending now

-- How a session ends: by `exit`, or where it stops.
pub data Ends (input output : Option (List ℕ)) : Ending → (now : Option (List ℕ)) → Type 0 where
  exits : (last : Session) (left written : Option (List ℕ)) (ending : Ending) →
      Serves input output last left written → ending_of last.phase ≡ Some ending → Ends input output ending written
  stops : (last : Session) (left written now : Option (List ℕ)) (ending : Ending) →
      Serves input output last left written → ending_of last.phase ≡ None → Stops last left written ending now →
      Ends input output ending now
