-- A session from its first message on.
use Rattle.std.proofs.Common.{List, [], ℕ, Option, None, Some, Result, Ok, Err, ap, inl, inr, refl, subst, sym, ◌≡◌}
use Rattle.std.proofs.Common.{◌∙◌, Bool, true, false, true≢false}
use Rattle.std.proofs.Common.{◌<◌, ◌++◌, arith, drop, length, take, length-append}
use Rattle.std.proofs.lemmas.List.{length-drop, length-take}
use Rattle.std.specs.Prelude.{◌⊎◌, ◌≢◌, IfErr, OnOk}
use Rattle.std.specs.Io.KnownBytes.{prepend_known}
use Rattle.serde_json.specs.Data.{Data}
use Rattle.ftl_lsp.specs.Served.{Ends, IsFresh, IsUnsent, Serves, begins, has_no_frame, has_no_memory}
use Rattle.ftl_lsp.specs.Outbox.{Sends}
use Rattle.ftl_lsp.specs.Phases.{ending_of}
use Rattle.ftl_lsp.specs.Served.{GoesOn, Stops, TakesStep, is_not_written, is_unpublished, stops}
use Rattle.ftl_lsp.specs.Served.{takes, sends_unasked, publishes_unwritten, has_no_memory_to_publish}
use Rattle.ftl_lsp.specs.Sessions.{SendsForMessage, Session, Unasked}
use Rattle.ftl_lsp.specs.declared.sessions.endings.Ending.{Ending}
use Rattle.ftl_lsp.specs.declared.sessions.endings.Ending.TheVariants.{Input, Memory, Output}
use Rattle.ftl_lsp.specs.declared.sessions.phases.Phase.{Phase}
use Rattle.ftl_lsp.specs.declared.sessions.phases.Phase.TheVariants.{Exited, Fresh, Left, Running, ShutDown}

nothing_before_input_is_input : (input : Option (List ℕ)) → prepend_known [] input ≡ input
nothing_before_input_is_input None = refl
nothing_before_input_is_input (Some bytes) = refl

-- all of the input is left before the first message
pub begins_with_all_input : (input output : Option (List ℕ)) (session : Session) (pending : List ℕ) → IsFresh session →
    pending ≡ [] → Serves input output session (prepend_known pending input) output
begins_with_all_input input output session pending is none =
    subst (λ (left : Option (List ℕ)). Serves input output session left output)
    (sym (ap (λ (p : List ℕ). prepend_known p input) none ∙ nothing_before_input_is_input input)) (begins session is)

-- a block that was filled has room still
pub buffer_keeps_room : (n : ℕ) (new old : List ℕ) → 0 < length old → length old ≡ n →
    0 < length (take n (new ++ drop (length new) old))
buffer_keeps_room n new old room is =
    omega (
      arith,
      length-take n (new ++ drop (length new) old),
      length-append new (drop (length new) old),
      length-drop (length new) old,
    )

-- no memory for the first message
pub ends_before_first_message : (input output : Option (List ℕ)) → Ends input output Memory output
ends_before_first_message input output =
    stops (record { phase = Fresh; texts = λ _. None }) input output output Memory
    (begins (record { phase = Fresh; texts = λ _. None }) (record { phase = refl; none = λ _. refl })) refl
    (has_no_frame Memory output tt refl)

-- what was to be sent for a body, and was not
pub reply_is_unsent : {Y : Type 0} (r : Result Y Ending) (before next : Session) (body : List ℕ) (sent : Option Data)
    (value : Data) (written now : Option (List ℕ)) → SendsForMessage before body sent next → sent ≡ Some value →
    IfErr r (λ ending. (ending ≡ Memory) ⊎ (ending ≡ Output)) → (r ≡ Err Memory → now ≡ written) →
    IfErr r (λ ending. IsUnsent before body written ending now)
reply_is_unsent (Ok x) before next body sent value written now answers some fault same = fault
reply_is_unsent (Err e) before next body sent value written now answers some (inl is) same =
    subst (λ (ending : Ending). IsUnsent before body written ending now) (sym is) (has_no_memory now (same (ap Err is)))
reply_is_unsent (Err e) before next body sent value written now answers some (inr is) same =
    subst (λ (ending : Ending). IsUnsent before body written ending now) (sym is)
    (is_not_written now value next (subst (λ (o : Option Data). SendsForMessage before body o next) some answers))

abbrev is_exit : Option Ending → Bool
is_exit (Some Input) = false
is_exit _ = true

ending_of_phase_is_exit : (phase : Phase) → is_exit (ending_of phase) ≡ true
ending_of_phase_is_exit Fresh = refl
ending_of_phase_is_exit Running = refl
ending_of_phase_is_exit ShutDown = refl
ending_of_phase_is_exit Exited = refl
ending_of_phase_is_exit Left = refl

-- no phase ends as where reading fails
pub ends_by_no_input : (phase : Phase) → ending_of phase ≢ Some Input
ends_by_no_input phase is = true≢false (sym (ending_of_phase_is_exit phase) ∙ ap is_exit is)

-- ---- What is sent unasked

-- after what changes nothing of the session a step is one of the session
pub step_then_goes_on : {X Y : Type 0} (r : Result X Y) (old mid now : Session)
    (left after written sent_on : Option (List ℕ)) → mid ≡ old →
    OnOk r (TakesStep mid now left after written sent_on) → OnOk r (GoesOn old now left after written sent_on)
step_then_goes_on (Ok x) old mid now left after written sent_on same step =
    takes (subst (λ (s : Session). TakesStep s now left after written sent_on) same step)
step_then_goes_on (Err e) old mid now left after written sent_on same step = step

-- what was sent unasked
pub unasked_value_goes_on : {X Y : Type 0} (r : Result X Y) (old mid : Session) (left written sent_on : Option (List ℕ))
    (value : Data) → mid ≡ old → Unasked old value → OnOk r (Sends written sent_on (Some value)) →
    OnOk r (GoesOn old mid left left written sent_on)
unasked_value_goes_on (Ok x) old mid left written sent_on value same unasked sends =
    sends_unasked value unasked same refl sends
unasked_value_goes_on (Err e) old mid left written sent_on value same unasked sends = sends

-- why a session stops after what changes nothing of it
pub equal_session_stops_alike : {X : Type 0} (r : Result X Ending) (old mid : Session)
    (left written now : Option (List ℕ)) → mid ≡ old → IfErr r (λ ending. Stops mid left written ending now) →
    IfErr r (λ ending. Stops old left written ending now)
equal_session_stops_alike r old mid left written now same stopped =
    subst (λ (s : Session). IfErr r (λ ending. Stops s left written ending now)) same stopped

-- what is unasked could not be sent
pub unpublished_value_stops_session : {Y : Type 0} (r : Result Y Ending) (before : Session)
    (left written now : Option (List ℕ))
    (value : Data) → Unasked before value → IfErr r (λ ending. (ending ≡ Memory) ⊎ (ending ≡ Output)) →
    (r ≡ Err Memory → now ≡ written) → IfErr r (λ ending. Stops before left written ending now)
unpublished_value_stops_session (Ok x) before left written now value anew fault same = fault
unpublished_value_stops_session (Err e) before left written now value anew (inl is) same =
    subst (λ (ending : Ending). Stops before left written ending now) (sym is)
    (is_unpublished Memory now (has_no_memory_to_publish now (same (ap Err is))))
unpublished_value_stops_session (Err e) before left written now value anew (inr is) same =
    subst (λ (ending : Ending). Stops before left written ending now) (sym is)
    (is_unpublished Output now (publishes_unwritten now value anew))
