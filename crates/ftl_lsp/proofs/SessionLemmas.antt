-- What a session sends for a message, and what it knows then.
use Rattle.std.proofs.Common.{◌≡◌, ℕ, List, [], Bool, true, false, Option, Some, None, Result, Ok, Err}
use Rattle.std.proofs.Common.{◌≤◌, refl, sym, ap, ◌∙◌}
use Rattle.std.specs.Prelude.{ℤ, ◌&&◌, ◌≢◌, ◌⊎◌}
use Rattle.std.proofs.Common.{inl, inr, subst, true≢false, map, All, ◌++◌}
use Rattle.std.proofs.lemmas.List.{map-append}
use Rattle.std.specs.Prelude.{IfErr, IfOk, IfSome, OnOk, is_some, option_and_then, option_map}
use Rattle.std.specs.Str.{bytes_eq}
use Rattle.std.proofs.lemmas.Map.{update_same}
use Rattle.std.proofs.lemmas.Slice.Eq.{bytes_eq-Decides}
use Rattle.serde_json.specs.Data.{Data, Items}
use Rattle.serde_json.specs.Read.{read}
use Rattle.serde_json.specs.View.{items_view, view}
use Rattle.serde_json.specs.declared.value.Value.{Value}
use Rattle.ftl_lsp.specs.Edits.{Edit, edits_in}
use Rattle.ftl_lsp.specs.Messages.{message_in, request, notification}
use Rattle.ftl_lsp.specs.OpenDocuments.{MakesOpen, OpenText, Sets, SetsMade}
use Rattle.ftl_lsp.specs.Params.{changes_in, opened_text_in, uri_in, version_in}
use Rattle.ftl_lsp.specs.Phases.{after_notification, after_request, refusal_of}
use Rattle.ftl_lsp.specs.Replies.{Reply, IsSent, diagnosed, silence, watch, withdrawn, diagnostics_form}
use Rattle.ftl_lsp.specs.Replies.{sends_diagnostics, sends_none, sends_withdrawal}
use Rattle.ftl_lsp.specs.Diagnostics.{DiagnosesText, shown}
use Rattle.ftl_lsp.specs.DiagnosticForms.{IsLintDiagnostic, PublishesDiagnostics, count_list, error_form}
use Rattle.ftl_lsp.specs.declared.diagnostics.Diagnostic.{Diagnostic}
use Rattle.ftl_lsp.specs.Sessions.{SendsForMessage, SendsForNotification, SendsForRequest, SendsWhileRunning}
use Rattle.ftl_lsp.specs.Sessions.{Finds, HandlesNotification, RefusesFor, Republishes, fits}
use Rattle.ftl_lsp.specs.Sessions.{IsMethod, Session, TakesRequest, concerns}
use Rattle.ftl_lsp.specs.Asking.{IsResult, names_open}
use Rattle.ftl_lsp.specs.Sessions.{changes, published, requested, notified, opens, passes, runs}
use Rattle.ftl_lsp.specs.Sessions.{saves, watches}
use Rattle.ftl_lsp.specs.declared.sessions.methods.Method.{Method}
use Rattle.ftl_lsp.specs.declared.sessions.methods.Method.TheVariants.{DidChange, DidClose, DidOpen, DidSave}
use Rattle.ftl_lsp.specs.declared.sessions.methods.Method.TheVariants.{Initialized}
use Rattle.ftl_lsp.specs.declared.sessions.phases.ErrorCode.{ErrorCode}
use Rattle.ftl_lsp.specs.declared.sessions.phases.Phase.{Phase}
use Rattle.ftl_lsp.specs.declared.sessions.phases.Phase.TheVariants.{Running}

-- what holds of a result's value, with what holds where there is one
pub IfOk-with : {X Y : Type 0} (r : Result X Y) (P : Type 0) (Q R : X → Type 0) → (P → (x : X) → Q x → R x) →
    OnOk r P → IfOk r Q → IfOk r R
IfOk-with (Ok x) P Q R both p q = both p x q
IfOk-with (Err e) P Q R both p q = q

-- a value that is as one that is sent
pub equal_value_is_sent : (reply : Reply) (value sent : Data) → value ≡ sent → IsSent reply (Some sent) →
    IsSent reply (Some value)
equal_value_is_sent reply value sent same is = subst (λ (d : Data). IsSent reply (Some d)) (sym same) is

-- a session in another phase
abbrev pub in_phase : Phase → Session → Session
in_phase phase session = record { phase = phase; texts = session.texts }

-- the session after a request that was answered
pub answered_session_is_in_phase : (phase : Phase) (before old : Session) (method : Option Method) →
    phase ≡ after_request before.phase method → before ≡ old →
    in_phase phase before ≡ in_phase (after_request old.phase method) old
answered_session_is_in_phase phase before old method after same =
    ap (λ (p : Phase). in_phase p before) after
    ∙ ap (λ (s : Session). in_phase (after_request s.phase method) s) same

-- a document that was opened is open
pub document_that_is_set_is_open : (old new : List ℕ → Option OpenText) (uri : List ℕ) (found : OpenText) →
    Sets old uri (Some found) new → new uri ≡ Some found
document_that_is_set_is_open old new uri found sets =
    sets uri ∙ update_same bytes_eq old uri (Some found) uri ((bytes_eq-Decides uri uri).1 refl)

pub named_document_is_open : (texts : List ℕ → Option OpenText) (d : Data) (uri : List ℕ) → uri_in d ≡ Some uri →
    names_open texts d ≡ is_some (texts uri)
named_document_is_open texts d uri named = ap (λ o. is_some (option_and_then texts o)) named

pub unnamed_is_closed : (texts : List ℕ → Option OpenText) (d : Data) → uri_in d ≡ None → names_open texts d ≡ false
unnamed_is_closed texts d none = ap (λ o. is_some (option_and_then texts o)) none

-- nothing is opened without a name, or without a text
pub opening_without_name_concerns_nothing : (texts : List ℕ → Option OpenText) (d : Data) → uri_in d ≡ None →
    concerns texts d (Some DidOpen) ≡ false
opening_without_name_concerns_nothing texts d none = ap (λ o. is_some o && is_some (opened_text_in d)) none

pub opening_without_text_concerns_nothing : (texts : List ℕ → Option OpenText) (d : Data) (uri : List ℕ) →
    uri_in d ≡ Some uri → opened_text_in d ≡ None → concerns texts d (Some DidOpen) ≡ false
opening_without_text_concerns_nothing texts d uri named none =
    ap (λ o. is_some o && is_some (opened_text_in d)) named ∙ ap is_some none

and_with_false_is_none : (b : Bool) → (b && false) ≡ false
and_with_false_is_none true = refl
and_with_false_is_none false = refl

-- nothing is changed that is not open, or by what can't be read
pub changing_needs_open : (texts : List ℕ → Option OpenText) (d : Data) → names_open texts d ≡ false →
    concerns texts d (Some DidChange) ≡ false
changing_needs_open texts d closed = ap (λ b. b && is_some (option_and_then edits_in (changes_in d))) closed

pub change_without_edits_concerns_nothing : (texts : List ℕ → Option OpenText) (d : Data) →
    option_and_then edits_in (changes_in d) ≡ None → concerns texts d (Some DidChange) ≡ false
change_without_edits_concerns_nothing texts d none =
    ap (λ o. names_open texts d && is_some o) none ∙ and_with_false_is_none (names_open texts d)

pub edits_of_changes_are_read : (d : Data) (slice values : List Value) (edits : Option (List Edit)) →
    changes_in d ≡ Some (items_view values) → slice ≡ values → edits ≡ edits_in (items_view slice) →
    option_and_then edits_in (changes_in d) ≡ edits
edits_of_changes_are_read d slice values edits stated same is_read =
    ap (option_and_then edits_in) stated
    ∙ ap (λ (vs : List Value). edits_in (items_view vs)) (sym same) ∙ sym is_read

-- what is reported of a document that is not open, and of one that is
pub unopened_document_is_unpublished : (old mid : Session) (uri : List ℕ) → mid ≡ old → None ≡ mid.texts uri →
    IsSent (published uri (old.texts uri)) None
unopened_document_is_unpublished old mid uri same none =
    let at : Session → Type 0 = λ s. IsSent (published uri (s.texts uri)) None in
    subst at same (subst (λ (o : Option OpenText). IsSent (published uri o) None) none sends_none)

pub open_text_is_published : (old mid : Session) (uri : List ℕ) (found : OpenText) (value : Data) (list : List Data) →
    mid ≡ old → Some found ≡ mid.texts uri → value ≡ diagnostics_form uri found.version list →
    PublishesDiagnostics uri found.text list → IsSent (published uri (old.texts uri)) (Some value)
open_text_is_published old mid uri found value list same open' is publishes_all =
    let at : Session → Type 0 = λ s. IsSent (published uri (s.texts uri)) (Some value) in
    let sent = equal_value_is_sent (diagnosed uri found) value _ is
    (sends_diagnostics uri found list publishes_all) in
    subst at same (subst (λ (o : Option OpenText). IsSent (published uri o) (Some value)) open' sent)

-- what is reported of a document: its errors, then what is reported with them, and how many there are more
pub diagnostics_of_text_are_published : (uri t : List ℕ) (takes_related : Bool) (errors : List Diagnostic)
    (more_errors more : ℕ) (values others count after all : List Value) →
    ∥ DiagnosesText t (map shown errors) more_errors ∥₁ → map view values ≡ map (error_form uri takes_related) errors →
    All IsLintDiagnostic (map view others) → map view count ≡ count_list more → more_errors ≤ more →
    after ≡ others ++ count → all ≡ values ++ after → PublishesDiagnostics uri t (map view all)
diagnostics_of_text_are_published uri t takes_related errors more_errors more values others count after all diagnoses
    stated lint_diagnostics counted counts_errors followed is =
    record {
      takes_related = takes_related;
      errors = errors;
      more_errors = more_errors;
      diagnoses = diagnoses;
      others = map view others;
      lint_diagnostics = lint_diagnostics;
      more = more;
      counts_errors = counts_errors;
      publishes_each =
          ap (map view) is ∙ map-append view values after ∙ ap (λ l. l ++ map view after) stated
          ∙ ap (λ l. map (error_form uri takes_related) errors ++ l)
          (ap (map view) followed ∙ map-append view others count ∙ ap (λ l. map view others ++ l) counted);
    }

-- that there are none any more
pub empty_list_withdraws_diagnostics : (uri : List ℕ) (value : Data) (list : List Data) →
    value ≡ diagnostics_form uri None list → list ≡ [] → IsSent (withdrawn uri) (Some value)
empty_list_withdraws_diagnostics uri value list is none =
    equal_value_is_sent (withdrawn uri) value _ (is ∙ ap (diagnostics_form uri None) none) (sends_withdrawal uri)

-- the diagnostics of a document that is open are reported, after what was done before
pub diagnosed_document_is_sent_while_running : {Y : Type 0} (r : Result (Option Value) Y)
    (old : List ℕ → Option OpenText) (d : Data)
    (method : Option Method) (uri : List ℕ) (found : OpenText) (mid new : Session) → mid.texts uri ≡ Some found →
    ((texts : List ℕ → Option OpenText) → texts ≡ mid.texts
    → HandlesNotification old d method (diagnosed uri found) texts) →
    OnOk r (new ≡ mid) → IfOk r (λ sent. IsSent (published uri (mid.texts uri)) (option_map view sent)) →
    IfOk r (λ sent. SendsWhileRunning old d method (option_map view sent) new.texts)
diagnosed_document_is_sent_while_running r old d method uri found mid new open' follows same sent =
    IfOk-with r _ _ _
    (λ e x h. (
      diagnosed uri found,
      subst (λ (o : Option OpenText). IsSent (published uri o) (option_map view x)) open' h,
      follows new.texts (ap (λ s. s.texts) e),
    ))
    same sent

-- a document that was opened
pub opened_text_is_published : {Y : Type 0} (r : Result (Option Value) Y) (d : Data) (uri text : List ℕ)
    (version : Option ℤ)
    (old mid new : Session) → uri_in d ≡ Some uri → opened_text_in d ≡ Some text → version ≡ version_in d →
    Sets old.texts uri (Some (record { text = text; version = version })) mid.texts → OnOk r (new ≡ mid) →
    IfOk r (λ sent. IsSent (published uri (mid.texts uri)) (option_map view sent)) →
    IfOk r (λ sent. SendsWhileRunning old.texts d (Some DidOpen) (option_map view sent) new.texts)
opened_text_is_published r d uri text version old mid new named stated numbered sets same sent =
    let made = subst
    (λ (n : Option ℤ). Sets old.texts uri (Some (record { text = text; version = n })) mid.texts) numbered sets in
    diagnosed_document_is_sent_while_running r old.texts d (Some DidOpen) uri
    (record { text = text; version = version }) mid new
    (document_that_is_set_is_open old.texts mid.texts uri _ sets)
    (λ now e. subst
    (λ (n : Option ℤ). HandlesNotification old.texts d (Some DidOpen)
    (diagnosed uri (record { text = text; version = n })) now) (sym numbered)
    (opens uri text now named stated
    (subst
    (λ (t : List ℕ → Option OpenText). Sets old.texts uri (Some (record { text = text; version = version_in d })) t)
    (sym e) made)))
    same sent

-- a document that was changed
pub change_is_answered_by_diagnostics : {Y : Type 0} (r : Result (Option Value) Y) (d : Data) (uri : List ℕ)
    (items : Items) (edits : List Edit) (version : Option ℤ) (found : Bool) (old mid new : Session) →
    uri_in d ≡ Some uri → changes_in d ≡ Some items → edits_in items ≡ Some edits → version ≡ version_in d →
    is_some (old.texts uri) ≡ true → SetsMade old.texts uri version edits found mid.texts → OnOk r (new ≡ mid) →
    IfOk r (λ sent. IsSent (published uri (mid.texts uri)) (option_map view sent)) →
    IfOk r (λ sent. SendsWhileRunning old.texts d (Some DidChange) (option_map view sent) new.texts)
change_is_answered_by_diagnostics r d uri items edits version true old mid new named stated is_read numbered open'
    (before, after, was, makes, sets) same sent =
    diagnosed_document_is_sent_while_running r old.texts d (Some DidChange) uri after mid new
    (document_that_is_set_is_open old.texts mid.texts uri after sets)
    (λ now e. changes uri items edits before after now named stated is_read was
    (subst (λ (n : Option ℤ). MakesOpen before n edits after) numbered makes)
    (subst (λ (t : List ℕ → Option OpenText). Sets old.texts uri (Some after) t) (sym e) sets))
    same sent
change_is_answered_by_diagnostics r d uri items edits version false old mid new named stated is_read numbered open' h
    same sent =
    absurd (true≢false (sym open' ∙ ap is_some h.0))

-- a document that is saved
saving_is_answered_by_diagnostics : (old new : List ℕ → Option OpenText) (d : Data) (uri : List ℕ) (sent : Option Data)
    (found : Option OpenText) → old uri ≡ found → uri_in d ≡ Some uri → new ≡ old → IsSent (published uri found) sent →
    SendsWhileRunning old d (Some DidSave) sent new
saving_is_answered_by_diagnostics old new d uri sent (Some found) open' named same is =
    (diagnosed uri found, is, saves uri found new named open' same)
saving_is_answered_by_diagnostics old new d uri sent None open' named same is =
    (silence, is, passes (Some DidSave) new (named_document_is_open old d uri named ∙ ap is_some open') same)

pub saved_text_is_published : {Y : Type 0} (r : Result (Option Value) Y) (d : Data) (uri : List ℕ) (old new : Session) →
    uri_in d ≡ Some uri → OnOk r (new ≡ old) →
    IfOk r (λ sent. IsSent (published uri (old.texts uri)) (option_map view sent)) →
    IfOk r (λ sent. SendsWhileRunning old.texts d (Some DidSave) (option_map view sent) new.texts)
saved_text_is_published r d uri old new named same sent =
    IfOk-with r _ _ _ (λ e x h.
    saving_is_answered_by_diagnostics old.texts new.texts d uri _ _ refl named (ap (λ s. s.texts) e) h) same sent

-- what is found for a request, where it is known to be a value
pub found_value_is_sent_as_result : (old : Session) (d : Data) (method : Option Method) (found : Result Value ErrorCode)
    (value : Value) → refusal_of old.phase method ≡ None → IfOk found (λ v. fits old.texts d method ≡ true) →
    IfOk found (λ v. IsResult old.texts d method (view v)) → found ≡ Ok value → Finds old d method (view value)
found_value_is_sent_as_result old d method found value allowed fitting is_result is = record {
  allowed = allowed;
  fitting = subst (λ (r : Result Value ErrorCode). IfOk r (λ v. fits old.texts d method ≡ true)) is fitting;
  is_result = subst (λ (r : Result Value ErrorCode). IfOk r (λ v. IsResult old.texts d method (view v))) is is_result;
}

-- why nothing is found, where it is known that there is nothing
pub found_code_refuses : (method : Option Method) (fitting : Bool) (found : Result Value ErrorCode) (code : ErrorCode) →
    IfErr found (RefusesFor method fitting) → found ≡ Err code → RefusesFor method fitting code
found_code_refuses method fitting found code refuses is =
    subst (λ (r : Result Value ErrorCode). IfErr r (RefusesFor method fitting)) is refuses

-- a request that was taken after something that changes nothing of the session
pub request_by_method_is_sent_for_message : {Y : Type 0} (r : Result (Option Value) Y) (old mid new : Session)
    (body : List ℕ)
    (d id same_id : Data) (name : List ℕ) (method : Option Method) → read body ≡ Some d →
    message_in d ≡ request id name → same_id ≡ id → IsMethod name method → mid ≡ old →
    IfOk r (λ sent. SendsForRequest mid same_id d method (option_map view sent) new) →
    IfOk r (λ sent. SendsForMessage old body (option_map view sent) new)
request_by_method_is_sent_for_message (Ok sent) old mid new body d id same_id name method is_read asked same named
    before (reply, is, takes) = (
      reply,
      is,
      requested d id name method reply new is_read asked named
          (subst (λ (s : Session). TakesRequest s id d method reply new) before
          (subst (λ (i : Data). TakesRequest mid i d method reply new) same takes)),
    )
request_by_method_is_sent_for_message (Err e) old mid new body d id same_id name method is_read asked same named before
    h = h

pub session_takes_notification : {Y : Type 0} (r : Result (Option Value) Y) (old new : Session) (body : List ℕ)
    (d : Data) (name : List ℕ) (method : Option Method) → read body ≡ Some d →
    message_in d ≡ notification name → IsMethod name method →
    IfOk r (λ sent. SendsForNotification old d method (option_map view sent) new) →
    IfOk r (λ sent. SendsForMessage old body (option_map view sent) new)
session_takes_notification (Ok sent) old new body d name method is_read asked named (reply, is, takes) =
    (reply, is, notified d name method reply new is_read asked named takes)
session_takes_notification (Err e) old new body d name method is_read asked named h = h

-- nothing is done for a method that concerns no document
other_methods_concern_no_text : (texts : List ℕ → Option OpenText) (d : Data) (method : Method) → method ≢ DidOpen →
    method ≢ DidChange → method ≢ DidClose → method ≢ DidSave → concerns texts d (Some method) ≡ false
other_methods_concern_no_text texts d DidOpen a b c e = absurd (a refl)
other_methods_concern_no_text texts d DidChange a b c e = absurd (b refl)
other_methods_concern_no_text texts d DidClose a b c e = absurd (c refl)
other_methods_concern_no_text texts d DidSave a b c e = absurd (e refl)
other_methods_concern_no_text texts d _ a b c e = refl

pub unconcerned_texts_take_nothing : (old : List ℕ → Option OpenText) (d : Data) (method : Option Method) →
    concerns old d method ≡ false → SendsWhileRunning old d method None old
unconcerned_texts_take_nothing old d method none = (silence, sends_none, passes method old none refl)

pub other_method_passes_over : (old : List ℕ → Option OpenText) (d : Data) (method : Option Method) (known : Method) →
    method ≡ Some known → known ≢ DidOpen → known ≢ DidChange → known ≢ DidClose → known ≢ DidSave →
    SendsWhileRunning old d method None old
other_method_passes_over old d method known is a b c e =
    unconcerned_texts_take_nothing old d method
    (ap (concerns old d) is ∙ other_methods_concern_no_text old d known a b c e)

-- files are watched, or nothing is sent
pub initialized_is_answered_by_watching : (old : List ℕ → Option OpenText) (d : Data) (method : Option Method)
    (known : Method)
    (sent : Option Data) → method ≡ Some known → known ≡ Initialized → IsSent watch sent ⊎ IsSent silence sent →
    SendsWhileRunning old d method sent old
initialized_is_answered_by_watching old d method known sent is named (inl watches') =
    let follows = subst (λ (m : Option Method). HandlesNotification old d m watch old) (sym (is ∙ ap Some named))
    (watches old refl) in
    (watch, watches', follows)
initialized_is_answered_by_watching old d method known sent is named (inr none) =
    (silence, none, passes method old (ap (concerns old d) (is ∙ ap Some named)) refl)

-- a notification that was followed while the session runs
running_is_followed : (old mid : Session) (d : Data) (method : Option Method) (sent : Option Data)
    (phase last : Phase) (new : List ℕ → Option OpenText) → old.phase ≡ Running → mid ≡ old → phase ≡ mid.phase →
    last ≡ after_notification phase method → SendsWhileRunning mid.texts d method sent new →
    SendsForNotification old d method sent (record { phase = last; texts = new })
running_is_followed old mid d method sent phase last new is_running same kept after (reply, is, follows) = (
  reply,
  is,
  runs reply _ is_running (subst (λ (s : Session). HandlesNotification s.texts d method reply new) same follows)
      (after ∙ ap (λ (p : Phase). after_notification p method) (kept ∙ ap (λ (s : Session). s.phase) same)),
)

-- the same, where nothing of the session is changed after it
pub running_notice_is_taken : (old mid beyond noted : Session) (d : Data) (method : Option Method) (sent : Option Data)
    (last : Phase) → old.phase ≡ Running → mid ≡ old → beyond.phase ≡ mid.phase → noted ≡ beyond →
    last ≡ after_notification noted.phase method → SendsWhileRunning mid.texts d method sent beyond.texts →
    SendsForNotification old d method sent (record { phase = last; texts = noted.texts })
running_notice_is_taken old mid beyond noted d method sent last is_running same kept same_noted after answers =
    subst
    (λ (s : Session). last ≡ after_notification s.phase method →
    SendsForNotification old d method sent (record { phase = last; texts = s.texts }))
    (sym same_noted)
    (λ e. running_is_followed old mid d method sent beyond.phase last beyond.texts is_running same kept e answers) after

-- ---- What is published again

diagnostics_are_republished_if_open : (session : Session) (uri : List ℕ) (found : Option OpenText) (value : Data) →
    session.phase ≡ Running → session.texts uri ≡ found → IsSent (published uri found) (Some value) →
    Republishes session value
diagnostics_are_republished_if_open session uri (Some found) value running open' sent =
    record { runs = running; uri = uri; found = found; is_open = open'; diagnostics = sent }
diagnostics_are_republished_if_open session uri None value running open' sent = elim sent [ ]

-- what is published of a document is reported of one that is open
pub published_text_is_republished : {Y : Type 0} (r : Result (Option Value) Y) (session : Session) (uri : List ℕ) →
    session.phase ≡ Running → IfOk r (λ sent. IsSent (published uri (session.texts uri)) (option_map view sent)) →
    IfOk r (λ sent. IfSome sent (λ value. Republishes session (view value)))
published_text_is_republished (Ok (Some value)) session uri running sent =
    diagnostics_are_republished_if_open session uri _ (view value) running refl sent
published_text_is_republished (Ok None) session uri running sent = tt
published_text_is_republished (Err e) session uri running sent = sent
