use Rattle.std.proofs.Common.{◌∙◌, ap}
use Rattle.serde_json.specs.View.{view}
use Rattle.std.specs.Prelude.{option_map}
use Rattle.ftl_lsp.specs.Replies.{silence, sends_none}
use Rattle.ftl_lsp.specs.Sessions.{rests, session_of}
use Rattle.ftl_lsp.proofs.SessionLemmas.{in_phase, running_notice_is_taken}
use Rattle.ftl_lsp.proofs.sessions.server.Server.notification.Goals as goal

pub returns-in_default : goal.returns-in_default
returns-in_default g c = (
  silence,
  sends_none,
  rests _ c.in_default.not-Running
      (ap (λ p. in_phase p (session_of c.args.self.now)) c.after_notification-self.ensures),
)

pub returns : goal.returns
returns g c =
    running_notice_is_taken (session_of c.args.self.now) (session_of c.read_files.new.self)
    (session_of c.handle_notification.new.self)
    (session_of c.mark_stale.new.self) (view c.args.message.now) c.args.method (option_map view c.in_ok-sent.sent)
    c.after_notification-self-2.result c.in-Running.is
    (c.in_ok-read_files.ensures ∙ c.in_ok-change_folders.ensures) c.in_ok-sent.ensures.phase
    c.in_ok-mark_stale.ensures c.after_notification-self-2.ensures c.in_ok-sent.ensures.follows
