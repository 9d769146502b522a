use Rattle.fluent_syntax_tree.specs.View.{message_view}
use Rattle.fluent_syntax_tree.proofs.Every.{always_holds_of_message}
use Rattle.fluent_syntax_tree.proofs.ast.Message.try_clone.Goals as goal

pub message-requires : goal.message-requires
message-requires g c = record { each = always_holds_of_message (message_view (λ x. x) c.args.self.now) }
