use Rattle.fluent_syntax_tree.specs.View.{resource_view}
use Rattle.fluent_syntax_tree.proofs.Every.{always_holds_of_body}
use Rattle.fluent_syntax_tree.proofs.ast.Resource.try_clone.Goals as goal

pub resource-requires : goal.resource-requires
resource-requires g c = record { each = always_holds_of_body (resource_view (λ x. x) c.args.self.now) }
