use Rattle.fluent_syntax_tree.specs.View.{term_view}
use Rattle.fluent_syntax_tree.proofs.Every.{always_holds_of_term}
use Rattle.fluent_syntax_tree.proofs.ast.Term.try_clone.Goals as goal

pub term-requires : goal.term-requires
term-requires g c = record { each = always_holds_of_term (term_view (λ x. x) c.args.self.now) }
