use Rattle.std.proofs.Common.{string_bytes}
use Rattle.fluent_syntax_tree.specs.View.{resource_view}
use Rattle.fluent_syntax_c.proofs.canonical.first_uncanonical_json.Goals as goal

pub returns-in-Ok-clause-found : goal.returns-in-Ok-clause-found
returns-in-Ok-clause-found c = record {
  edition = c.in-Some.edition;
  has_number = c.in-Some.ensures.some;
  tree = resource_view string_bytes c.in-Ok.tree;
  is_spelled = rw c.in_ok-json.ensures.text.0 at c.in-Ok.ensures.spelled;
  first = c.first_uncanonical_with.ensures.exact;
  none = c.first_uncanonical_with.ensures.none;
}
