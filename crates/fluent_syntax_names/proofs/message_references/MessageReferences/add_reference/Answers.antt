use Rattle.std.proofs.Common.{◌≡◌, [], ◌∷◌, ◌++◌, Some, sym, ap, ◌∙◌}
use Rattle.std.proofs.lemmas.List.{append_assoc}
use Rattle.fluent_syntax_names.specs.MessageReferences.{reference_to}
use Rattle.fluent_syntax_names.specs.NamedLists.{numbers_of}
use Rattle.fluent_syntax_names.specs.QualifiedNames.{qualified_name}
use Rattle.fluent_syntax_names.proofs.MessageReferences.{HasReferences-link, HasReferences-name, number_is_within_rows}
use Rattle.fluent_syntax_names.proofs.message_references.MessageReferences.add_reference.Goals as goal

pub push-requires : goal.push-requires
push-requires c =
    let adds = c.in_ok-number.ensures in
    let from = c.in_ok-from.from.items in
    let number = c.in_ok-number.number in
    let named = c.number_for.new.self in
    number_is_within_rows c.requires.0 named
    (HasReferences-name c.requires.0 c.args.self.now.targets named from number adds c.requires.1) from number adds.known

pub returns : goal.returns
returns c = λ before references_before.
    let text = c.args.text.now in
    let adds = c.in_ok-number.ensures in
    let number = c.in_ok-number.number in
    let named = c.number_for.new.self in
    let has_messages = HasReferences-name before c.args.self.now.targets named c.in_ok-from.from.items number adds
    references_before in
    let link = reference_to text c.args.owner c.args.message in
    let from_is : numbers_of named link.from ≡ Some number =
    ap (numbers_of named) (sym c.in_ok-from.ensures) ∙ adds.known in
    let to_is : c.in_ok-to.to.items ≡ link.to =
    c.in_ok-to.ensures ∙ ap (qualified_name text) c.message_name.ensures in (
      before ++ link ∷ [],
      HasReferences-link before named c.push.new.self has_messages link number from_is c.in_ok-to.to to_is
          c.in_ok-push.ensures,
      λ rest. append_assoc before (link ∷ []) rest,
    )
