use Rattle.std.proofs.Common.{◌≡◌, sym, ap, ◌∙◌}
use Rattle.fluent_syntax_names.specs.EntryPlaces.{is_first, is_first_definition}
use Rattle.fluent_syntax_names.specs.FirstPlaces.{place_of}
use Rattle.fluent_syntax_names.specs.QualifiedNames.{qualified_name}
use Rattle.fluent_syntax_names.specs.declared.qualified_names.EntryName.{EntryName}
use Rattle.fluent_syntax_names.proofs.entry_places.is_first_definition.Goals as goal
use Rattle.fluent_syntax_names.proofs.entry_places.is_first_definition.Goals.{in-Message, in-Term}

pub returns : goal.returns
returns c =
    let places = place_of c.args.places.now.table in
    let text = c.args.text.now in
    let is_first_entry = λ (entry : EntryName). is_first (places (qualified_name text entry)) entry.name in
    let entry = c.match-mention.entry in
    let found : c.is_first.result ≡ is_first_entry entry =
    c.is_first.ensures
    ∙ ap (λ place. is_first place entry.name)
    (c.place_of.ensures ∙ ap places (c.deref.ensures.value ∙ c.in_ok-name.ensures)) in
    elim c.match-mention.branch [
      | in-Message w ↦ found ∙ ap is_first_entry (w.entry-is ∙ w.message_name-entry.ensures)
          ∙ sym (ap (is_first_definition places text) w.in-Message.is)
      | in-Term w ↦ found ∙ ap is_first_entry (w.entry-is ∙ w.term_name-entry.ensures)
          ∙ sym (ap (is_first_definition places text) w.in-Term.is)
    ]
