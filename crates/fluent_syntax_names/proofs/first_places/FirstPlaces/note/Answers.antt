use Rattle.std.proofs.Common.{◌≡◌, None, ap, ◌∙◌, rules}
use Rattle.std.specs.BTreeMap.Entry.{map_with_value}
use Rattle.fluent_syntax_names.specs.FirstPlaces.{place_of}
use Rattle.fluent_syntax_names.proofs.Placed.{find, inserted_key_is_found_after_others}
use Rattle.fluent_syntax_names.proofs.first_places.FirstPlaces.note.Goals as goal

pub returns-in-Vacant-clause-noted : goal.returns-in-Vacant-clause-noted
returns-in-Vacant-clause-noted g c = λ name.
    let had = c.args.self.now.table in
    let absent : place_of had c.args.name.items ≡ None = search rules in
    let same : c.self-in-Vacant-2-1.given.0 ≡ map_with_value c.in_ok-entry.field-0 c.args.place = search rules in
    ap (λ table. place_of table name) same
    ∙ ap (find name) (c.in_ok-entry.ensures.update.1 c.args.place)
    ∙ inserted_key_is_found_after_others c.args.name c.args.place name had.entries absent
