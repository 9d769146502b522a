use Rattle.std.proofs.Common.{◌≡◌, inr, None, arith, rules}
use Rattle.fluent_syntax_names.specs.NamedLists.{numbers_of}
use Rattle.fluent_syntax_names.specs.FirstPlaces.{place_of}
use Rattle.fluent_syntax_names.proofs.Listed.{length-items, pushed_empty_list_has_no_items}
use Rattle.fluent_syntax_names.proofs.Numbered.{new_name_has_the_next_number, known_name_keeps_its_number}
use Rattle.fluent_syntax_names.proofs.named_lists.NamedLists.number_for.Goals as goal

pub returns : goal.returns
returns g c =
    let old = numbers_of c.args.self.now in
    let new = place_of c.note.new.self.table in
    let lists = c.args.self.now.lists.items in
    let name = c.args.name.items in
    let number = c.len-number.result in
    let absent : old name ≡ None = search rules in
    let notes = c.in_ok-note.ensures.noted in
    record {
      known = new_name_has_the_next_number old new name number absent notes;
      stays = known_name_keeps_its_number old new name number absent notes;
      adds = inr (record {
        absent = absent;
        last = omega (arith, length-items lists);
        notes = notes;
        longer = pushed_empty_list_has_no_items lists c.push.new.self.items c.new.result c.in_ok-push.ensures.items
            c.new.ensures.items;
      });
    }
