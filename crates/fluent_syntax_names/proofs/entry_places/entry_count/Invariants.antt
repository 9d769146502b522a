use Rattle.std.proofs.Common.{◌≡◌, ◌≤◌, take}
use Rattle.std.specs.Prelude.{count_by}
use Rattle.fluent_syntax_names.specs.EntryPlaces.{entry_place, is_first_definition}
use Rattle.fluent_syntax_names.proofs.entry_places.entry_count.Given as goal

abbrev pub invariant-loop-mention : goal.invariant-loop-mention
invariant-loop-mention l =
    let text = l.file.text.now in
    let ms = l.file.mentions.items in
    record {
      counted : l.count ≡ count_by (is_first_definition (entry_place text ms) text) (take l.mention-index ms);
      few : l.count ≤ l.mention-index;
    }
