use Rattle.std.proofs.Common.{false, get_or, refl}
use Rattle.fluent_syntax_tree.specs.declared.spans.Span.{Span}
use Rattle.fluent_syntax_names.specs.EntryPlaces.{definition_named, entry_place, first_place_in, junk_named}
use Rattle.fluent_syntax_names.specs.FirstPlaces.{place_of}
use Rattle.fluent_syntax_names.specs.declared.mention.Mention.{Mention}
use Rattle.fluent_syntax_names.specs.declared.mention.Mention.TheVariants as says
use Rattle.fluent_syntax_names.proofs.EntryPlaces.{places_are_left_after_next_mention}
use Rattle.fluent_syntax_names.proofs.entry_places.entry_places.Goals as goal

abbrev none : Mention Span
none = says.Message (record { start = 0; end = 0 }) false

pub loop-mention-preserved : goal.loop-mention-preserved
loop-mention-preserved c =
    let text = c.args.text.now in
    let ms = c.args.mentions.now in
    let i = c.loop-mention.mention-index in
    record {
      left = places_are_left_after_next_mention (definition_named text) ms (first_place_in (definition_named text) ms)
          (place_of c.loop-mention.places.table) (place_of c.note_definition.new.places.table) i (get_or ms i none) none
          c.loop-mention-test.true refl c.loop-mention.invariant.left c.in_ok-note_definition.ensures;
    }

pub loop-mention-2-preserved : goal.loop-mention-2-preserved
loop-mention-2-preserved c =
    let text = c.args.text.now in
    let ms = c.args.mentions.now in
    let i = c.loop-mention-2.mention-index in
    record {
      left = places_are_left_after_next_mention (junk_named text) ms (entry_place text ms)
          (place_of c.loop-mention-2.places.table)
          (place_of c.note_junk.new.places.table) i (get_or ms i none) none c.loop-mention-2-test.true refl
          c.loop-mention-2.invariant.left c.in_ok-note_junk.ensures;
    }
