use Rattle.std.proofs.Common.{◌<◌, arith, length, refl, sym}
use Rattle.fluent_syntax_tree.specs.Entry.{message}
use Rattle.fluent_syntax_grammar.specs.Grammar.{within}
use Rattle.fluent_syntax_grammar.specs.Tiling.{reads}
use Rattle.fluent_syntax_parser.proofs.tilings.DeeperTiles.{after_one, one_led}
use Rattle.fluent_syntax_parser.proofs.entry_forms.EntryForms.{message_at_letter_is_entry}
use Rattle.fluent_syntax_parser.proofs.tilings.Rests.{entry_at-within, mode_has_tile, rest_entry}
use Rattle.fluent_syntax_parser.proofs.source.Source.next_text_message.Goals as goal

pub returns-clause-next : goal.returns-clause-next
returns-clause-next c =
    let t = c.args.self.now.bytes.now in
    let edition = c.args.options.edition in
    let start = c.tile_start-start in
    let found = c.in_ok-end.ensures in
    let inside : start.result < length t = omega (arith, found.within.0, found.within.1) in
    let there = found.message 0 in
    let read = message_at_letter_is_entry t _ (sym c.if-not-is_letter_at.ensures) edition
    (within edition t 0) _ there.1 in
    let entry = entry_at-within edition t 0 _ read in (
      message there.0,
      record {
        order = (start.ensures.within.0, found.within.0);
        kept = start.ensures.dropped;
        before = start.ensures.rest edition;
        in_place = rest_entry edition t _ _ inside c.args.options.comments start.ensures.dropped _ entry refl;
      },
    )

pub returns-clause-nests : goal.returns-clause-nests
returns-clause-nests c =
    let t = c.args.self.now.bytes.now in
    let edition = c.args.options.edition in
    let comments = c.args.options.comments in
    let n = c.args.options.nesting in
    let start = c.tile_start-start in
    let found = c.in_ok-end.ensures in
    let inside : start.result < length t = omega (arith, found.within.0, found.within.1) in
    let there = found.message n in
    let read = message_at_letter_is_entry t _ (sym c.if-not-is_letter_at.ensures) edition
    (within edition t n) _ there.1 in
    let tile = mode_has_tile comments edition t _ _ _ _ start.ensures.dropped (reads read) in (
      λ deeper. one_led edition t n comments _ _ inside _ tile (start.ensures.shallow edition n deeper),
      λ deeper. start.ensures.deeper edition n (after_one edition t n comments _ _ inside _ tile deeper),
    )
