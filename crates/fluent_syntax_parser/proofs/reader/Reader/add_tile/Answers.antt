use Rattle.std.proofs.Common.{◌∷◌, ◌++◌, [], None, Some, ap, arith, sym, ◌∙◌}
use Rattle.std.proofs.lemmas.List.{append-nil}
use Rattle.fluent_syntax_grammar.proofs.TotalEntries.{too_deep_entry_has_more_bytes_than_depth}
use Rattle.fluent_syntax_parser.proofs.readers.Fails.{failure_is_refused_as, failure_is_too_deep}
use Rattle.fluent_syntax_parser.proofs.readers.Made.{made_was_read}
use Rattle.fluent_syntax_parser.proofs.tilings.Rests.{TileAt-within}
use Rattle.fluent_syntax_parser.proofs.tilings.TileForms.{read_entry_gives_tile, refused_entry_gives_junk_tile}
use Rattle.fluent_syntax_parser.proofs.tilings.TileForms.{refusal_is_in_text, tile_is_inside_text}
use Rattle.fluent_syntax_parser.proofs.reader.Reader.add_tile.Goals as goal

pub add_junk-requires : goal.add_junk-requires
add_junk-requires g c =
    let found = rw c.in-Err-Refused.field-0-is at c.in-Err-Refused.ensures.adds in
    refusal_is_in_text c.args.self.now.edition c.args.self.now.source.bytes.now c.args.start 0 c.requires c.args.nesting
    _
    (failure_is_refused_as found.0)

pub returns-in-Ok-clause-adds : goal.returns-in-Ok-clause-adds
returns-in-Ok-clause-adds g c =
    let read = c.in-Ok.ensures.adds in
    made_was_read read.2 (λ tree there same. record {
      entry = read.0;
      error = None;
      added = read.1;
      errors_are = sym (append-nil c.args.errors.now.items);
      tile = record {
        tree = tree;
        yields = read_entry_gives_tile c.args.self.now.edition c.args.self.now.source.bytes.now c.args.start _
            c.requires _ tree there;
        same = same;
      };
    })

pub returns-in_ok-end-in-Err-Refused-clause-adds : goal.returns-in_ok-end-in-Err-Refused-clause-adds
returns-in_ok-end-in-Err-Refused-clause-adds g c =
    let found = rw c.in-Err-Refused.field-0-is at c.in-Err-Refused.ensures.adds in
    let read = c.in_ok-end-in-Err-Refused.ensures in
    let put = read.adds in
    record {
      entry = put.entry;
      error = Some put.error;
      added = put.added ∙ ap (λ xs. xs ++ put.entry ∷ []) found.1;
      errors_are = put.errors_are;
      tile = record {
        tree = _;
        yields = refused_entry_gives_junk_tile c.args.self.now.edition c.args.self.now.source.bytes.now c.args.start _
            c.requires _ _ (failure_is_refused_as found.0) _ read.ends put.fault;
        same = put.same;
      };
    }

pub returns-in_ok-end-in-Err-Refused-clause-within : goal.returns-in_ok-end-in-Err-Refused-clause-within
returns-in_ok-end-in-Err-Refused-clause-within g c =
    let t = c.args.self.now.source.bytes.now in
    let made = (returns-in_ok-end-in-Err-Refused-clause-adds g c).tile in
    tile_is_inside_text c.args.self.now.edition t c.args.start _ c.requires made.yields.tile
    (TileAt-within c.args.self.now.edition t _ _ _ made.yields.tile made.yields.in_place)

pub returns-in-Err-TooDeep-clause-deeper : goal.returns-in-Err-TooDeep-clause-deeper
returns-in-Err-TooDeep-clause-deeper g c = λ e.
    failure_is_too_deep (rw c.in-Err-TooDeep.field-0-is at c.in-Err-TooDeep.ensures.adds).0

pub returns-in-Err-TooDeep-clause-nests : goal.returns-in-Err-TooDeep-clause-nests
returns-in-Err-TooDeep-clause-nests g c = λ e.
    too_deep_entry_has_more_bytes_than_depth c.args.self.now.edition c.args.self.now.source.bytes.now _ _
    (omega (arith, c.requires))
    (failure_is_too_deep (rw c.in-Err-TooDeep.field-0-is at c.in-Err-TooDeep.ensures.adds).0)
