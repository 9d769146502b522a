-- The texts of each entry that is read are parts of the source.
use Rattle.std.proofs.Common.{ℕ, ◌≤◌, List, [], ◌∷◌, ◌++◌, length, map, Option, Some, subst, refl}
use Rattle.std.specs.Str.{IsUtf8}
use Rattle.fluent_syntax_tree.specs.Entry.{BodyTree, EntryTree}
use Rattle.fluent_syntax_tree.specs.Every.{body_every, entry_every}
use Rattle.fluent_syntax_tree.specs.Spans.{IsTextRange}
use Rattle.fluent_syntax_tree.specs.declared.edition.Edition.{Edition}
use Rattle.fluent_syntax_tree.specs.declared.spans.Span.{Span}
use Rattle.fluent_syntax_grammar.specs.Body.{body, faults}
use Rattle.fluent_syntax_grammar.specs.Grammar.{family}
use Rattle.fluent_syntax_grammar.specs.Tiling.{Fault, Tile, Tiled}
use Rattle.fluent_syntax_grammar.proofs.JunkAndSpans.{body_in_text, runtime_body_is_in_text}
use Rattle.fluent_syntax_grammar.proofs.SomeTiling.{some_runtime_tiles_cover_rest_of_text}
use Rattle.fluent_syntax_grammar.proofs.SomeTiling.{some_tiles_cover_rest_of_text}
use Rattle.fluent_syntax_parser.specs.Rest.{Rest, TileIn}
use Rattle.fluent_syntax_parser.specs.declared.options.Comments.{Comments}
use Rattle.fluent_syntax_parser.specs.declared.options.Comments.TheVariants.{Kept, Dropped}

-- the last of some entries, each of whose texts is a part
body_every_holds_for_entry : (P : Span → Type 0) (before : BodyTree Span) (e : EntryTree Span) (after : BodyTree Span) →
    body_every P (before ++ e ∷ after) → entry_every P e
body_every_holds_for_entry P [] e after (here, others) = here
body_every_holds_for_entry P (x ∷ before) e after (here, others) = body_every_holds_for_entry P before e after others

module _ (t : List ℕ) (edition : Edition) where
  -- from each place of a text on something is left
  pub rest_of_text_has_entries : (comments : Comments) (i : ℕ) → i ≤ length t →
      (entries : BodyTree Span) × (errors : List (Option Fault)) × Rest comments edition t i entries errors
  rest_of_text_has_entries Kept i inside = let some = some_tiles_cover_rest_of_text edition t i inside in (
    body some.0,
    map Some (faults some.0),
    record {
      tiles = some.0;
      tiled = some.1;
      yields = refl;
      errors_are =
          refl;
    },
  )
  rest_of_text_has_entries Dropped i inside = let some = some_runtime_tiles_cover_rest_of_text edition t i inside in (
    body some.0,
    map Some (faults some.0),
    record {
      tiles = some.0;
      tiled = some.1;
      yields = refl;
      errors_are =
          refl;
    },
  )

  pub body_of_tiles_has_parts_in_text : (comments : Comments) (tiles : List Tile) → IsUtf8 t →
      Tiled t (TileIn comments edition t (family edition t)) 0 tiles →
      body_every (IsTextRange t) (body tiles)
  body_of_tiles_has_parts_in_text Kept tiles utf8 tiled = body_in_text edition t tiles utf8 tiled
  body_of_tiles_has_parts_in_text Dropped tiles utf8 tiled = runtime_body_is_in_text edition t tiles utf8 tiled

  -- the texts of an entry that comes in the whole text after others are parts
  pub entry_of_rest_has_parts_in_text : (comments : Comments) (before : BodyTree Span) (e : EntryTree Span)
      (after : BodyTree Span)
      (errors : List (Option Fault)) → IsUtf8 t → Rest comments edition t 0 (before ++ e ∷ after) errors →
      entry_every (IsTextRange t) e
  entry_of_rest_has_parts_in_text comments before e after errors utf8 rest =
      body_every_holds_for_entry (IsTextRange t) before e after
      (subst (body_every (IsTextRange t)) rest.yields
      (body_of_tiles_has_parts_in_text comments rest.tiles utf8 rest.tiled))
