use Rattle.std.proofs.Common.{ap, ◌∙◌}
use Rattle.fluent_syntax_parser.proofs.entry_forms.MadeEntries.{last_entry_decides_ends_with_comment, last_seen}
use Rattle.fluent_syntax_parser.proofs.tiles.tile.ends_with_comment.Goals as goal

pub returns-in-Some : goal.returns-in-Some
returns-in-Some g c =
    c.is_comment.ensures ∙ ap last_seen c.in-Some.ensures.value ∙ last_entry_decides_ends_with_comment c.args.body.now

pub returns-in-None : goal.returns-in-None
returns-in-None g c = ap last_seen c.in-None.ensures.value ∙ last_entry_decides_ends_with_comment c.args.body.now
