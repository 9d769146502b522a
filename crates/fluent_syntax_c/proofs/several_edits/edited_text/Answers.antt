use Rattle.std.proofs.Common.{Err, Ok, ap, map, refl, sym, ◌∙◌}
use Rattle.fluent_syntax_edits.specs.SeveralEdits.{numbered_change}
use Rattle.fluent_syntax_c.specs.SeveralEdits.{refused}
use Rattle.fluent_syntax_c.proofs.PartChanges.{answer_of_source_is_of_text}
use Rattle.fluent_syntax_c.proofs.several_edits.edited_text.Goals as goal

pub returns-in-Ok-clause-edited : goal.returns-in-Ok-clause-edited
returns-in-Ok-clause-edited c = λ by t is es ask. record {
  edition = by;
  has_number = refl;
  tiles = is.tiles;
  has_tiles = is.has_tiles;
  cs = map numbered_change c.args.edits.now;
  ask = ask;
  made = c.in-Ok.text;
  answers =
      answer_of_source_is_of_text by t c.args.source.now is (map numbered_change c.args.edits.now)
      (Ok c.in-Ok.text) c.in-Ok.ensures;
  text_is = ap (λ bytes. bytes.items) c.into_bytes.ensures.value;
  outcome_is = is.outcome_is;
}

pub returns-in-Some-clause-not_edited : goal.returns-in-Some-clause-not_edited
returns-in-Some-clause-not_edited c = λ by t is es ask.
    refused by is.tiles (map numbered_change c.args.edits.now) c.in-Err.fault refl is.has_tiles ask
    (answer_of_source_is_of_text by t c.args.source.now is (map numbered_change c.args.edits.now) (Err c.in-Err.fault)
    c.in-Err.ensures)
    (sym c.edit_refusal.ensures ∙ c.in-Some.is)
