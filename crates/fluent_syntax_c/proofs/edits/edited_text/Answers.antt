use Rattle.std.proofs.Common.{Some, None, ap, refl, subst, sym, ◌∙◌}
use Rattle.fluent_syntax_edits.specs.Edits.{IsEditResult}
use Rattle.fluent_syntax_c.specs.Edits.{Spells, attributes_at, not_found, not_one_entry, part_has_errors, refused}
use Rattle.fluent_syntax_c.proofs.PartsRead.{edit_place_is_by_tree}
use Rattle.fluent_syntax_c.proofs.edits.edited_text.Goals as goal

pub returns-in-Some-Ok-clause-edited : goal.returns-in-Some-Ok-clause-edited
returns-in-Some-Ok-clause-edited c = λ edition t p read is.
    let x = c.in-Some-Ok.ensures.some edition t p read is in
    record {
      edition = edition;
      tiles = read.tiles;
      n = c.in-Some.index;
      change = x.0;
      asks = record {
        has_number = refl;
        has_tiles = read.has_tiles;
        place =
            edit_place_is_by_tree edition t c.args.source.now read c.args.action c.args.name.now c.place_of.result
            (Some c.in-Some.index) c.place_of.ensures c.in-Some.is;
        spells = subst (λ b. Spells edition c.args.action (attributes_at c.in-Some.index b) p x.0) read.tree_is x.1;
      };
      made = c.in-Some-Ok.text;
      answers = subst (λ r. IsEditResult edition t c.in-Some.index x.0 r) c.in-Some-Ok.field-0-is x.2;
      text_is = ap (λ bytes. bytes.items) c.into_bytes.ensures.value;
      outcome_is = read.outcome_is;
    }

pub returns-in-Some-edit_refusal-clause-not_edited : goal.returns-in-Some-edit_refusal-clause-not_edited
returns-in-Some-edit_refusal-clause-not_edited c = λ edition t p read is.
    let x = c.in-Some-Err.ensures.some edition t p read is in
    refused edition read.tiles c.in-Some.index x.0 c.in-Some-Err.fault
    (record {
      has_number = refl;
      has_tiles = read.has_tiles;
      place =
          edit_place_is_by_tree edition t c.args.source.now read c.args.action c.args.name.now c.place_of.result
          (Some c.in-Some.index) c.place_of.ensures c.in-Some.is;
      spells = subst (λ b. Spells edition c.args.action (attributes_at c.in-Some.index b) p x.0) read.tree_is x.1;
    })
    (subst (λ r. IsEditResult edition t c.in-Some.index x.0 r) c.in-Some-Err.field-0-is x.2)
    (sym c.edit_refusal.ensures ∙ c.in-Some-edit_refusal.is)

pub returns-in-Clean-clause-not_edited : goal.returns-in-Clean-clause-not_edited
returns-in-Clean-clause-not_edited c = λ edition t p read is.
    not_one_entry edition refl (c.in-None-edited_source.ensures.none edition p is)

pub returns-in-SyntaxErrors-clause-not_edited :
    goal.returns-in-SyntaxErrors-clause-not_edited
returns-in-SyntaxErrors-clause-not_edited c = λ edition t p read is.
    part_has_errors edition is.tiles refl is.has_tiles (sym is.outcome_is ∙ c.in-SyntaxErrors.is)

pub returns-in-None-clause-not_edited : goal.returns-in-None-clause-not_edited
returns-in-None-clause-not_edited c = λ edition t p read is.
    not_found edition read.tiles refl read.has_tiles
    (edit_place_is_by_tree edition t c.args.source.now read c.args.action c.args.name.now c.place_of.result None
    c.place_of.ensures c.in-None.is)
