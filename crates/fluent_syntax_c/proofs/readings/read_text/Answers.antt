use Rattle.std.proofs.Common.{refl}
use Rattle.fluent_syntax_c.proofs.Recovered.{recovered_answer_is_no_memory_error, recovered_tree_has_parts}
use Rattle.fluent_syntax_c.proofs.Recovered.{recovered_tree_is_that_of_tiles}
use Rattle.fluent_syntax_c.proofs.readings.read_text.Goals as goal

pub returns-in-Ok-recovered-clause-reading : goal.returns-in-Ok-recovered-clause-reading
returns-in-Ok-recovered-clause-reading c =
    let found = c.in-Ok-recovered in
    let h = c.in-Ok.ensures.tiling in
    let same = recovered_tree_is_that_of_tiles found.tree found.errors.items h.0 c.in-Ok.answer h.2
    found.ensures.recovered in
    record {
      is_utf8 = c.utf8.text;
      text_is = refl;
      edition_is = refl;
      tiles = h.0;
      has_tiles = h.1;
      tree_is = same.0;
      errors_are = same.1;
    }

pub returns-in-Ok-recovered-clause-parts : goal.returns-in-Ok-recovered-clause-parts
returns-in-Ok-recovered-clause-parts c =
    let found = c.in-Ok-recovered in
    recovered_tree_has_parts found.tree found.errors.items c.args.text.now c.in-Ok.answer c.in-Ok.ensures.spans
    found.ensures.recovered

pub returns-in-Ok-recovered-clause-shallow : goal.returns-in-Ok-recovered-clause-shallow
returns-in-Ok-recovered-clause-shallow c =
    let found = c.in-Ok-recovered in
    c.in-Ok.ensures.shallow
    (recovered_answer_is_no_memory_error found.tree found.errors.items c.in-Ok.answer found.ensures.recovered)
