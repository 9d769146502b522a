use Rattle.std.proofs.Common.{arith}
use Rattle.fluent_syntax_tree.specs.Entry.{body_map}
use Rattle.fluent_syntax_parser.proofs.tilings.AnswerOf.{result_answers_tiles}
use Rattle.fluent_syntax_parser.proofs.tilings.ErrorPlaces.{errors_of_answer_in_mode_are_in_text}
use Rattle.fluent_syntax_parser.proofs.tilings.PartsOfEntries.{rest_of_text_has_entries}
use Rattle.fluent_syntax_parser.proofs.spans.parse_texts.Goals as goal

pub returns-in-Err-Memory-clause-tiling : goal.returns-in-Err-Memory-clause-tiling
returns-in-Err-Memory-clause-tiling g c =
    let some = rest_of_text_has_entries c.args.source.now c.args.options.edition c.args.options.comments 0
    (omega arith) in
    (some.2.tiles, some.2.tiled, tt)

pub returns-in-Ok-clause-tiling : goal.returns-in-Ok-clause-tiling
returns-in-Ok-clause-tiling g c =
    let read = rw c.as_bytes.ensures.value at c.in-Ok.ensures.read in
    let answer = c.answer_of.ensures in (
      read.rest.tiles,
      read.rest.tiled,
      result_answers_tiles g.M.MakeTexts.made (body_map (g.M.MakeTexts.source c.args.texts.now)) read.rest.tiles _ _
          c.answer_of.result answer.clean answer.syntax (rw read.rest.yields read.same) read.rest.errors_are,
    )

pub returns-in-Ok-clause-places : goal.returns-in-Ok-clause-places
returns-in-Ok-clause-places g c =
    errors_of_answer_in_mode_are_in_text c.args.source.now g.M.MakeTexts.made
    (body_map (g.M.MakeTexts.source c.args.texts.now))
    c.args.options.edition c.answer_of.result c.args.options.comments (returns-in-Ok-clause-tiling g c)

pub returns-in-Ok-clause-blank : goal.returns-in-Ok-clause-blank
returns-in-Ok-clause-blank g c = λ block.
    let blank = rw c.as_bytes.ensures.value at c.in-Ok.ensures.blank in
    let clean = c.answer_of.ensures.clean (blank block) in
    rw clean

pub returns-in-Ok-clause-shallow : goal.returns-in-Ok-clause-shallow
returns-in-Ok-clause-shallow g c =
    let shallow = rw c.as_bytes.ensures.value at c.in-Ok.ensures.shallow in
    λ other deeper. shallow deeper
