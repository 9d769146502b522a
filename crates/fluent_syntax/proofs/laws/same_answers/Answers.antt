use Rattle.fluent_syntax_tree.specs.Entry.{body_map}
use Rattle.fluent_syntax_tree.specs.Spans.{bytes_at}
use Rattle.fluent_syntax.proofs.SameAnswersLemmas.{answers_of_one_text_are_same, runtime_answers_of_one_text_are_same}
use Rattle.fluent_syntax.proofs.laws.same_answers.Goals as goal

pub returns-clause-tiling : goal.returns-clause-tiling
returns-clause-tiling g c =
    λ h k. answers_of_one_text_are_same g.S.Slice.text g.Z.Slice.text
    (body_map (bytes_at c.args.text.now)) c.args.edition
    c.args.text.now c.args.a.now c.args.b.now h k

pub returns-clause-runtime : goal.returns-clause-runtime
returns-clause-runtime g c =
    λ h k. runtime_answers_of_one_text_are_same g.S.Slice.text g.Z.Slice.text
    (body_map (bytes_at c.args.text.now)) c.args.edition
    c.args.text.now c.args.a.now c.args.b.now h k
