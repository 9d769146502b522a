use Rattle.std.proofs.Common.{arith, refl}
use Rattle.std.proofs.lemmas.Result.{IfOk-weaker}
use Rattle.fluent_syntax_parser.proofs.patterns.Opening.{no_run_added, pushed_text_adds_run}
use Rattle.fluent_syntax_parser.proofs.reader.Reader.add_text_run.Goals as goal

pub returns-then-start-end : goal.returns-then-start-end
returns-then-start-end g c =
    let f = g.M.MakeTexts.source c.args.self.now.texts.now in
    IfOk-weaker c.add_text.result _ _ (λ done added.
    pushed_text_adds_run f g.M.MakeTexts.made c.args.run.start c.args.run.end _ _
    (omega (arith, c.if-start-end.true)) added)
    c.add_text.ensures

pub returns-else-start-end : goal.returns-else-start-end
returns-else-start-end g c =
    no_run_added (g.M.MakeTexts.source c.args.self.now.texts.now) g.M.MakeTexts.made c.args.run.start c.args.run.end _ _
    (omega (arith, c.if-start-end.false)) refl
