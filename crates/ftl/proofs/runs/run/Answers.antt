use Rattle.std.proofs.Common.{◌≡◌, ℕ, List, string_bytes, subst, ◌∙◌}
use Rattle.std.proofs.lemmas.Result.{err_from_is_err_and}
use Rattle.ftl.specs.Answer.{IsAnswer}
use Rattle.ftl.specs.Run.{AppendsBeginning, IsRunAnswer}
use Rattle.ftl.specs.Watched.{inner_of}
use Rattle.ftl.specs.declared.outcome.RunFault.TheVariants.{Output}
use Rattle.ftl.proofs.runs.run.Goals as goal

pub returns-in_err-write_all-clause-text : goal.returns-in_err-write_all-clause-text
returns-in_err-write_all-clause-text g c =
    let old = g.W.Write.contents (inner_of c.args.writer.now) in
    let new = g.W.Write.contents (inner_of c.write_all.new.writer) in
    let p = err_from_is_err_and c.from_residual-in_err-write_all.result c.from_residual-in_err-write_all.ensures.1 in
    let output : p.0 ≡ Output = p.2 ∙ c.in_err-write_all.ensures.failed.0 in
    let answered :
    IsRunAnswer c.args.command (g.R.Read.remaining (inner_of c.args.reader.now)) (string_bytes c.in_ok-text.text)
    c.in_ok-text.outcome = record {
      read = c.in_ok-input.input.items;
      is_input = c.in_ok-input.ensures.all;
      answer =
          subst (λ (t : List ℕ). IsAnswer c.args.command t (string_bytes c.in_ok-text.text) c.in_ok-text.outcome)
          c.as_slice.ensures.value c.in_ok-text.ensures.text;
    } in
    rw (p.1, output) (
      string_bytes c.in_ok-text.text,
      c.in_ok-text.outcome,
      answered,
      subst (λ (t : List ℕ). AppendsBeginning old new t) c.as_bytes.ensures.value
          c.in_err-write_all.ensures.beginning,
    )
