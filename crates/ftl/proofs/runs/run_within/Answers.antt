use Rattle.std.proofs.Common.{◌≡◌, ◌∙◌, ℕ, List, None, Option, Some, string_bytes, subst}
use Rattle.std.proofs.lemmas.Result.{err_from_is_err_and}
use Rattle.std.specs.Prelude.{IfSome}
use Rattle.std.specs.Str.{IsUtf8}
use Rattle.ftl.specs.Answer.{IsAnswer}
use Rattle.ftl.specs.Run.{AppendsBeginning, IsRunAnswer}
use Rattle.ftl.specs.Watched.{inner_of}
use Rattle.ftl.proofs.runs.run_within.Goals as goal

known_is_utf8 : (bytes : Option (List ℕ)) (read text : List ℕ) → text ≡ read → IfSome bytes (λ known. read ≡ known) →
    (¬ (IsUtf8 text) → ⊥) → IfSome bytes (λ known. ¬ (IsUtf8 known) → ⊥)
known_is_utf8 None read text same is reads = tt
known_is_utf8 (Some known) read text same is reads = λ none. reads (λ utf8. none (subst IsUtf8 (same ∙ is) utf8))

-- of bytes that are no text nothing nests
pub returns-in_err-text-clause-no_text : goal.returns-in_err-text-clause-no_text
returns-in_err-text-clause-no_text g c =
    let p = err_from_is_err_and c.from_residual.result c.from_residual.ensures.1 in
    rw p.1 (known_is_utf8 (g.R.Read.remaining (inner_of c.args.reader.now)) c.in-Ok.input.items c.as_slice.result.now
    c.as_slice.ensures.value c.in-Ok.ensures.all (λ none. let input = c.in_err-text.ensures.input.1 none in cc))

pub returns-in-Ok-2-clause-text : goal.returns-in-Ok-2-clause-text
returns-in-Ok-2-clause-text g c =
    let old = g.W.Write.contents (inner_of c.args.writer.now) in
    let new = g.W.Write.contents (inner_of c.write_all.new.writer) in
    let given = rw c.in-Ok-2.is at c.in_ok-text.ensures.text in
    let answered :
    IsRunAnswer c.args.command (g.R.Read.remaining (inner_of c.args.reader.now)) (string_bytes c.in-Ok-2.text)
    c.in-Ok-2.outcome = record {
      read = c.in-Ok.input.items;
      is_input = c.in-Ok.ensures.all;
      answer =
          subst (λ (t : List ℕ). IsAnswer c.args.command t (string_bytes c.in-Ok-2.text) c.in-Ok-2.outcome)
          c.as_slice.ensures.value given;
    } in
    rw (c.in-Err-write_all.ensures.failed.0) (
      string_bytes c.in-Ok-2.text,
      c.in-Ok-2.outcome,
      answered,
      subst (λ (t : List ℕ). AppendsBeginning old new t) c.as_bytes.ensures.value
          c.in-Err-write_all.ensures.beginning,
    )
