use Rattle.std.proofs.Common.{◌++◌, ℕ, List, ap, ◌∙◌, sym, append_assoc, take, drop, arith}
use Rattle.std.proofs.lemmas.List.{take-append-drop, take_all, length-drop}
use Rattle.ftl.specs.Watched.{inner_of}
use Rattle.ftl.proofs.Bytes.{Appends-more}
use Rattle.ftl.proofs.runs.write_all.Goals as goal

pub loop-rest-preserved : goal.loop-rest-preserved
loop-rest-preserved g c =
    let n = c.in-Some.count in
    let rest : List ℕ = c.loop-rest.rest.now in
    let done : List ℕ = c.loop-rest.invariant.0 in
    let contents = g.W.Write.contents in (
      done ++ take n rest,
      c.loop-rest.invariant.1 ∙ ap (λ l. done ++ l) (sym (take-append-drop n rest))
          ∙ sym (append_assoc done (take n rest) (drop n rest))
          ∙ ap (λ l. (done ++ take n rest) ++ l) (sym (take_all _ (drop n rest) (omega (arith, length-drop n rest)))),
      Appends-more (contents (inner_of c.args.writer.now)) (contents (inner_of c.loop-rest.writer))
          (contents (inner_of c.write.new.self)) done (take n rest) c.loop-rest.invariant.2 c.in-Some.ensures.bytes,
    )
