use Rattle.std.proofs.Common.{ℕ, bit_or, refl, arith}
use Rattle.std.proofs.lemmas.Simd.{length-chunk, zip2_of_maps, zip2_splat}
use lib.Lanes.{chunk}
use Rattle.fluent_syntax_grammar.specs.Lanes.{is_passed}
use Rattle.fluent_syntax_grammar.proofs.LaneRuns.{lanes_count_run}
use Rattle.fluent_syntax_grammar.proofs.lanes.text_run.Goals as goal

pub returns : goal.returns
returns c =
    let t = c.args.bytes.now in
    let v = chunk c.args.at 16 t in
    let long = length-chunk c.args.at 16 t c.requires in
    let is_lf = zip2_splat {Y = ℕ} _ v 16 10 long in
    let opens = zip2_splat {Y = ℕ} _ v 16 123 long in
    let closes = zip2_splat {Y = ℕ} _ v 16 125 long in
    record {
      run = lanes_count_run is_passed t c.args.at 16 _ c.requires (omega arith) c.type_inv.bytes _ refl _
          (zip2_of_maps bit_or _ _ v is_lf (zip2_of_maps bit_or _ _ v opens closes)) c.lanes_before.ensures;
    }
