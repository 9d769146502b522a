use Rattle.std.proofs.Common.{ℕ, leb, cond, bit_and, refl, arith}
use Rattle.std.proofs.lemmas.Simd.{length-chunk, splat_is_map, zip2_of_maps, zip2_splat}
use lib.Lanes.{chunk}
use Rattle.fluent_syntax_grammar.specs.Bytes.{is_name_byte}
use Rattle.fluent_syntax_grammar.proofs.LaneRuns.{lanes_count_run}
use Rattle.fluent_syntax_grammar.proofs.lanes.name_run.Goals as goal

pub returns : goal.returns
returns c =
    let t = c.args.bytes.now in
    let v = chunk c.args.at 16 t in
    let long = length-chunk c.args.at 16 t c.requires in
    let from_letter = zip2_of_maps _ _ _ v (zip2_splat {Y = ℕ} _ v 16 32 long) (splat_is_map v 16 97 long) in
    let from_digit = zip2_splat {Y = ℕ} _ v 16 48 long in
    let no_letter = zip2_of_maps (λ a b. cond (leb a b) 255 0) _ _ v (splat_is_map v 16 26 long) from_letter in
    let no_digit = zip2_of_maps (λ a b. cond (leb a b) 255 0) _ _ v (splat_is_map v 16 10 long) from_digit in
    let no_hyphen = zip2_splat {Y = ℕ} _ v 16 45 long in
    let no_underscore = zip2_splat {Y = ℕ} _ v 16 95 long in
    record {
      run = lanes_count_run is_name_byte t c.args.at 16 _ c.requires (omega arith) c.type_inv.bytes _ refl _
          (zip2_of_maps bit_and _ _ v (zip2_of_maps bit_and _ _ v no_letter no_digit)
          (zip2_of_maps bit_and _ _ v no_hyphen no_underscore))
          c.lanes_before.ensures;
    }
