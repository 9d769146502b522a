use Rattle.std.proofs.Common.{◌≡◌, ◌∙◌, ◌+◌, ◌<◌, ◌++◌, ◌∷◌, [], ap, arith, length, suc, sym, take}
use Rattle.std.specs.Cmp.Lexicographic.{slice_cmp}
use Rattle.std.specs.Ordering.{nat_cmp}
use Rattle.std.proofs.Math.Seq.{take-suc}
use Rattle.std.proofs.lemmas.List.{map-append}
use Rattle.std.proofs.lemmas.Map.Lookups.{exact_bytes}
use Rattle.fluent_syntax_tree.specs.Spans.{bytes_at}
use Rattle.fluent_syntax_parser.specs.Gathered.{names_in_order}
use Rattle.fluent_syntax_grammar.proofs.NameKeys.{inserted_key_notes_its_name}
use Rattle.fluent_syntax_parser.proofs.expression.argument_names.SeenNames.note_all.Goals as goal

pub loop-index-preserved : goal.loop-index-preserved
loop-index-preserved c =
    let t = c.args.source.now.bytes.now in
    let old = c.loop-index in
    let names = old.self.names.items in
    let key = c.bytes_of.result in
    let more = inserted_key_notes_its_name (λ k. k.now) (λ x y. slice_cmp nat_cmp x.now y.now)
    (λ x y e. exact_bytes x.now y.now e)
    old.self.table.keys (names_in_order t (take old.index names)) key old.invariant.noted in
    let item = c.bytes_of.ensures ∙ ap (bytes_at t) c.index.ensures in
    let step : old.index + 1 ≡ suc old.index = omega arith in
    let same = ap (λ v. length v.items) old.invariant.names in
    let there : old.index < length names =
    omega (arith, same, c.loop-index-test.true, c.len-index-end.ensures, c.args.self.now.names.ok.0) in
    let all : names_in_order t (take (old.index + 1) names) ≡ names_in_order t (take old.index names) ++ key.now ∷ [] =
    ap (λ k. names_in_order t (take k names)) step
    ∙ ap (names_in_order t) (take-suc names old.index _ there)
    ∙ map-append (bytes_at t) (take old.index names) _
    ∙ ap (λ n. names_in_order t (take old.index names) ++ n ∷ []) (sym item) in
    record { names = old.invariant.names; noted = rw (c.in_ok-insert.ensures.keys, all) more }
