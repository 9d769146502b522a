use Rattle.std.proofs.Common.{◌≡◌, ◌+◌, ◌∷◌, [], ◌++◌, ◌∙◌, ap, map, not, sym, take}
use Rattle.std.specs.Cmp.Lexicographic.{slice_cmp}
use Rattle.std.specs.Ordering.{nat_cmp}
use Rattle.std.proofs.lemmas.List.{map_more}
use Rattle.std.proofs.lemmas.Map.Lookups.{exact_bytes}
use Rattle.fluent_syntax_grammar.proofs.NameKeys.{inserted_key_notes_its_name}
use Rattle.fluent_syntax_writer.specs.Names.{name_of}
use Rattle.fluent_syntax_writer.proofs.rules.Named.{new_names, one_new_name, with_name, first_new_name, used}
use Rattle.fluent_syntax_writer.proofs.rules.Named.{used-next, table-used}
use Rattle.fluent_syntax_writer.proofs.rules.Steps.{rest_decides_after_item_that_passes, item_that_breaks_decides_rest}
use Rattle.fluent_syntax_writer.proofs.canonical.argument_names.have_new_names_by_table.Goals as goal

pub returns-then-not-branch : goal.returns-then-not-branch
returns-then-not-branch g c =
    let f = g.T.ReadTexts.text in
    let named = c.args.named.now in
    let earlier = take c.loop-argument.argument-index named in
    let key = c.as_bytes.result.now in
    let is = c.as_bytes.ensures.value ∙ c.as_str.ensures in
    let found =
    table-used f (λ k. k.now) c.loop-argument.table.keys earlier c.argument-item.result key is
    c.loop-argument.invariant.noted in
    let fails = ap not (sym found) ∙ sym c.in_ok-insert.ensures.added ∙ c.if-not-branch.true in
    item_that_breaks_decides_rest (new_names f) (one_new_name f) (with_name f) (first_new_name f) (used f earlier) named
    _ _ _
    c.loop-argument-test.true c.argument-item.is fails c.loop-argument.invariant.rest

pub loop-argument-preserved : goal.loop-argument-preserved
loop-argument-preserved g c =
    let f = g.T.ReadTexts.text in
    let named = c.args.named.now in
    let i = c.loop-argument.argument-index in
    let earlier = take i named in
    let names = map (name_of f) earlier in
    let key = c.as_bytes.result.now in
    let is = c.as_bytes.ensures.value ∙ c.as_str.ensures in
    let found =
    table-used f (λ k. k.now) c.loop-argument.table.keys earlier c.argument-item.result key is
    c.loop-argument.invariant.noted in
    let holds = ap not (sym found) ∙ sym c.in_ok-insert.ensures.added ∙ c.if-not-branch.false in
    let rest =
    rest_decides_after_item_that_passes (new_names f) (one_new_name f) (with_name f) (first_new_name f) (used f earlier)
    named _ _ _
    c.loop-argument-test.true c.argument-item.is holds c.loop-argument.invariant.rest in
    let all : map (name_of f) (take (i + 1) named) ≡ names ++ key ∷ [] =
    map_more (name_of f) named i c.argument-item.result c.loop-argument-test.true
    ∙ ap (λ n. names ++ name_of f n ∷ []) (sym c.argument-item.is) ∙ ap (λ name. names ++ name ∷ []) (sym is) in
    let more =
    inserted_key_notes_its_name (λ k. k.now) (λ x y. slice_cmp nat_cmp x.now y.now) (λ x y e. exact_bytes x.now y.now e)
    c.loop-argument.table.keys names c.as_bytes.result c.loop-argument.invariant.noted in
    record {
      noted = rw (c.in_ok-insert.ensures.keys, all) more;
      rest = rw (← used-next f named _ _ c.loop-argument-test.true c.argument-item.is) rest;
    }
