use Rattle.std.proofs.Common.{arith, subst, sym}
use Rattle.std.proofs.lemmas.List.{take_all}
use Rattle.std.proofs.lemmas.List.Elements.{All-more, All-nil, All-push, All-same}
use Rattle.fluent_syntax_c.specs.Depth.{EditionReadsDeeper}
use Rattle.fluent_syntax_c.specs.NameIndexes.{AreNameIndexes, IsShort, no_name_indexes}
use Rattle.fluent_syntax_c.proofs.NameIndexes.{none_refutes_any, AreNameIndexes-more}
use Rattle.fluent_syntax_c.proofs.name_indexes.name_indexes.Goals as goal

pub loop-text-init : goal.loop-text-init
loop-text-init c = record {
  so_far = rw c.new-name_indexes.ensures.items no_name_indexes;
  short = rw c.new-name_indexes.ensures.items (All-nil IsShort);
  shallow = λ k d l. absurd (omega (arith, l));
}

pub loop-text-preserved : goal.loop-text-preserved
loop-text-preserved c =
    let texts = c.args.texts.now in
    let i = c.loop-text.text-index in
    let inv = c.loop-text.invariant in
    let here = c.in_ok-name_index in
    let added = c.in-Ok.ensures in
    record {
      so_far =
          AreNameIndexes-more c.args.edition texts i _ c.loop-text.name_indexes.items
          c.add_name_index.new.name_indexes.items here.name_index
          c.loop-text.outcome here.found c.either_outcome-outcome.result inv.so_far here.ensures.name_index
          c.loop-text-test.true added c.either_outcome-outcome.ensures;
      short = rw added (All-push IsShort c.loop-text.name_indexes.items here.name_index inv.short here.ensures.short);
      shallow =
          All-more (λ text. EditionReadsDeeper c.args.edition text.text.now c.args.nesting → ⊥) texts i _
          c.loop-text-test.true inv.shallow here.ensures.shallow;
    }

pub returns-clause-name_indexes : goal.returns-clause-name_indexes
returns-clause-name_indexes c =
    subst (λ texts. AreNameIndexes c.args.edition texts c.loop-text.name_indexes.items c.loop-text.outcome)
    (take_all c.loop-text.text-index c.args.texts.now c.loop-text-test.false) c.loop-text.invariant.so_far

pub returns-clause-shallow : goal.returns-clause-shallow
returns-clause-shallow c =
    let texts = c.args.texts.now in
    let all = sym (take_all c.loop-text.text-index texts c.loop-text-test.false) in
    none_refutes_any (λ text. EditionReadsDeeper c.args.edition text.text.now c.args.nesting) texts
    (All-same (λ text. EditionReadsDeeper c.args.edition text.text.now c.args.nesting → ⊥) texts _ all
    c.loop-text.invariant.shallow)
