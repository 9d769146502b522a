use Rattle.std.proofs.Common.{[], refl, sym, ◌∙◌}
use Rattle.std.proofs.lemmas.List.{append-nil}
use Rattle.fluent_syntax_names.specs.PluralCategories.{words_of}
use Rattle.fluent_syntax_names.specs.ReferenceGraphs.{set_by}
use Rattle.fluent_syntax_names.specs.Knowing.{knows}
use Rattle.fluent_syntax_names.proofs.Growing.{findings_are_left_after_next_file, findings_after_last_file_are_all}
use Rattle.fluent_syntax_names.proofs.files.findings_in_files.Goals as goal

pub loop-number-init : goal.loop-number-init
loop-number-init c = record { left = λ rest. rw c.new-list.ensures.items refl }

pub loop-number-preserved : goal.loop-number-preserved
loop-number-preserved c =
    let A = set_by (knows c.args.known) c.args.cycles.now in
    let words = words_of c.args.categories in
    record {
      left = findings_are_left_after_next_file A words c.args.files.now c.loop-number.list.items
          c.add_findings.new.list.items c.add_unchosen_keys.new.list.items c.loop-number.number
          c.index-files-number.result c.loop-number-test.true c.index-files-number.is c.loop-number.invariant.left
          (rw c.deref.ensures.value at c.in_ok-add_findings.ensures) c.in_ok-add_unchosen_keys.ensures;
    }

pub returns : goal.returns
returns c =
    let A = set_by (knows c.args.known) c.args.cycles.now in
    let words = words_of c.args.categories in
    sym (append-nil c.loop-number.list.items)
    ∙ findings_after_last_file_are_all A words c.args.files.now c.loop-number.list.items c.loop-number.list.items
    c.loop-number.list.items
    c.loop-number.number
    c.loop-number-test.false c.loop-number.invariant.left []
