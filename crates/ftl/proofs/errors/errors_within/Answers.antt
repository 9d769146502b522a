use Rattle.std.proofs.Common.{◌≤◌, length, ap, ◌∙◌, subst, sym}
use Rattle.std.proofs.lemmas.List.Elements.{All-nil}
use Rattle.std.proofs.lemmas.Result.{err_from_is_err_and}
use Rattle.std.specs.Prelude.{All}
use Rattle.fluent_syntax_tree.specs.declared.errors.ParserError.{ParserError}
use Rattle.fluent_syntax_parser.specs.Rest.{faults_of}
use Rattle.fluent_syntax_parser.specs.declared.options.Comments.TheVariants.{Kept}
use Rattle.fluent_syntax_parser.proofs.tilings.Rests.{entry_at_leads_to_its_end}
use Rattle.ftl.proofs.ErrorsTo.{ErrorsTo, errors_before_end_are_all, all_hold_with_one_more_error}
use Rattle.ftl.proofs.ErrorsTo.{errors_grow_by_those_of_entry, no_errors_are_before_start}
use Rattle.ftl.proofs.errors.errors_within.Goals as goal

pub loop-errors-init : goal.loop-errors-init
loop-errors-init c = record {
  text = c.new-entries.ensures.text;
  options = c.new-entries.ensures.options;
  errors = rw (c.new-entries.ensures.start, c.new-errors.ensures.items)
      (no_errors_are_before_start c.args.edition c.args.text.now);
  places = rw c.new-errors.ensures.items (All-nil (λ (e : ParserError). e.pos.start ≤ length c.args.text.now));
  deeper = rw c.new-entries.ensures.start (λ d. d, λ d. d);
}

pub loop-errors-preserved : goal.loop-errors-preserved
loop-errors-preserved c =
    let t = c.args.text.now in
    let inv = c.loop-errors.invariant in
    let here = c.in_ok-error.ensures in
    let next = rw (inv.text, inv.options, c.in-Some.is) at here.next in
    let error = c.in-Some.error in
    let there = entry_at_leads_to_its_end Kept c.args.edition t _ _ _ next.0 (faults_of error) next.1 in
    record {
      text = ap (λ source. source.bytes.now) here.reads.text ∙ inv.text;
      options = here.reads.options ∙ inv.options;
      errors =
          subst (ErrorsTo c.args.edition t _) (sym c.in_ok-push_if_error.ensures)
          (errors_grow_by_those_of_entry c.args.edition t _ _ _ next.0 error inv.errors there);
      places =
          let is_inside : ParserError → Type 0 = λ e. e.pos.start ≤ length t in
          subst (All is_inside) (sym c.in_ok-push_if_error.ensures)
          (all_hold_with_one_more_error is_inside _ error inv.places (rw (inv.text, c.in-Some.is) at here.places));
      deeper =
          let shallow = rw (inv.text, inv.options, c.in-Some.is) at here.reads.shallow in
          (λ d. inv.deeper.0 (shallow.1 d), λ d. shallow.0 (inv.deeper.1 d));
    }

-- ---- the end

pub returns-clause-errors : goal.returns-clause-errors
returns-clause-errors c =
    let inv = c.loop-errors.invariant in
    let none = rw (inv.text, inv.options, c.in_default.is) at c.in_ok-error.ensures.next in
    errors_before_end_are_all c.args.edition c.args.text.now _ _ inv.errors none

-- ---- where it nests too deeply

pub returns-in_err-error-clause-deeper : goal.returns-in_err-error-clause-deeper
returns-in_err-error-clause-deeper c =
    let inv = c.loop-errors.invariant in
    let deeper = rw (inv.text, inv.options) at c.in_err-error.ensures.reads.deeper in
    let halt = err_from_is_err_and c.from_residual.result c.from_residual.ensures.1 in
    rw (halt.1, halt.2) (λ deep. inv.deeper.0 (deeper deep))
