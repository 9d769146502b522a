use Rattle.std.proofs.Common.{◌∙◌, ◌∷◌, ◌++◌, [], ap, map}
use Rattle.std.specs.Prelude.{option_to_list}
use Rattle.fluent_syntax_tree.specs.View.{entry_view}
use Rattle.fluent_syntax_parser.specs.Rest.{faults_of}
use Rattle.fluent_syntax_parser.proofs.tilings.Rests.{entry_at_leads_to_its_end}
use Rattle.ftl.specs.OneByOne.{wrote_none, one_more}
use Rattle.ftl.proofs.ReadTo.{all_is_read_before_end, nothing_is_read_before_start, reading_goes_on_by_entry}
use Rattle.ftl.proofs.one_by_one.write_one_by_one.Goals as goal

pub loop-errors-init : goal.loop-errors-init
loop-errors-init g c =
    let options = c.args.options in
    record {
      text = c.new-entries.ensures.text;
      options = c.new-entries.ensures.options;
      no_entry = c.new-body.ensures.items;
      no_error = c.new-errors.ensures.items;
      so_far = (
        [],
        wrote_none,
        rw c.new-entries.ensures.start (nothing_is_read_before_start options.comments options.edition c.args.text.now),
      );
      deeper = rw c.new-entries.ensures.start (λ d. d, λ d. d);
    }

pub loop-errors-preserved : goal.loop-errors-preserved
loop-errors-preserved g c =
    let t = c.args.text.now in
    let options = c.args.options in
    let inv = c.loop-errors.invariant in
    let here = c.in_ok-_span.ensures in
    let put = rw (inv.text, inv.options, c.in-Some.is, c.new-slices.ensures) at here.next in
    let span = rw c.in-Some.is at here.in_place in
    let in_place = rw span at put.in_place in
    let there =
    entry_at_leads_to_its_end options.comments options.edition t _ _ _ put.tree (faults_of put.error) in_place in
    let longer =
    reading_goes_on_by_entry options.comments options.edition t _ _ _ inv.so_far.2 _ put.tree put.error there in
    let entry = put.added ∙ ap (λ xs. xs ++ put.entry ∷ []) inv.no_entry in
    let error = put.errors_are ∙ ap (λ xs. xs ++ option_to_list put.error) inv.no_error in
    let written = c.write_read-outcome.ensures.written (entry_view (λ s. s.now) put.entry)
    (ap (map (entry_view (λ s. s.now))) (c.deref.ensures.value ∙ entry)) in
    let outcome = c.write_read-outcome.ensures.outcome put.error (c.deref-in-Some.ensures.value ∙ error) in
    record {
      text = ap (λ source. source.bytes.now) here.reads.text ∙ inv.text;
      options = here.reads.options ∙ inv.options;
      no_entry = c.clear.ensures.items;
      no_error = c.clear-in-Some.ensures.items;
      so_far = (
        _,
        one_more inv.so_far.1 (rw put.same at written),
        rw outcome longer,
      );
      deeper =
          let shallow = rw (inv.text, inv.options, c.in-Some.is) at here.reads.shallow in
          (λ d. inv.deeper.0 (shallow.1 d), λ d. shallow.0 (inv.deeper.1 d));
    }

pub returns-clause-written : goal.returns-clause-written
returns-clause-written g c =
    let options = c.args.options in
    let inv = c.loop-errors.invariant in
    let none = rw (inv.text, inv.options, c.in_default.is) at c.in_ok-_span.ensures.next in
    let tiled = all_is_read_before_end options.comments options.edition c.args.text.now _ _ _ inv.so_far.2 none.0 in
    (tiled.0, tiled.1, rw tiled.2 at inv.so_far.1, tiled.3)
