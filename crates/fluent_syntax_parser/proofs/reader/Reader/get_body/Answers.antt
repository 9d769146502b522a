use Rattle.std.proofs.Common.{rules}
use Rattle.fluent_syntax_parser.specs.Rest.{faults_of}
use Rattle.fluent_syntax_parser.proofs.entry_forms.MadeEntries.{body_made_to_end_is_whole, nothing_is_made_at_start}
use Rattle.fluent_syntax_parser.proofs.entry_forms.MadeEntries.{made_body_grows_by_entry}
use Rattle.fluent_syntax_parser.proofs.entry_forms.MadeEntries.{faults_of_stated_errors_append}
use Rattle.fluent_syntax_parser.proofs.tilings.Rests.{entry_at_leads_to_its_end}
use Rattle.fluent_syntax_parser.proofs.reader.Reader.get_body.Goals as goal

pub loop-errors-init : goal.loop-errors-init
loop-errors-init g c =
    let f = g.M.MakeTexts.source c.args.self.now.texts.now in
    record {
      within = search rules;
      read = rw (c.reserve.ensures.items, c.new-body.ensures.items, c.new-errors.ensures.items)
          (nothing_is_made_at_start f g.M.MakeTexts.made c.args.comments c.args.self.now.edition
          c.args.self.now.source.bytes.now);
      deeper = λ h. h;
      shallow = λ h. h;
      blank = search rules;
    }

pub loop-errors-preserved : goal.loop-errors-preserved
loop-errors-preserved g c =
    let old = c.loop-errors in
    let f = g.M.MakeTexts.source c.args.self.now.texts.now in
    let next = rw c.in-Some.is at c.in_ok-span.ensures.next in
    let in_place =
    entry_at_leads_to_its_end c.args.comments c.args.self.now.edition c.args.self.now.source.bytes.now _ _ _ next.tree _
    next.in_place in
    let nested = rw c.in-Some.is at c.in_ok-span.ensures.shallow in
    record {
      within = search rules;
      read = made_body_grows_by_entry f g.M.MakeTexts.made c.args.comments c.args.self.now.edition
          c.args.self.now.source.bytes.now _ _ _
          old.invariant.read _ next.entry next.tree (faults_of next.error) in_place next.same _ next.added _
          (faults_of_stated_errors_append _ _ next.error next.errors_are);
      deeper = λ h. old.invariant.deeper (nested.1 h);
      shallow = λ h. nested.0 (old.invariant.shallow h);
      blank = search rules;
    }

pub returns-in_default-clause-read : goal.returns-in_default-clause-read
returns-in_default-clause-read g c =
    let f = g.M.MakeTexts.source c.args.self.now.texts.now in
    let none = rw c.in_default.is at c.in_ok-span.ensures.next in
    rw (none.1, none.2)
    (body_made_to_end_is_whole f g.M.MakeTexts.made c.args.comments c.args.self.now.edition
    c.args.self.now.source.bytes.now _ _ _
    c.loop-errors.invariant.read none.0)
