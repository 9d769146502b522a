use Rattle.std.proofs.Common.{rules, ◌≤◌, length}
use Rattle.std.proofs.lemmas.List.Elements.{All-push}
use Rattle.ftl_files.specs.Reading.{IsOf}
use Rattle.ftl_files.specs.declared.limits.TheConstants.{FILES_LIMIT}
use Rattle.ftl_files.specs.declared.reading.SourceFile.{SourceFile}
use Rattle.ftl_files.proofs.ReadingLemmas.{total-append}
use Rattle.ftl_files.proofs.reading.read_files.Goals as goal

pub loop-path-preserved-in_ok-push-in-Some-2 : goal.loop-path-preserved-in_ok-push-in-Some-2
loop-path-preserved-in_ok-push-in-Some-2 g c =
    let had = c.loop-path.found.items in
    let file : SourceFile = record { path = c.in-Some.path; text = c.in-Some-2.text } in
    let Is = IsOf (g.F.Folders.bytes_at c.args.files.now) c.args.folder.now in
    let is_of : Is file = record { below = search rules; text = search rules } in
    let few : length c.push.new.self.items ≤ FILES_LIMIT = search rules in
    record {
      files = rw (c.in_ok-push-in-Some-2.ensures.items) (All-push Is had file c.loop-path.invariant.files is_of);
      few = few;
      bytes = rw (c.in_ok-push-in-Some-2.ensures.items, total-append had file) (search rules);
    }
