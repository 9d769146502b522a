use Rattle.std.proofs.Common.{◌≡◌, ◌∙◌, ◌-◌, ◌<◌, ◌≤◌, ap, arith, get_or, leb, length, map, rules, sym}
use Rattle.std.proofs.lemmas.List.Sorted.{IsPartitionPoint-from_clause, IsPartitionedBy-leb}
use Rattle.ftl_files.specs.CommentRules.{comment_words, start_of}
use Rattle.ftl_files.specs.declared.comment_rules.CommentedEntry.{CommentedEntry}
use Rattle.ftl_files.proofs.CommentedEntries.{last_before_point_is_latest, latest_is_0_if_all_are_beyond}
use Rattle.ftl_files.proofs.comment_rules.CommentRules.words_at.Goals as goal

pub returns-then-count-eq0 : goal.returns-then-count-eq0
returns-then-count-eq0 c =
    let self = c.args.self.now in
    let entries = self.entries.items in
    let place = c.args.place in
    let count = c.partition_point-count.result in
    let point =
    IsPartitionPoint-from_clause (λ (entry : CommentedEntry). leb (start_of entry) place) entries count
    (rw c.deref.ensures.value at c.partition_point-count.ensures.partitioned)
    (IsPartitionedBy-leb start_of entries place self.sorted) (λ a r q k. search rules) in
    let none : count ≡ 0 = omega (arith, c.if-count-eq0.true) in
    let start_is = latest_is_0_if_all_are_beyond place entries count point none in
    ap (comment_words self.name_index.now.text.now) (sym start_is ∙ self.all place)

pub returns : goal.returns
returns c =
    let self = c.args.self.now in
    let entries = self.entries.items in
    let place = c.args.place in
    let count = c.partition_point-count.result in
    let point =
    IsPartitionPoint-from_clause (λ (entry : CommentedEntry). leb (start_of entry) place) entries count
    (rw c.deref.ensures.value at c.partition_point-count.ensures.partitioned)
    (IsPartitionedBy-leb start_of entries place self.sorted) (λ a r q k. search rules) in
    let entry = c.index.result.now in
    let bound : count ≤ length entries = rw c.deref.ensures.value at c.partition_point-count.ensures.bound in
    let some : 0 < count = omega (arith, c.if-count-eq0.false) in
    let latest_is = last_before_point_is_latest place entries count entry point self.sorted some bound in
    let read = self.read (count - 1) entry (omega arith) in
    let here : entry ≡ get_or entries (count - 1) entry = c.index.ensures in
    let words = ap (λ (one : CommentedEntry). map (λ word. word.now) one.words.items) here ∙ read
    ∙ ap (comment_words self.name_index.now.text.now) (sym latest_is ∙ self.all place) in
    ap (λ words. map (λ word. word.now) words) c.as_slice.ensures.value ∙ words
