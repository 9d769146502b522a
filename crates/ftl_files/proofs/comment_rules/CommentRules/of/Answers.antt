use Rattle.std.proofs.Common.{◌∙◌, ap, rules}
use Rattle.std.proofs.lemmas.List.Sorted.{All-permutation, IsNonDecreasingBy-from_sort_by_key}
use Rattle.ftl_files.specs.CommentRules.{IsRead, latest, start_of}
use Rattle.ftl_files.proofs.CommentedEntries.{latest_is_same_in_other_order}
use Rattle.ftl_files.proofs.comment_rules.CommentRules.of.Goals as goal

pub invariant_of-result : goal.invariant_of-result
invariant_of-result c =
    let entries = c.in_ok-entries.entries.items in
    let sorted = c.sort_by_key.new.self.items in
    let moved = c.in_ok-sort_by_key.ensures.permutation in
    record {
      read = All-permutation (IsRead c.args.name_index.now.text.now) entries sorted moved c.in_ok-entries.ensures.read;
      sorted =
          IsNonDecreasingBy-from_sort_by_key start_of _ c.in_ok-sort_by_key.ensures.sorted (λ a r q k. search rules);
      all = λ place. latest_is_same_in_other_order place entries sorted moved
          ∙ ap (latest place) c.in_ok-entries.ensures.all;
    }
