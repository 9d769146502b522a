use Rattle.std.proofs.Common.{◌≡◌, ◌∙◌, ap, rules}
use Rattle.std.specs.List.{list_any}
use Rattle.std.proofs.lemmas.Iterator.{YieldsList-from_slice}
use Rattle.std.proofs.lemmas.Iterator.Search.{any_from_yields_List}
use Rattle.ftl_files.specs.CommentRules.{word_covers}
use Rattle.ftl_files.proofs.CommentedEntries.{any_word_is_any_of_bytes}
use Rattle.ftl_files.proofs.comment_rules.CommentRules.leave_out.Goals as goal

pub returns-in-Some : goal.returns-in-Some
returns-in-Some c =
    let words = c.words_at-words.result.now in
    let covers = word_covers c.args.kind c.args.name.now in
    let any : c.any.result ≡ list_any (λ word. covers word.now) words =
    any_from_yields_List (λ word. covers word.now) _ _ _ c.any.ensures.ran
    (YieldsList-from_slice words c.iter.ensures.rest) (λ x b q k. search rules) in
    rw c.in-Some.is (any ∙ any_word_is_any_of_bytes covers words ∙ ap (list_any covers) c.words_at-words.ensures)
