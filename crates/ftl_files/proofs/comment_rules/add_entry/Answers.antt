use Rattle.std.proofs.Common.{◌∷◌, [], map}
use Rattle.std.proofs.lemmas.List.{map-append}
use Rattle.std.proofs.lemmas.List.Elements.{All-push}
use Rattle.ftl_files.specs.CommentRules.{IsRead, start_of}
use Rattle.ftl_files.specs.declared.comment_rules.CommentedEntry.{CommentedEntry}
use Rattle.ftl_files.proofs.comment_rules.add_entry.Goals as goal

pub returns-clause-read : goal.returns-clause-read
returns-clause-read c =
    λ all. rw c.in_ok-push.ensures.items
    (All-push (IsRead c.args.text.now) c.args.entries.now.items _ all c.in_ok-words.ensures)

pub returns-clause-start : goal.returns-clause-start
returns-clause-start c =
    rw c.in_ok-push.ensures.items (map-append start_of c.args.entries.now.items _)
