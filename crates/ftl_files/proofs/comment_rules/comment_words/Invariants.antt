use Rattle.std.proofs.Common.{◌≡◌, ◌++◌, length, map}
use Rattle.ftl_files.specs.CommentRules.{comment_words, lines_upwards, words_of}
use Rattle.ftl_files.proofs.comment_rules.comment_words.Given as goal

-- the words so far, and those of what is above
abbrev pub invariant-loop-before : goal.invariant-loop-before
invariant-loop-before l = record {
  words :
      map (λ word. word.now) l.words.items ++ words_of (lines_upwards l.above) ≡ comment_words l.fn.text l.fn.start;
}

abbrev pub decreases-loop-before : goal.decreases-loop-before
decreases-loop-before l = length l.above
