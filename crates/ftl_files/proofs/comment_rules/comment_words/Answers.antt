use Rattle.std.proofs.Common.{◌≡◌, ◌∙◌, ◌++◌, ap, drop, false, map, sym, take, true}
use Rattle.std.proofs.lemmas.List.{append-nil, append_assoc, take_min}
use Rattle.ftl_files.specs.CommentRules.{is_comment_line, line_words, lines_upwards, words_of}
use Rattle.ftl_files.proofs.CommentLines.{other_line_ends_words, text_before_comment_line_is_shorter}
use Rattle.ftl_files.proofs.CommentLines.{words_above_last_line_are_of_text_before, words_of_comment_line_are_first}
use Rattle.ftl_files.proofs.comment_rules.comment_words.Goals as goal

pub loop-before-init : goal.loop-before-init
loop-before-init c =
    let text = c.args.text.now in
    let taken = ap (λ n. take n text) c.min.ensures ∙ take_min c.args.start text in
    let above = words_above_last_line_are_of_text_before _ _ _ c.last_line.ensures in
    record {
      words =
          ap (λ items. map (λ word. word.now) items ++ words_of (lines_upwards c.last_line.result.0.now))
          c.new-words.ensures.items ∙ sym above ∙ ap (λ before. words_of (drop 1 (lines_upwards before))) taken;
    }

pub returns-then-not-is_comment_line : goal.returns-then-not-is_comment_line
returns-then-not-is_comment_line c =
    let is = c.if-not-is_comment_line.ensures in
    let other : is_comment_line c.last_line-in-loop-before.result.1.now ≡ false = cc in
    let none = other_line_ends_words _ _ _ c.last_line-in-loop-before.ensures other in
    let so_far = map (λ word. word.now) c.loop-before.words.items in
    sym (append-nil so_far) ∙ ap (λ words. so_far ++ words) (sym none) ∙ c.loop-before.invariant.words

pub loop-before-preserved : goal.loop-before-preserved
loop-before-preserved c =
    let line = c.last_line-in-loop-before.result.1.now in
    let above = words_of (lines_upwards c.last_line-in-loop-before.result.0.now) in
    let is = c.if-not-is_comment_line.ensures in
    let comment : is_comment_line line ≡ true = cc in
    let first = words_of_comment_line_are_first _ _ _ c.last_line-in-loop-before.ensures comment in
    let so_far = map (λ word. word.now) c.loop-before.words.items in
    record {
      words =
          ap (λ words. words ++ above) c.in_ok-add_words.ensures ∙ append_assoc so_far (line_words line) above
          ∙ ap (λ words. so_far ++ words) (sym first) ∙ c.loop-before.invariant.words;
    }

pub loop-before-smaller : goal.loop-before-smaller
loop-before-smaller c =
    let is = c.if-not-is_comment_line.ensures in
    let comment : is_comment_line c.last_line-in-loop-before.result.1.now ≡ true = cc in
    text_before_comment_line_is_shorter _ _ _ c.last_line-in-loop-before.ensures comment
