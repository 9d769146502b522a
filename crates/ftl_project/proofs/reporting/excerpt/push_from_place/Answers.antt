use Rattle.std.proofs.Common.{◌≡◌, append_assoc, arith, false, length, rules, true}
use Rattle.std.specs.Prelude.{chars, nat_lt}
use Rattle.std.proofs.lemmas.Bool.{le-ltb, lt-ltb}
use Rattle.std.proofs.lemmas.Iterator.{YieldsList-from_chars}
use Rattle.std.proofs.lemmas.Iterator.Consumers.{count_from_yields_List}
use Rattle.ftl_project.specs.Excerpt.{window}
use Rattle.ftl_project.proofs.reporting.excerpt.push_from_place.Goals as goal

pub returns-in_ok-push : goal.returns-in_ok-push
returns-in_ok-push c =
    let each = YieldsList-from_chars c.args.back.now c.utf8.back cc in
    let count : c.count.result ≡ length (chars c.args.back.now) =
    count_from_yields_List c.chars.result _ c.count.ensures.ran each in
    let more : nat_lt window (length (chars c.args.back.now)) ≡ true =
    lt-ltb window (length (chars c.args.back.now)) (omega (arith, count, c.if-count-gt-WINDOW.true)) in
    search (rules, append_assoc, more)

pub returns-else-count-gt-WINDOW : goal.returns-else-count-gt-WINDOW
returns-else-count-gt-WINDOW c =
    let each = YieldsList-from_chars c.args.back.now c.utf8.back cc in
    let count : c.count.result ≡ length (chars c.args.back.now) =
    count_from_yields_List c.chars.result _ c.count.ensures.ran each in
    let no_more : nat_lt window (length (chars c.args.back.now)) ≡ false =
    le-ltb window (length (chars c.args.back.now)) (omega (arith, count, c.if-count-gt-WINDOW.false)) in
    search (rules, append_assoc, no_more)
