use Rattle.std.proofs.Common.{string_bytes, subst}
use Rattle.ftl.specs.BlankLines.{HasPlaces}
use Rattle.ftl.proofs.KeptAgain.{made_text_that_reads_alike_is_kept, normal_is_kept_if_made_reads_otherwise}
use Rattle.ftl.proofs.KeptAgain.{normal_is_kept_if_places_change}
use Rattle.ftl.proofs.blank_lines.with_blank_lines.Goals as goal

pub returns-then-not-is_same : goal.returns-then-not-is_same
returns-then-not-is_same c =
    let gaps_are = rw (c.as_str.ensures.value, ← c.as_slice-there.ensures.value) at c.in_ok-there.ensures in
    let is_made = rw (c.as_str-2.ensures.value, c.as_slice.ensures.value) at c.in_ok-made.ensures in
    let now_are = rw c.as_str-3.ensures.value at c.in_ok-places_now.ensures in
    let same = rw (c.as_slice-2.ensures.value, c.as_slice-3.ensures.value) at c.is_same.ensures in
    normal_is_kept_if_places_change c.args.edition c.args.text.now (string_bytes c.args.normal)
    (string_bytes c.in_ok-made.made)
    c.as_slice-there.result.now c.in_ok-places.places.items gaps_are c.in_ok-places.ensures is_made
    c.in_ok-places_now.places_now.items now_are (λ e. let so = same.1 e in let not = c.if-not-is_same.true in cc)

pub returns-then-branch : goal.returns-then-branch
returns-then-branch c =
    let gaps_are = rw (c.as_str.ensures.value, ← c.as_slice-there.ensures.value) at c.in_ok-there.ensures in
    let is_made = rw (c.as_str-2.ensures.value, c.as_slice.ensures.value) at c.in_ok-made.ensures in
    let now_are = rw c.as_str-3.ensures.value at c.in_ok-places_now.ensures in
    let same = rw (c.as_slice-2.ensures.value, c.as_slice-3.ensures.value) at c.is_same.ensures in
    let alike = rw (c.as_str-4.ensures.value, c.as_str-5.ensures.value) at c.in_ok-reads_alike.ensures in
    made_text_that_reads_alike_is_kept c.args.edition c.args.text.now (string_bytes c.args.normal)
    (string_bytes c.in_ok-made.made)
    c.as_slice-there.result.now c.in_ok-places.places.items gaps_are c.in_ok-places.ensures is_made
    (subst (λ ps. HasPlaces c.args.edition (string_bytes c.in_ok-made.made) c.as_slice-there.result.now ps)
    (same.0 c.if-not-is_same.false) now_are) (alike.0 c.if-branch.true)

pub returns-else-branch : goal.returns-else-branch
returns-else-branch c =
    let gaps_are = rw (c.as_str.ensures.value, ← c.as_slice-there.ensures.value) at c.in_ok-there.ensures in
    let is_made = rw (c.as_str-2.ensures.value, c.as_slice.ensures.value) at c.in_ok-made.ensures in
    let alike = rw (c.as_str-4.ensures.value, c.as_str-5.ensures.value) at c.in_ok-reads_alike.ensures in
    normal_is_kept_if_made_reads_otherwise c.args.edition c.args.text.now (string_bytes c.args.normal)
    (string_bytes c.in_ok-made.made)
    c.as_slice-there.result.now c.in_ok-places.places.items gaps_are c.in_ok-places.ensures is_made
    (λ settled reads. let so = alike.1 reads in let not = c.if-branch.false in cc)
