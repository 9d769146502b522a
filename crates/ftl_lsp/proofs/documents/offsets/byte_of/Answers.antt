use Rattle.std.proofs.Common.{◌≡◌, ◌≤◌, ◌∙◌, sym, ap, subst, arith, length, slice_index, true, false}
use Rattle.ftl_lsp.specs.Positions.{character_at, position_at}
use Rattle.ftl_lsp.specs.Offsets.{is_reached, IsByteOf}
use Rattle.ftl_lsp.proofs.ByteLemmas.{IsAhead, line_is_ahead, is_at_text_end, line_start_is_place, still_ahead, there}
use Rattle.ftl_lsp.proofs.PositionLemmas.{character_at-le}
use Rattle.ftl_lsp.proofs.documents.offsets.byte_of.Goals as goal

pub loop-at-init : goal.loop-at-init
loop-at-init c =
    let t = c.as_bytes-bytes.result.now in
    let begins = rw c.in-Some.is at c.line_start.ensures.begins in
    record {
      here = line_start_is_place t c.args.position.line c.in-Some.start begins;
      ahead = line_is_ahead t c.args.position c.in-Some.start begins;
    }

pub is_reached-requires : goal.is_reached-requires
is_reached-requires c =
    let bytes = c.as_bytes-bytes.result.now in
    let same : c.loop-at.here.character ≡ character_at bytes c.loop-at.at =
    ap (λ p. p.character) c.loop-at.invariant.here in
    omega (arith, character_at-le bytes c.loop-at.at, c.loop-at-test.true, c.as_bytes-bytes.type_inv)

pub returns-then-is_reached : goal.returns-then-is_reached
returns-then-is_reached c =
    let t = c.as_bytes-bytes.result.now in
    let reached : is_reached (slice_index t c.loop-at.at) (position_at t c.loop-at.at) c.args.position ≡ true =
    ap (λ here. is_reached (slice_index t c.loop-at.at) here c.args.position) (sym c.loop-at.invariant.here)
    ∙ sym c.is_reached.ensures ∙ c.if-is_reached.true in
    subst (λ u. IsByteOf u c.args.position c.loop-at.at) c.as_bytes-bytes.ensures.value
    (there t c.args.position c.loop-at.at c.loop-at.invariant.ahead c.loop-at-test.true reached)

pub next_position-here-requires-clause-position : goal.next_position-here-requires-clause-position
next_position-here-requires-clause-position c = c.loop-at.invariant.here

pub loop-at-preserved : goal.loop-at-preserved
loop-at-preserved c =
    let t = c.as_bytes-bytes.result.now in
    let goes_on : is_reached (slice_index t c.loop-at.at) (position_at t c.loop-at.at) c.args.position ≡ false =
    ap (λ here. is_reached (slice_index t c.loop-at.at) here c.args.position) (sym c.loop-at.invariant.here)
    ∙ sym c.is_reached.ensures ∙ c.if-is_reached.false in
    record {
      here = c.next_position-here.ensures;
      ahead = still_ahead t c.args.position c.loop-at.at c.loop-at.invariant.ahead goes_on;
    }

pub returns : goal.returns
returns c =
    let t = c.as_bytes-bytes.result.now in
    let begins = rw c.in-Some.is at c.line_start.ensures.begins in
    let low : c.loop-at.at ≤ length t = c.loop-at.auto.at-end begins.within in
    let end : c.loop-at.at ≡ length t = omega (arith, low, c.loop-at-test.false) in
    subst (λ u. IsByteOf u c.args.position (length t)) c.as_bytes-bytes.ensures.value
    (is_at_text_end t c.args.position (subst (IsAhead t c.args.position) end c.loop-at.invariant.ahead))
