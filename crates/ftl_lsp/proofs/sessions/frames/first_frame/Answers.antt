use Rattle.std.proofs.Common.{arith, subst, Some, None, List, ℕ}
use Rattle.ftl_lsp.specs.HeaderEnds.{HeaderOf}
use Rattle.ftl_lsp.specs.Fields.{HasLength}
use Rattle.ftl_lsp.specs.Frames.IsFraming.{frame, partial_header, partial_body, long_header, no_length}
use Rattle.ftl_lsp.specs.Frames.IsFraming.{long_body}
use Rattle.ftl_lsp.proofs.sessions.frames.first_frame.Goals as goal

pub returns-then-bytes-lt-HEADER_LIMIT : goal.returns-then-bytes-lt-HEADER_LIMIT
returns-then-bytes-lt-HEADER_LIMIT c = partial_header c.in_default.ensures c.if-bytes-lt-HEADER_LIMIT.true

pub returns-else-bytes-lt-HEADER_LIMIT : goal.returns-else-bytes-lt-HEADER_LIMIT
returns-else-bytes-lt-HEADER_LIMIT c = long_header c.in_default.ensures c.if-bytes-lt-HEADER_LIMIT.false

pub returns-in-None : goal.returns-in-None
returns-in-None c =
    no_length c.in-Some.header c.in-Some.ensures
    (subst (λ (t : List ℕ). HasLength t None) c.split_at.ensures.front c.in-None.ensures)

pub returns-in-Some-content_length : goal.returns-in-Some-content_length
returns-in-Some-content_length c =
    let n = c.in-Some-content_length.length in
    let has = subst (λ (t : List ℕ). HasLength t (Some n)) c.split_at.ensures.front c.in-Some-content_length.ensures in
    long_body c.in-Some.header n c.in-Some.ensures has (omega arith)

pub returns-in-Some-2 : goal.returns-in-Some-2
returns-in-Some-2 c =
    let n = c.in-Some-content_length.length in
    let has = subst (λ (t : List ℕ). HasLength t (Some n)) c.split_at.ensures.front c.in-Some-content_length.ensures in
    partial_body c.in-Some.header n c.in-Some.ensures has (omega arith) (omega arith)

pub returns-in-Some-3 : goal.returns-in-Some-3
returns-in-Some-3 c =
    let n = c.in-Some-content_length.length in
    let has = subst (λ (t : List ℕ). HasLength t (Some n)) c.split_at.ensures.front c.in-Some-content_length.ensures in
    let header : HeaderOf c.args.bytes.now c.in-Some.header = c.in-Some.ensures in
    let within = header.within in
    frame c.in-Some.header n header has (omega arith) (omega (arith, within))
