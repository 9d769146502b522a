-- Frames at the front of the bytes that are left.
use Rattle.std.proofs.Common.{◌≡◌, ℕ, List, ◌++◌, length, drop, Option, Some, None, IfSome, sym, ap, ◌∙◌}
use Rattle.std.proofs.Common.{subst, arith, append_assoc, codes}
use Rattle.std.proofs.lemmas.List.{length-append}
use Rattle.std.specs.Io.KnownBytes.{Keeps, prepend_known}
use Rattle.std.specs.List.{slice_range}
use Rattle.ftl_lsp.specs.HeaderEnds.{HeaderOf}
use Rattle.ftl_lsp.specs.Frames.{IsFrame, IsFraming}
use Rattle.ftl_lsp.specs.Inbox.{TakesFrame}
use Rattle.ftl_lsp.specs.declared.sessions.frames.FrameFault.{FrameFault}
use Rattle.ftl_lsp.specs.declared.sessions.frames.Framing.TheVariants.{Frame, Refused}
use Rattle.ftl_lsp.proofs.FramesMore.{framing_stays_before_more_bytes, framed_bytes_are_frame}
use Rattle.ftl_lsp.proofs.FramesMore.{header_stays_before_more_bytes}

-- a frame with more bytes after it
IsFrame-append : (t body rest more : List ℕ) → IsFrame t body rest → IsFrame (t ++ more) body (rest ++ more)
IsFrame-append t body rest more f =
    let sizes = simp length-append at (ap length f.whole) in
    let header : HeaderOf t (length f.header) =
    record { ends = f.first; short = f.short; within = omega (arith, sizes) } in
    record {
      header = f.header;
      whole =
          ap (λ l. l ++ more) f.whole ∙ append_assoc (f.header ++ codes "\r\n\r\n" ++ body) rest more;
      first = (header_stays_before_more_bytes t more (length f.header) header).ends;
      short = f.short;
      says = f.says;
      small = f.small;
    }

-- a frame that was taken off the pending bytes was taken off those that were left
pub framed_bytes_are_taken : (old left : Option (List ℕ)) (s t pending body : List ℕ) (start end : ℕ) →
    Keeps old (prepend_known t left) → s ≡ t → IsFraming s (Frame start end) → body ≡ slice_range t start end →
    pending ≡ drop end t → TakesFrame old (prepend_known pending left) body
framed_bytes_are_taken None left s t pending body start end same is framing parts rest = tt
framed_bytes_are_taken (Some bytes) None s t pending body start end same is framing parts rest = absurd same
framed_bytes_are_taken (Some bytes) (Some more) s t pending body start end same is framing parts rest =
    let there : IsFrame t (slice_range t start end) (drop end t) =
    framed_bytes_are_frame t start end (subst (λ u. IsFraming u (Frame start end)) is framing) in
    let named : IsFrame t body pending =
    subst (λ x. IsFrame t x pending) (sym parts)
    (subst (λ x. IsFrame t (slice_range t start end) x) (sym rest) there) in
    subst (λ x. IsFrame x body (pending ++ more)) same (IsFrame-append t body pending more named)

-- pending bytes that are no frame are none with what is left after them
pub refused_framing_refuses_input : (old left : Option (List ℕ)) (s t : List ℕ) (fault : FrameFault) →
    Keeps old (prepend_known t left) →
    s ≡ t → IsFraming s (Refused fault) → IfSome old (λ bytes. IsFraming bytes (Refused fault))
refused_framing_refuses_input None left s t fault same is framing = tt
refused_framing_refuses_input (Some bytes) None s t fault same is framing = absurd same
refused_framing_refuses_input (Some bytes) (Some more) s t fault same is framing =
    subst (λ x. IsFraming x (Refused fault)) (ap (λ u. u ++ more) is ∙ same)
    (framing_stays_before_more_bytes s more (Refused fault) (λ e. cc) framing)
